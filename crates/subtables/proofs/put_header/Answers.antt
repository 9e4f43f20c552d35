use borrow.Author.Rules.{rules}
use Rattle.cells.proofs.Cells.{length-be_bytes}
use Rattle.subtables.proofs.Writing.{three_laid}
use Rattle.subtables.proofs.put_header.Goals as goal

pub returns : goal.returns
returns c = rw (← c.word_field.ensures)
    (three_laid c.put_number.ensures c.put_number-2.ensures c.put_number-3.ensures
    (simp length-be_bytes) (simp length-be_bytes) (simp length-be_bytes) (search rules))

use borrow.Author.Tests.{lt-ltb, le-ltb}
use Rattle.opentype.specs.Subtable.{length_of_row, cell_at}
use Rattle.readers.proofs.subtable.Shape.cell_at.Goals as goal

pub returns-then-self : goal.returns-then-self
unfolding cell_at
returns-then-self c = rw (lt-ltb _ _ c.if-column-self.true, c.if-self.true)

pub returns-else-self : goal.returns-else-self
unfolding cell_at
returns-else-self c = rw (lt-ltb _ _ c.if-column-self.true, c.if-self.false)

pub returns-else-column-self : goal.returns-else-column-self
unfolding cell_at length_of_row
returns-else-column-self c = rw (le-ltb _ _ c.if-column-self.false) c.row_length.ensures

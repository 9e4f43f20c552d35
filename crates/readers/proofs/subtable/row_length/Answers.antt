use native.Mathlib.Omega.{arith}
use Rattle.opentype.specs.Subtable.{length_of_row}
use Rattle.readers.proofs.subtable.row_length.Goals as goal

pub returns-then-long : goal.returns-then-long
unfolding length_of_row
returns-then-long c = rw c.if-long.true

pub returns-else-long : goal.returns-else-long
unfolding length_of_row
returns-else-long c = rw c.if-long.false (omega arith)

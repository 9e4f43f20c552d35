use borrow.Author.Tests.{lt-ltb, le-ltb}
use Rattle.opentype.specs.Subtable.{cell_size}
use Rattle.readers.proofs.subtable.Shape.cell_size.Goals as goal

pub returns-then-self : goal.returns-then-self
unfolding cell_size
returns-then-self c = rw (lt-ltb _ _ c.if-column-self.true, c.if-self.true)

pub returns-else-self : goal.returns-else-self
unfolding cell_size
returns-else-self c = rw (lt-ltb _ _ c.if-column-self.true, c.if-self.false)

pub returns-then-self-2 : goal.returns-then-self-2
unfolding cell_size
returns-then-self-2 c = rw (le-ltb _ _ c.if-column-self.false, c.if-self-2.true)

pub returns-else-self-2 : goal.returns-else-self-2
unfolding cell_size
returns-else-self-2 c = rw (le-ltb _ _ c.if-column-self.false, c.if-self-2.false)

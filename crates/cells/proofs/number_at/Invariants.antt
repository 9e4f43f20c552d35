use Rattle.cells.specs.Be.{Cell}
use Rattle.cells.proofs.number_at.Given as goal

abbrev pub invariant-loop-b : goal.invariant-loop-b
invariant-loop-b g l = Cell l.b-index l.s l.at l.n

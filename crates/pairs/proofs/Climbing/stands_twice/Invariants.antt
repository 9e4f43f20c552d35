use mathlib.Core.Path.{◌≡◌}
use mathlib.Core.Bool.{false}
use Rattle.laws.specs.Pairs.{again}
use Rattle.lists.specs.Search.{some}
use Rattle.pairs.specs.Pairs.{Held}
use Rattle.pairs.proofs.Climbing.stands_twice.Given as goal

abbrev pub invariant-loop-i : goal.invariant-loop-i
invariant-loop-i l = Held l.set l.self.pairs.now l.i × (some (again l.self.pairs.now) l.i ≡ false)

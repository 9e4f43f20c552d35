use native.Mathlib.Omega.{arith}
use Prim.Native.Nat.{ℕ, ◌+◌, ◌-◌}
use mathlib.Core.Path.{refl, ap}
use lib.ListN.{get_or}
use Rattle.numbering.proofs.Renumber.{outer_low, place_low, place_behind, renumber}
use Rattle.numbering.proofs.KeptPairs.renumbered.Goals as goal

pub bounds-self-outer : goal.bounds-self-outer
bounds-self-outer c = omega (arith, outer_low c.args.self.now.numbered c.requires, c.args.self.now.numbered.long)

pub bounds-self-outer-2 : goal.bounds-self-outer-2
bounds-self-outer-2 c = omega (arith, outer_low c.args.self.now.numbered c.requires, c.args.self.now.numbered.long)

pub overflow_sub-result : goal.overflow_sub-result
overflow_sub-result c = omega (arith, c.place_of-at.ensures, place_behind c.args.self.now.numbered c.requires)

pub overflow_cast-result-2 : goal.overflow_cast-result-2
overflow_cast-result-2 c = omega (arith, c.place_of-at.ensures, place_low c.args.self.now.numbered c.requires, c.args.self.now.numbered.few)

pub returns : goal.returns
returns c = renumber c.args.self.now.numbered c.requires refl (ap (λ (k : ℕ). k - get_or c.args.self.now.work.now (8192 + c.args.p.outer) 0) c.place_of-at.ensures)

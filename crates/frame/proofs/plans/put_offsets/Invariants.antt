use Prim.Native.Nat.{◌*◌}
use mathlib.Core.Path.{◌≡◌}
use lib.ListN.{length}
use Rattle.frame.proofs.Offsets.{Offsets}
use Rattle.frame.proofs.plans.put_offsets.Given as goal

abbrev pub invariant-loop-m : goal.invariant-loop-m
invariant-loop-m l = (length l.out ≡ 4 * length l.plans) × Offsets l.plans l.first l.initial.out l.m l.at l.out

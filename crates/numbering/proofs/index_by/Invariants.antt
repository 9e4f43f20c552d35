use Prim.Native.Nat.{◌*◌, ◌≤◌}
use mathlib.Core.Path.{◌≡◌}
use lib.ListN.{take}
use Rattle.numbering.proofs.index_by.Given as goal

abbrev pub invariant-loop-k : goal.invariant-loop-k
invariant-loop-k l = (l.start ≤ l.slot) × (l.slot ≤ 65536 * l.k) × (take 9088 l.work ≡ take 9088 l.initial.work)

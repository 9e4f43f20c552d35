use Prim.Native.Nat.{◌*◌}
use Rattle.lists.proofs.Fronts.{Agreed}
use Rattle.copies.proofs.copy_ahead.Given as goal

abbrev pub invariant-loop-k : goal.invariant-loop-k
invariant-loop-k l = Agreed l.s l.initial.out (32 * l.k) l.out

use Prim.Native.Nat.{◌-◌}
use Rattle.objects.proofs.Going.{Going}
use Rattle.objects.proofs.put_subtables.Given as goal

abbrev pub invariant-loop-at : goal.invariant-loop-at
invariant-loop-at l = Going l.s.bytes.now l.initial.work l.n l.work l.out l.at l.k l.next

abbrev pub decreases-loop-at : goal.decreases-loop-at
decreases-loop-at l = l.n - l.at

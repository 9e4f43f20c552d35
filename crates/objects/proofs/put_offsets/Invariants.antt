use lib.ListN.{take, drop}
use Rattle.objects.proofs.Lists.{Offset}
use Rattle.objects.proofs.put_offsets.Given as goal

abbrev pub invariant-loop-k : goal.invariant-loop-k
invariant-loop-k l = Offset (take l.count (drop 8832 l.work)) l.first l.out l.k l.next

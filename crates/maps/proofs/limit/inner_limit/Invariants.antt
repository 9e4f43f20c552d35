use lib.ListN.{take}
use Rattle.maps.proofs.Limits.{Limited}
use Rattle.maps.proofs.limit.inner_limit.Given as goal

abbrev pub invariant-loop-end : goal.invariant-loop-end
invariant-loop-end l = Limited (take l.kept.count l.kept.work.now) l.end l.limit

abbrev pub decreases-loop-end : goal.decreases-loop-end
decreases-loop-end l = l.end

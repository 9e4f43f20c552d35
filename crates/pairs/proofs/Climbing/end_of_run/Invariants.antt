use Prim.Native.Nat.{◌≤◌}
use lib.ListN.{length}
use Rattle.pairs.specs.Pairs.{OneOuter}
use Rattle.pairs.proofs.Climbing.end_of_run.Given as goal

abbrev pub invariant-loop-k : goal.invariant-loop-k
invariant-loop-k l = OneOuter l.self.pairs.now l.from l.k × (l.k ≤ length l.self.pairs.now)

use Prim.Native.Nat.{◌+◌, ◌*◌}
use Rattle.pairs.specs.Pairs.{OneOuter}
use Rattle.pairs.proofs.Climbing.leap.Given as goal

abbrev pub invariant-loop-k : goal.invariant-loop-k
invariant-loop-k l = OneOuter l.self.pairs.now l.from (l.from + 1 + 8 * l.k)

use Prim.Native.Nat.{◌-◌}
use mathlib.Core.Path.{◌≡◌}
use lib.ListN.{length, take}
use Rattle.measure.proofs.Steps.{Turn}
use Rattle.measure.proofs.measure_runs.Given as goal

abbrev pub invariant-loop-at : goal.invariant-loop-at
invariant-loop-at l = record {
  area : length l.work ≡ 16384;
  low : take 8704 l.work ≡ take 8704 l.initial.work;
  turn : Turn l.regions.store.bytes.now (take l.n l.work) l.work l.m l.at;
}

abbrev pub decreases-loop-at : goal.decreases-loop-at
decreases-loop-at l = l.n - l.at

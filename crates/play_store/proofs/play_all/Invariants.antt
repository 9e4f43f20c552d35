use Rattle.std.proofs.Common.{◌≤◌}
use Rattle.play_store.proofs.play_all.Given as goal

abbrev pub invariant-loop-calls : goal.invariant-loop-calls
invariant-loop-calls g l = l.differ ≤ l.calls

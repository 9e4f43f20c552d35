use Rattle.std.proofs.Common.{◌+◌, ◌≤◌}
use Rattle.replay.proofs.play_all.Given as goal

abbrev pub invariant-loop-left : goal.invariant-loop-left
invariant-loop-left g l = l.left + l.differ ≤ l.fn.count

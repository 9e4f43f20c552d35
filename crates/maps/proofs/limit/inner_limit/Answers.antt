use native.Mathlib.Omega.{arith}
use Rattle.maps.proofs.Limits.{limited_more, limited_end}
use Rattle.maps.proofs.limit.inner_limit.Goals as goal

pub loop-end-preserved : goal.loop-end-preserved
loop-end-preserved c = limited_more c.args.kept.now.numbered c.loop-end.invariant c.loop-end-test.true c.run_start-start.ensures.0 c.run_start-start.ensures.1 c.max-limit.ensures

pub returns : goal.returns
returns c = limited_end c.args.kept.now.numbered c.loop-end.invariant (omega arith)

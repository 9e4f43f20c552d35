use native.Mathlib.Omega.{arith}
use Rattle.pairs.proofs.Laws.{rises_more, rises_all}
use Rattle.pairs.proofs.rises.Goals as goal

pub loop-i-init : goal.loop-i-init
loop-i-init c = λ e k h. absurd (omega arith)

pub loop-i-preserved : goal.loop-i-preserved
loop-i-preserved c = rises_more _ c.loop-i.i c.loop-i.rises (omega arith) c.loop-i.invariant

pub returns : goal.returns
returns c = λ e. rises_all _ c.loop-i.i (omega arith) (c.loop-i.invariant e)

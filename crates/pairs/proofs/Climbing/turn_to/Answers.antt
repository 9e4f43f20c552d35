use native.Mathlib.Omega.{arith}
use Rattle.pairs.proofs.Laws.{inners_first, inners_new}
use Rattle.pairs.proofs.Climbing.turn_to.Goals as goal
use Rattle.pairs.proofs.Climbing.turn_to.Goals.{then-i-eq0-via-then-i-eq0, then-i-eq0-via-else-i-eq0+then-self-i}

pub returns-then-i-eq0 : goal.returns-then-i-eq0
returns-then-i-eq0 c = let a = c.args in
    elim c.then-i-eq0.branch [
      | then-i-eq0-via-then-i-eq0 w ↦ inners_first _ a.self.now.pairs.now a.i _ w.if-i-eq0.true (c.fill.ensures.after (λ y e. e))
      | then-i-eq0-via-else-i-eq0+then-self-i w ↦ inners_new _ a.self.now.pairs.now a.i a.self.now.climb c.requires.i_in_bounds w.if-i-eq0.false (omega (arith, w.if-self-i.true)) (c.fill.ensures.after (λ y e. e))
    ]

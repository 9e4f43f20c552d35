use mathlib.Core.Path.{sym, ◌∙◌, ◌≡◌}
use native.Mathlib.Omega.{arith}
use native.Mathlib.Nat.{not-suc-le-zero}
use lib.ListN.{length}
use Rattle.lists.proofs.Tests.{some_none, some_more, some_at}
use Rattle.laws.specs.Pairs.{twice-some}
use Rattle.pairs.proofs.Laws.{inners_again, inners_more}
use Rattle.pairs.proofs.Climbing.stands_twice.Goals as goal

pub loop-i-init : goal.loop-i-init
loop-i-init c = (record { is = λ h. absurd (not-suc-le-zero h) }, some_none _)

pub returns-then-contains : goal.returns-then-contains
returns-then-contains c = let l = c.loop-i in
    let h = inners_again c.args.self.now.pairs.now l.i c.turn_to.ensures in
    sym (twice-some _ ∙ some_at _ l.i _ (omega arith) (sym h ∙ sym c.contains.ensures ∙ c.if-contains.true))

pub loop-i-preserved : goal.loop-i-preserved
loop-i-preserved c = let l = c.loop-i in
    let i = inners_again c.args.self.now.pairs.now l.i c.turn_to.ensures in (
      rw c.put.ensures (inners_more c.args.self.now.pairs.now l.i (omega arith) (omega arith) c.turn_to.ensures),
      some_more _ l.i l.invariant.1 (sym i ∙ sym c.contains.ensures ∙ c.if-contains.false),
    )

pub returns : goal.returns
returns c = let l = c.loop-i in
    let e : l.i ≡ length c.args.self.now.pairs.now = omega arith in
    sym (twice-some _ ∙ rw (← e) l.invariant.1)

use mathlib.Core.Path.{refl, sym, ◌∙◌}
use native.Mathlib.Omega.{arith}
use lib.Seq.{take_all}
use Rattle.std.proofs.lemmas.List.{take_more, take_more_set, get_or_read}
use Rattle.copies.proofs.copy.Goals as goal

pub loop-i-init : goal.loop-i-init
loop-i-init g c = refl

pub loop-i-preserved : goal.loop-i-preserved
loop-i-preserved g c =
    let l = c.loop-i in
    let x = c.index-s-i.result in
    let s = c.args.s.now in
    let read = get_or_read s l.i x c.loop-i-test.true c.index-s-i.is x in
    take_more_set l.out l.i x (omega (arith, c.requires, l.auto.out, c.loop-i-test.true)) ∙ rw l.invariant (sym (rw (sym read) at (take_more s l.i x c.loop-i-test.true)))

pub returns : goal.returns
returns g c =
    let l = c.loop-i in
    sym (take_all l.i l.out (omega (arith, c.requires, l.auto.out, c.loop-i-test.false))) ∙ l.invariant ∙ take_all l.i c.args.s.now c.loop-i-test.false

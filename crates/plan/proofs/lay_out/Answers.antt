use mathlib.Core.Path.{sym, ◌∙◌}
use native.Mathlib.Omega.{arith}
use lib.ListN.{length-take}
use Rattle.laws.specs.Inside.{regions_inside}
use Rattle.plan.proofs.Plans.{gives_7, gives_8, gives_9, gives_bytes, ready_of}
use Rattle.plan.proofs.lay_out.Goals as goal

pub returns-then-nothing_kept : goal.returns-then-nothing_kept
returns-then-nothing_kept c = gives_7 c.requires.whole c.args.keep (sym c.nothing_kept.ensures ∙ c.if-nothing_kept.true)

pub returns-then-m : goal.returns-then-m
returns-then-m c = gives_8 c.requires.whole c.args.keep (sym c.nothing_kept.ensures ∙ c.if-nothing_kept.false) c.if-m.true

pub returns-then-m-2 : goal.returns-then-m-2
returns-then-m-2 c = gives_9 c.requires.whole c.args.keep (sym c.nothing_kept.ensures ∙ c.if-nothing_kept.false) c.if-m.false c.if-m-2.true

pub count_used-used-requires : goal.count_used-used-requires
count_used-used-requires c = omega (arith, c.args.regions.now.region_count, (regions_inside _ c.args.regions.now.sound).few)

pub list_length-requires : goal.list_length-requires
list_length-requires c =
    let r = c.args.regions.now in
    (omega (arith, c.count_used-used.ensures.1, r.region_count, (regions_inside _ r.sound).few), r.axes_bound)

pub returns : goal.returns
returns c =
    let h = c.requires.whole in
    let i = c.if-m.false in
    let k = c.count_used-used.ensures in
    let l = length-take c.args.n c.args.work.now in (
      gives_bytes h c.args.keep (sym c.nothing_kept.ensures ∙ c.if-nothing_kept.false) i c.if-m-2.false,
      ready_of c.args.regions.now _ (omega arith) c.requires.work_value h i k.0 k.1 c.list_length.ensures.0 c.list_length.ensures.1,
    )

use mathlib.Core.Path.{◌∙◌}
use native.Mathlib.Nat.{add-sub_cancel_left}
use native.Mathlib.Omega.{arith}
use Rattle.lists.proofs.Laid.{laid_none, laid_more}
use Rattle.opentype.specs.Store.{record_length}
use Rattle.laws.specs.Inside.{regions_inside}
use Rattle.objects.proofs.Lists.{Copying, copying, records_all}
use Rattle.objects.proofs.put_records.Goals as goal
use Rattle.objects.proofs.put_records.Goals.{After-used_length-length}

turn : (c : After-used_length-length) → let l = c.loop-r in let a = c.args in
    Copying a.regions.now.store.bytes.now a.work.now a.out.now l.r l.next l.from c.used_length-length.result
unfolding record_length
turn c =
    let l = c.loop-r in
    let g = c.args.regions.now in
    copying g.store.bytes.now c.args.work.now (regions_inside _ g.sound).inside _ c.requires l.invariant.laid (omega (arith, g.region_count))
    (rw (← g.place, ← g.axis_count) l.invariant.place) (rw g.axis_count) c.used_length-length.ensures

pub overflow_add-from : goal.overflow_add-from
overflow_add-from c = let g = c.args.regions.now in omega (arith, g.place, (regions_inside _ g.sound).head)

pub loop-r-init : goal.loop-r-init
loop-r-init c = record { place = omega arith; laid = laid_none _ _ }

pub used_length-length-requires : goal.used_length-length-requires
used_length-length-requires c = let g = c.args.regions.now in omega (arith, g.region_count, (regions_inside _ g.sound).few)

pub overflow_add-end : goal.overflow_add-end
overflow_add-end c = omega (arith, turn c)

pub overflow_add-stop : goal.overflow_add-stop
overflow_add-stop c = omega (arith, turn c)

pub slice_bounds-copy-end : goal.slice_bounds-copy-end
slice_bounds-copy-end c = omega (arith, turn c)

pub slice_bounds-copy-end-in-loop-r : goal.slice_bounds-copy-end-in-loop-r
slice_bounds-copy-end-in-loop-r c = omega (arith, turn (goal.at.slice_bounds-copy-end-in-loop-r c).After-used_length-length)

pub overflow_add-from-in-loop-r : goal.overflow_add-from-in-loop-r
overflow_add-from-in-loop-r c = omega (arith, turn (goal.at.overflow_add-from-in-loop-r c).After-used_length-length)

pub loop-r-preserved : goal.loop-r-preserved
loop-r-preserved c =
    let l = c.loop-r in
    let t = turn (goal.at.loop-r-preserved c).After-used_length-length in
    let b = (rw (add-sub_cancel_left l.from c.used_length-length.result) at c.copy.ensures) ∙ t.bytes in
    record { place = omega (arith, l.invariant.place); laid = laid_more l.invariant.laid (omega (arith, t.size)) t.room b }

pub returns : goal.returns
returns c =
    let g = c.args.regions.now in
    records_all g.store.bytes.now c.args.work.now (regions_inside _ g.sound).inside c.requires c.loop-r.invariant.laid (omega (arith, g.region_count))

use Prim.Native.Nat.{◌≤◌, ◌+◌}
use mathlib.Core.Path.{◌≡◌, sym, ◌∙◌}
use native.Mathlib.Nat.{le_of_eq}
use native.Mathlib.Omega.{arith}
use lib.ListN.{length}
use Rattle.std.proofs.Common.{None}
use Rattle.std.proofs.lemmas.List.{get_or_read}
use Rattle.lists.proofs.Laid.{laid_none, laid_inside, laid_more}
use Rattle.maps.proofs.Bytes.{plan_none}
use Rattle.maps.specs.Plans.{MapPlanned, size_of}
use Rattle.frame.specs.Plans.{kept_runs, part_at}
use Rattle.frame.proofs.MapPlans.{part_length, narrow, same-part, laid_skip}
use Rattle.frame.proofs.plans.put_maps.Goals as goal
use Rattle.frame.proofs.plans.put_maps.Goals.{After-map_length, in-Some, in_default}

-- in a turn: the map's plan, and its bytes, which end inside; at most 4 an entry
turn : (c : After-map_length) → let l = c.loop-m in
    let s = c.args.sources.now in
    let part = part_at s.maps s.table.now c.args.glyphs.now l.m in
    MapPlanned s.table.now (kept_runs s.maps s.table.now c.args.glyphs.now) c.args.glyphs.now l.m c.index-plans-m.result
    × (c.map_length.result ≡ length part)
    × (l.at + length part ≤ length c.args.out.now)
    × (size_of c.index-plans-m.result ≤ 4)
turn c =
    let l = c.loop-m in
    let p = c.requires.planned in
    let plan = get_or_read c.args.plans.now l.m c.index-plans-m.result c.loop-m-test.true c.index-plans-m.is None in (
      rw plan (p.each l.m (omega arith)),
      (rw plan at c.map_length.ensures.0) ∙ part_length p l.m (omega arith),
      laid_inside c.args.sources.now.maps l.invariant (omega arith) (le_of_eq (sym p.bytes)),
      rw plan (narrow p l.m (omega arith)),
    )

pub loop-m-init : goal.loop-m-init
loop-m-init c = laid_none _ _

pub slice_bounds-put_map-end : goal.slice_bounds-put_map-end
slice_bounds-put_map-end c = omega (arith, turn (goal.at.slice_bounds-put_map-end c).After-map_length)

pub put_map-requires-clause-narrow : goal.put_map-requires-clause-narrow
put_map-requires-clause-narrow c = let t = turn (goal.at.put_map-requires-clause-narrow c).After-map_length in rw c.in-Some.is at t.3

pub loop-m-preserved : goal.loop-m-preserved
loop-m-preserved c =
    let t = turn (goal.at.loop-m-preserved c).After-map_length in
    elim c.match-plan.branch [
      | in-Some w ↦ rw (w.out-is, w.at-is) (laid_more c.loop-m.invariant (omega arith) (omega arith) (w.put_map.ensures ∙ same-part c.requires.collected _))
      | in_default w ↦ rw (w.out-is, w.at-is) (laid_skip c.loop-m.invariant (plan_none _ _ _ _ (rw w.in_default.is at t.0)) t.1)
    ]

use mathlib.Core.Bool.{false}
use mathlib.Core.Path.{refl, ◌∙◌, ◌≡◌}
use native.Mathlib.Omega.{arith}
use lib.Seq.{length-take-le}
use lib.ListN.{length, take}
use Rattle.std.proofs.lemmas.Result.{err_from_is_err_and}
use Rattle.rules.specs.Lists.{outers_fall}
use Rattle.lists.proofs.Cuts.{front_same}
use Rattle.laws.specs.Inside.{regions_inside}
use Rattle.pairs.proofs.Laws.{front_end}
use Rattle.measure.proofs.Steps.{Nothing, turn_first, turn_refused, turn_few, turn_more, turn_end}
use Rattle.measure.proofs.measure_runs.Goals as goal

pub loop-at-init : goal.loop-at-init
loop-at-init c =
    let h = c.default-m.ensures in
    let none : Nothing c.default-m.result = record { count = h.0; length = h.1.0; live = h.1.1.0; index = h.1.1.1.0; middle = h.1.1.1.1 } in
    record { area = c.told-work; low = refl; turn = turn_first _ _ _ none c.requires.none_used.0 }

pub invariant_of-pairs : goal.invariant_of-pairs
invariant_of-pairs c =
    let l = c.loop-at in
    record { climb = rw (front_same l.work c.args.work.now 8704 l.invariant.low c.args.n (omega arith)) c.requires.none_used.1 }

pub returns-in_err-t-clause-measuring : goal.returns-in_err-t-clause-measuring
returns-in_err-t-clause-measuring c =
    let l = c.loop-at in
    let e = front_same l.work c.args.work.now 8704 l.invariant.low c.args.n (omega arith) in
    let p = err_from_is_err_and c.from_residual.result c.from_residual.ensures.1 in
    rw (p.1, p.2) (rw e at (turn_refused (omega arith) l.invariant.turn (front_end (omega arith) c.end_of_run-end.ensures) c.in_err-t.ensures))

pub measure_run-m-requires-clause-regions_value : goal.measure_run-m-requires-clause-regions_value
measure_run-m-requires-clause-regions_value c =
    let r = c.args.regions.now in
    (rw c.in_ok-t.ensures.0 r.region_count, omega (arith, r.region_count, (regions_inside _ r.sound).few))

pub measure_run-m-requires-clause-fits : goal.measure_run-m-requires-clause-fits
measure_run-m-requires-clause-fits c =
    let l = c.loop-at in
    (l.invariant.turn.fits, turn_few (omega arith) l.invariant.turn (front_end (omega arith) c.end_of_run-end.ensures) c.args.regions.now.store.sound c.in_ok-t.ensures.1)

pub loop-at-preserved : goal.loop-at-preserved
loop-at-preserved c =
    let l = c.loop-at in
    let n = c.args.n in
    let t = c.in_ok-t.ensures in
    let m = c.measure_run-m in
    let step = rw t.0 at m.ensures.step in
    let f : outers_fall (take n l.work) ≡ false = rw (front_same l.work c.args.work.now 8704 l.invariant.low n (omega arith)) c.requires.none_used.1 in
    record {
      area = m.array_long;
      low = step.low ∙ l.invariant.low;
      turn = rw (front_same m.new.work l.work 8704 step.low n (omega arith))
          (turn_more (omega arith) l.invariant.turn (front_end (omega arith) c.end_of_run-end.ensures) c.args.regions.now.store.sound f t.1 step m.ensures.fits_after);
    }

pub returns-clause-measuring : goal.returns-clause-measuring
returns-clause-measuring c =
    let l = c.loop-at in
    let n = c.args.n in
    let e = front_same l.work c.args.work.now 8704 l.invariant.low n (omega arith) in
    let f : length (take n l.work) ≡ n = length-take-le n l.work (omega arith) in
    rw e at (turn_end l.invariant.turn (omega (arith, l.invariant.turn.inside)) (omega arith))

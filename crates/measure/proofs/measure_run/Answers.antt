use Prim.Native.Nat.{◌-◌}
use native.Mathlib.Omega.{arith}
use borrow.Author.Rules.{rules}
use Rattle.rows.proofs.Plans.{planned_inside}
use Rattle.measure.proofs.Kept.{bytes_small, bytes_are, length-items}
use Rattle.measure.proofs.Steps.{step_of, fits_more}
use Rattle.measure.proofs.measure_run.Goals as goal

pub mark_regions-bad-requires-clause-inside : goal.mark_regions-bad-requires-clause-inside
mark_regions-bad-requires-clause-inside c = planned_inside c.plan_columns-p.ensures.planned

pub overflow_cast-work : goal.overflow_cast-work
overflow_cast-work c =
    let p = c.plan_columns-p.result in
    record { fits = omega (arith, bytes_small p.counts (c.args.to - c.args.from) p.few c.subtable_length-length.ensures) }

pub with_subtable-requires : goal.with_subtable-requires
with_subtable-requires c =
    let p = c.plan_columns-p.result in
    let b = bytes_small p.counts (c.args.to - c.args.from) p.few c.subtable_length-length.ensures in
    (c.requires.fits.1, omega (arith, c.requires.fits.0.few, c.requires.fits.0.small), omega (arith, b))

pub returns : goal.returns
returns c =
    let w = c.args.work.now in
    let p = c.plan_columns-p.result in
    let planned = c.plan_columns-p.ensures.planned in
    let e = c.subtable_length-length.ensures in
    let n = c.args.to - c.args.from in
    let step = step_of c.args.t.now.bytes.now c.args.t.now.shape.at _ w c.plan_columns-p.new.work c.mark_regions-bad.new.work _ c.args.m _ _ c.args.regions
    c.requires.regions_value.0 (omega arith) c.requires.fits.1 planned c.plan_columns-p.ensures.work_unchanged c.mark_regions-bad.ensures.value c.mark_regions-bad.ensures.marked
    (bytes_are n planned e (length-items w c.args.from c.args.to (search rules) (omega arith))) in
    record {
      step = rw c.with_subtable.ensures step;
      fits_after = rw c.with_subtable.ensures (fits_more c.args.to p.counts _ c.requires.fits.0 c.requires.fits.1 (search rules) (bytes_small p.counts n p.few e));
    }

use mathlib.Core.Path.{◌∙◌}
use native.Mathlib.Omega.{arith}
use lib.ListN.{take}
use Rattle.std.proofs.lemmas.Result.{err_from_is_err_and}
use Rattle.rules.specs.Lists.{runs}
use Rattle.rules.specs.StoreCut.{checked_cut}
use Rattle.lists.proofs.Cuts.{front_same}
use Rattle.plan.proofs.Plans.{plan_whole}
use Rattle.plan.proofs.plan_runs.Goals as goal

pub measure_runs-requires-clause-none_used : goal.measure_runs-requires-clause-none_used
measure_runs-requires-clause-none_used c =
    let k = c.clear_used in
    (k.ensures.none_used, rw (front_same k.new.work c.args.work.now 8704 k.ensures.work_unchanged c.args.n (omega arith)) c.requires.work_value)

pub returns-in_err-m-clause-laid_as : goal.returns-in_err-m-clause-laid_as
returns-in_err-m-clause-laid_as c =
    let w = c.args.work.now in
    let n = c.args.n in
    let k = c.clear_used in
    let p = err_from_is_err_and c.from_residual.result c.from_residual.ensures.1 in
    rw (p.1, p.2)
    (rw (front_same k.new.work w 8704 k.ensures.work_unchanged n (omega arith))
    at (c.in_err-m.ensures.measuring (checked_cut c.args.regions.now.store.bytes.now (runs (take n w)) c.args.keep)))

pub lay_out-requires-clause-work_value : goal.lay_out-requires-clause-work_value
lay_out-requires-clause-work_value c =
    let k = c.measure_runs in
    rw (front_same k.new.work c.args.work.now 8704 (k.ensures.work_unchanged ∙ c.clear_used.ensures.work_unchanged) c.args.n (omega arith)) c.requires.work_value

pub lay_out-requires-clause-whole : goal.lay_out-requires-clause-whole
lay_out-requires-clause-whole c =
    let k = c.measure_runs in
    rw (front_same k.new.work c.clear_used.new.work 8704 k.ensures.work_unchanged c.args.n (omega arith)) c.in_ok-m.ensures.measuring

pub returns-clause-laid_as : goal.returns-clause-laid_as
returns-clause-laid_as c =
    let w = c.args.work.now in
    let w₁ = c.clear_used.new.work in
    let w₂ = c.measure_runs.new.work in
    let n = c.args.n in
    let p = rw (front_same w₂ w₁ 8704 c.measure_runs.ensures.work_unchanged n (omega arith)) at c.lay_out.ensures in
    rw (front_same w₁ w 8704 c.clear_used.ensures.work_unchanged n (omega arith))
    at (plan_whole (take n w₁) c.args.keep w₂ c.lay_out.result c.in_ok-m.ensures.measuring p)

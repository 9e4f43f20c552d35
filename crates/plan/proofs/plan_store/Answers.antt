use lib.ListN.{take}
use Rattle.std.proofs.lemmas.Result.{err_from_is_err_and}
use Rattle.plan.proofs.Plans.{opens_null, opens_7, opens_4, opens_runs}
use Rattle.plan.proofs.plan_store.Goals as goal

pub returns-in_err-regions-clause-store_planned : goal.returns-in_err-regions-clause-store_planned
returns-in_err-regions-clause-store_planned c =
    let p = err_from_is_err_and c.from_residual.result c.from_residual.ensures.1 in
    let h = c.in_err-regions.ensures in
    rw (p.1, p.2, h.1) (opens_4 _ _ c.args.keep h.0 h.2)

pub returns-then-keep-clause-store_planned : goal.returns-then-keep-clause-store_planned
returns-then-keep-clause-store_planned c = opens_null _ _ c.args.keep (rw c.in_default.is at c.in_ok-regions.ensures) c.if-keep.true

pub returns-in_default-clause-store_planned : goal.returns-in_default-clause-store_planned
returns-in_default-clause-store_planned c = opens_7 _ _ c.args.keep (rw c.in_default.is at c.in_ok-regions.ensures) c.if-keep.false

pub returns-in_err-layout-clause-store_planned : goal.returns-in_err-layout-clause-store_planned
returns-in_err-layout-clause-store_planned c =
    let p = err_from_is_err_and c.from_residual-in_err-layout.result c.from_residual-in_err-layout.ensures.1 in
    let r = c.in-Some.regions in
    let o = rw c.in-Some.is at c.in_ok-regions.ensures in
    rw (p.1, p.2, opens_runs c.args.s.now.bytes.now (take c.args.n c.args.work.now) c.args.keep o.0 (rw o.1 at r.sound)) (rw o.1 at c.in_err-layout.ensures.laid_as)

pub returns-clause-store_planned : goal.returns-clause-store_planned
returns-clause-store_planned c =
    let r = c.in-Some.regions in
    let o = rw c.in-Some.is at c.in_ok-regions.ensures in
    rw (opens_runs c.args.s.now.bytes.now (take c.args.n c.args.work.now) c.args.keep o.0 (rw o.1 at r.sound)) (rw o.1 at c.in_ok-layout.ensures.laid_as)

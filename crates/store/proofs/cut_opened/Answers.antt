use mathlib.Core.Path.{refl, sym}
use mathlib.Core.List.{[]}
use native.Mathlib.Omega.{arith}
use Rattle.std.proofs.lemmas.Result.{err_from_is_err_and}
use Rattle.lists.proofs.Parts.{put_next}
use Rattle.lists.proofs.Cuts.{front_same}
use Rattle.rules.specs.StoreCut.{null_store}
use Rattle.laws.specs.Lengths.{length_null}
use Rattle.laws.specs.Fitted.{fit_refused, fit_short, fit_written}
use Rattle.store.proofs.cut_opened.Goals as goal

pub returns-in_err-layout : goal.returns-in_err-layout
returns-in_err-layout c =
    let p = err_from_is_err_and c.from_residual.result c.from_residual.ensures.1 in
    rw (p.1, p.2) (fit_refused c.in_err-layout.ensures.store_planned)

pub returns-then-out-lt8 : goal.returns-then-out-lt8
returns-then-out-lt8 c = fit_short null_store (rw c.in_default.is at c.in_ok-layout.ensures.store_planned) (rw length_null c.if-out-lt8.true)

pub returns-in_default : goal.returns-in_default
returns-in_default c =
    fit_written null_store (rw c.in_default.is at c.in_ok-layout.ensures.store_planned) (sym length_null) (omega arith)
    (put_next c.args.out.now [] null_store 0 8 refl refl (omega arith) c.put_null.ensures refl)

pub returns-then-out-length : goal.returns-then-out-length
returns-then-out-length c =
    let p = rw c.in-Some.is at c.in_ok-layout.ensures.store_planned in
    fit_short _ p.0 (rw (← p.1.whole) c.if-out-length.true)

pub put_store-requires-clause-ready : goal.put_store-requires-clause-ready
put_store-requires-clause-ready c =
    let p = rw c.in-Some.is at c.in_ok-layout.ensures.store_planned in
    let e = front_same c.plan_store.new.work c.args.work.now 8704 c.plan_store.ensures.work_unchanged c.args.n (omega arith) in
    simp p.1.source (rw e p.1)

pub returns : goal.returns
returns c =
    let p = rw c.in-Some.is at c.in_ok-layout.ensures.store_planned in
    let e = front_same c.plan_store.new.work c.args.work.now 8704 c.plan_store.ensures.work_unchanged c.args.n (omega arith) in
    let b = rw (p.1.source, e) at c.put_store.ensures in
    fit_written _ p.0 p.1.whole (omega arith) (put_next c.args.out.now [] _ 0 c.in-Some.layout.length refl refl (omega arith) b refl)

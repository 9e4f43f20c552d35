use mathlib.Core.Path.{◌≡◌, refl, sym, ◌∙◌}
use native.Mathlib.Omega.{arith}
use Rattle.std.proofs.lemmas.Result.{err_from_is_err_and}
use Rattle.opentype.specs.Table.{store_of}
use Rattle.laws.specs.Inside.{header_inside}
use Rattle.laws.specs.Fitted.{fit_refused, fit_as}
use Rattle.tables.specs.Cut.{Passed}
use Rattle.tables.proofs.Stores.{checked, collected}
use Rattle.tables.proofs.Chain.{past_end, is_store, bad_store_lem, empty_store, bad_map_lem, bad_outer_lem, all_passed}
use Rattle.tables.proofs.cut_at.Goals as goal
use Rattle.tables.proofs.cut_at.Goals.{In-Some, In_ok-sources}

-- the bytes that are lent are the store's
store : (c : In-Some) → c.in-Some.bytes.now ≡ store_of c.args.t.now
store c = is_store c.args.t.now c.args.at c.requires.1 c.in-Some.ensures.lookup.0.2

pub returns-in_default : goal.returns-in_default
returns-in_default c = fit_refused (bad_store_lem c.requires.0 (store_of c.args.t.now) refl (past_end c.args.t.now (grind (arith, c.in_default.ensures.lookup))))

pub returns-in_err-store : goal.returns-in_err-store
returns-in_err-store c =
    let p = err_from_is_err_and c.from_residual.result c.from_residual.ensures.1 in
    let is = store (goal.at.returns-in_err-store c).In-Some in
    rw (p.1, p.2, c.in_err-store.ensures.0) (fit_refused (bad_store_lem c.requires.0 _ is c.in_err-store.ensures.1))

pub returns-then-count-eq0 : goal.returns-then-count-eq0
returns-then-count-eq0 c =
    let is = c.in_ok-store.ensures ∙ store (goal.at.returns-then-count-eq0 c).In-Some in
    fit_refused (empty_store c.requires.0 _ is c.in_ok-store.store.sound c.count-count.ensures.value c.if-count-eq0.true)

pub open-requires-2 : goal.open-requires-2
open-requires-2 c = (header_inside _ _ c.requires.0.header).head

pub returns-in_err-sources : goal.returns-in_err-sources
returns-in_err-sources c =
    let p = err_from_is_err_and c.from_residual-in_err-sources.result c.from_residual-in_err-sources.ensures.1 in
    let is = c.in_ok-store.ensures ∙ store (goal.at.returns-in_err-sources c).In-Some in
    rw (p.1, p.2, c.in_err-sources.ensures.0)
    (fit_refused (bad_map_lem c.requires.0 _ is c.in_ok-store.store.sound c.count-count.ensures.value c.if-count-eq0.false c.in_err-sources.ensures.1))

-- what has passed, of the sources
passed : (c : In_ok-sources) → let s = c.in_ok-sources.sources in Passed s.maps s.table.now c.args.glyphs.now
passed c = rw (c.in_ok-sources.ensures.0, c.in_ok-sources.ensures.1) c.requires.0

source_store : (c : In_ok-sources) → c.in_ok-store.store.bytes.now ≡ store_of c.in_ok-sources.sources.table.now
source_store c = rw c.in_ok-sources.ensures.0 (c.in_ok-store.ensures ∙ store (goal.at.In_ok-sources c).In-Some)

pub returns-then-bad_outers : goal.returns-then-bad_outers
returns-then-bad_outers c =
    let g = (goal.at.returns-then-bad_outers c).In_ok-sources in
    let outers = sym c.bad_outers.ensures ∙ c.if-bad_outers.true in
    rw (← c.in_ok-sources.ensures.0, ← c.in_ok-sources.ensures.1)
    (fit_refused (bad_outer_lem (passed g) _ (source_store g) c.in_ok-store.store.sound c.count-count.ensures.value c.if-count-eq0.false c.in_ok-sources.sources.sound outers))

pub collect-n-requires : goal.collect-n-requires
collect-n-requires c = checked (passed (goal.at.collect-n-requires c).In_ok-sources) c.count-count.ensures.upper_bound (sym c.bad_outers.ensures ∙ c.if-bad_outers.false)

pub cut_kept-requires-clause-store_value : goal.cut_kept-requires-clause-store_value
cut_kept-requires-clause-store_value c = source_store (goal.at.cut_kept-requires-clause-store_value c).In_ok-sources

pub cut_kept-requires-clause-collected : goal.cut_kept-requires-clause-collected
cut_kept-requires-clause-collected c = collected (passed (goal.at.cut_kept-requires-clause-collected c).In_ok-sources) c.collect-n.ensures.work_after c.collect-n.ensures.numbered

pub returns : goal.returns
returns c =
    let g = (goal.at.returns c).In_ok-sources in
    let outers = sym c.bad_outers.ensures ∙ c.if-bad_outers.false in
    rw (← c.in_ok-sources.ensures.0, ← c.in_ok-sources.ensures.1)
    (fit_as (all_passed (passed g) _ (source_store g) c.in_ok-store.store.sound c.count-count.ensures.value c.if-count-eq0.false c.in_ok-sources.sources.sound outers) c.cut_kept.ensures)

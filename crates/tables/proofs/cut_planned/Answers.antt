use Prim.Native.Nat.{ℕ, ◌≤◌}
use mathlib.Core.Path.{sym, ap, ◌∙◌}
use mathlib.Core.List.{List}
use native.Mathlib.Omega.{arith}
use lib.ListN.{length}
use Rattle.rules.specs.Numbering.{kept_pairs}
use Rattle.lists.proofs.Cuts.{front_same}
use Rattle.laws.specs.Fitted.{fit_refused, fit_short, fit_written}
use Rattle.frame.specs.Plans.{Collected, part_at}
use Rattle.tables.specs.Cut.{store_kept}
use Rattle.tables.proofs.Stores.{kept_length, kept_small, still_collected, still_kept}
use Rattle.tables.proofs.Laying.{table_length, table_laid, wide_outcome, laid_outcome}
use borrow.Author.Rules.{rules}
use Rattle.tables.proofs.cut_planned.Goals as goal
use Rattle.tables.proofs.cut_planned.Goals.{After-index}

-- with the index made, what is collected stands as before
collected : (c : After-index)
    → Collected c.args.sources.now.maps c.args.sources.now.table.now c.args.glyphs.now c.args.n c.index.new.work
collected c = still_collected c.requires.collected (front_same c.index.new.work c.args.work.now 9088 c.index.ensures 8704 (omega arith)) (search rules)

pub invariant_of-kept : goal.invariant_of-kept
invariant_of-kept c = record { numbered = (collected (goal.at.invariant_of-kept c).After-index).numbered }

pub plan_maps-p-requires : goal.plan_maps-p-requires
plan_maps-p-requires c = collected (goal.at.plan_maps-p-requires c).After-index

pub returns-then-p : goal.returns-then-p
returns-then-p c = fit_refused (wide_outcome _ _ _ _ _ (sym c.plan_maps-p.ensures.entries ∙ c.if-p.true))

pub returns-then-out-end : goal.returns-then-out-end
returns-then-out-end c =
    let s = c.args.sources.now in
    let kept = store_kept (kept_pairs s.maps s.table.now c.args.glyphs.now) c.args.layout.now in
    let p = c.plan_maps-p.ensures in
    let n = table_length s.maps s.table.now kept (λ m. part_at s.maps s.table.now c.args.glyphs.now m) (omega (arith, s.room)) in
    fit_short _ (laid_outcome _ _ _ _ _ (sym p.entries ∙ c.if-p.false)) (omega (arith, p.bytes, kept_length _ _ _ c.requires.kept, c.store_length.ensures, n))

pub put_header-requires-clause-maps_bound : goal.put_header-requires-clause-maps_bound
put_header-requires-clause-maps_bound c = (c.requires.collected.four, search rules, omega (arith, kept_small _ _ _ c.requires.kept, c.store_length.ensures, c.requires.collected.four))

pub put_maps-requires-clause-collected : goal.put_maps-requires-clause-collected
put_maps-requires-clause-collected c = collected (goal.at.put_maps-requires-clause-collected c).After-index

pub put_planned-requires-clause-kept : goal.put_planned-requires-clause-kept
put_planned-requires-clause-kept c =
    rw (collected (goal.at.put_planned-requires-clause-kept c).After-index).pairs (still_kept _ _ c.index.new.work c.index.ensures _ c.requires.kept)

pub returns : goal.returns
returns c =
    let s = c.args.sources.now in
    let kept = store_kept (kept_pairs s.maps s.table.now c.args.glyphs.now) c.args.layout.now in
    let p = c.plan_maps-p.ensures in
    let four : 4 ≤ length s.table.now = omega (arith, s.room) in
    let size = c.store_length.ensures ∙ kept_length _ _ _ c.requires.kept in
    let n = table_length s.maps s.table.now kept (λ m. part_at s.maps s.table.now c.args.glyphs.now m) four in
    let same = ap (λ (pairs : List ℕ). store_kept pairs c.args.layout.now) (collected (goal.at.returns c).After-index).pairs in
    let laid = table_laid c.args.out.now kept c.store_length.result p size four c.put_header.ensures (c.put_planned.ensures ∙ same) c.put_maps.ensures c.if-out-end.false in
    fit_written _ (laid_outcome _ _ _ _ _ (sym p.entries ∙ c.if-p.false)) (omega (arith, p.bytes, size, n)) c.if-out-end.false laid

use Rattle.std.proofs.lemmas.Result.{err_from_is_err_and}
use Rattle.laws.specs.Fitted.{fit_refused, fit_as}
use Rattle.laws.specs.Outers.{climbs_not_fall}
use Rattle.tables.proofs.Stores.{outcome_planned, still_collected}
use Rattle.tables.proofs.Laying.{kept_outcome, refused_outcome}
use borrow.Author.Rules.{rules}
use Rattle.tables.proofs.cut_kept.Goals as goal

pub plan_store-requires-clause-work_value : goal.plan_store-requires-clause-work_value
plan_store-requires-clause-work_value c = climbs_not_fall 0 _ c.requires.collected.numbered.climbs

pub returns-in_err-layout : goal.returns-in_err-layout
returns-in_err-layout c =
    let p = err_from_is_err_and c.from_residual.result c.from_residual.ensures.1 in
    rw (p.1, p.2) (fit_refused (refused_outcome _ _ _ _ c.requires.store_value (rw (← c.requires.collected.pairs) c.in_err-layout.ensures.store_planned)))

pub cut_planned-requires-clause-collected : goal.cut_planned-requires-clause-collected
cut_planned-requires-clause-collected c = still_collected c.requires.collected c.plan_store.ensures.work_unchanged (search rules)

pub returns : goal.returns
returns c =
    let written = outcome_planned _ _ _ c.requires.collected.pairs _ c.in_ok-layout.ensures.store_planned in
    fit_as (kept_outcome _ _ _ _ c.requires.store_value written) c.cut_planned.ensures

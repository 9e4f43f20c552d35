use borrow.Author.Rules.{rules}
use mathlib.Core.Path.{refl, ◌∙◌}
use native.Mathlib.Omega.{arith}
use lib.ListN.{length-set}
use Rattle.std.proofs.lemmas.List.{take_more_set}
use Rattle.frame.proofs.MapPlans.{by_rules, planned_none, planned_more}
use Rattle.frame.proofs.plans.plan_maps.Goals as goal

pub loop-m-init : goal.loop-m-init
loop-m-init c = (refl, planned_none _ _ _)

pub loop-m-preserved : goal.loop-m-preserved
loop-m-preserved c =
    let l = c.loop-m in
    let n = c.map_length-length.ensures in
    (rw length-set l.invariant.0, rw (take_more_set l.plans l.m c.plan_map-plan.result (omega (arith, c.requires.four))) (planned_more l.invariant.1 _ (by_rules c.requires _ _ c.plan_map-plan.ensures) (search rules) n.0 n.1))

use mathlib.Core.Path.{◌≡◌}
use lib.ListN.{length, take}
use Rattle.frame.specs.Plans.{MapsPlanned}
use Rattle.frame.proofs.plans.plan_maps.Given as goal

abbrev pub invariant-loop-m : goal.invariant-loop-m
invariant-loop-m l = (length l.plans ≡ 4) × MapsPlanned l.sources.maps l.sources.table.now l.glyphs (take l.m l.plans) l.wide l.length l.m

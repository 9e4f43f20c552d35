use Rattle.lists.proofs.Laid.{Laid}
use Rattle.frame.specs.Plans.{part_at}
use Rattle.frame.proofs.plans.put_maps.Given as goal

abbrev pub invariant-loop-m : goal.invariant-loop-m
invariant-loop-m l = Laid (λ k. part_at l.sources.maps l.sources.table.now l.glyphs k) l.initial.out l.m l.at l.out

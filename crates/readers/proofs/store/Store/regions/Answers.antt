use Rattle.std.proofs.Common.{arith, refl, sym, ◌∙◌}
use Rattle.opentype.specs.Store.{regions_at, axis_count, region_count}
use Rattle.laws.specs.Inside.{regions_inside}
use Rattle.readers.proofs.store.Store.regions.Goals as goal

pub returns-then-at-eq0 : goal.returns-then-at-eq0
unfolding regions_at
returns-then-at-eq0 c = sym c.regions_at-at.ensures.value ∙ c.if-at-eq0.true

pub returns-then-bad_regions : goal.returns-then-bad_regions
unfolding regions_at
returns-then-bad_regions c = (rw (← c.regions_at-at.ensures.value) c.if-at-eq0.false, refl, sym c.bad_regions.ensures ∙ c.if-bad_regions.true)

pub number_at-requires-clause-in_bounds : goal.number_at-requires-clause-in_bounds
unfolding regions_at
number_at-requires-clause-in_bounds c = omega (arith, c.regions_at-at.ensures.value, (regions_inside _ (sym c.bad_regions.ensures ∙ c.if-bad_regions.false)).head)

pub number_at-requires-2-clause-in_bounds : goal.number_at-requires-2-clause-in_bounds
unfolding regions_at
number_at-requires-2-clause-in_bounds c = omega (arith, c.regions_at-at.ensures.value, (regions_inside _ (sym c.bad_regions.ensures ∙ c.if-bad_regions.false)).head)

pub invariant_of-result : goal.invariant_of-result
unfolding regions_at axis_count region_count
invariant_of-result c = record {
  sound = sym c.bad_regions.ensures ∙ c.if-bad_regions.false;
  place = c.regions_at-at.ensures.value;
  axis_count = rw (← c.regions_at-at.ensures.value) c.number_at.ensures.is;
  axes_bound = omega (arith, c.number_at.ensures.small);
  region_count = rw (← c.regions_at-at.ensures.value) c.number_at-2.ensures.is;
}

pub returns : goal.returns
unfolding regions_at
returns c = (rw (← c.regions_at-at.ensures.value) c.if-at-eq0.false, refl)

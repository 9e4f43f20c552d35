use native.Mathlib.Omega.{arith}
use borrow.Author.Tests.{le-ltb}
use Rattle.lists.specs.Pick.{chain}
use Rattle.opentype.specs.Store.{regions_at, axis_count, region_count, record_length}
use Rattle.rules.specs.Open.{bad_regions}
use Rattle.readers.proofs.Fits.{records_fit}
use Rattle.readers.proofs.store.Store.bad_regions.Goals as goal

pub returns-then-s-at : goal.returns-then-s-at
unfolding bad_regions regions_at
returns-then-s-at c = rw (← c.regions_at-at.ensures.value) (search chain)

pub returns-then-count-gt4096 : goal.returns-then-count-gt4096
unfolding bad_regions regions_at region_count
returns-then-count-gt4096 c = rw (← c.regions_at-at.ensures.value, ← c.number_at-count.ensures.is) (search chain)

pub overflow_mul-result : goal.overflow_mul-result
overflow_mul-result c = omega (arith, records_fit _ _ c.if-count-gt4096.false c.number_at.ensures.small)

pub overflow_add-result-2 : goal.overflow_add-result-2
overflow_add-result-2 c = omega (arith, records_fit _ _ c.if-count-gt4096.false c.number_at.ensures.small)

pub returns : goal.returns
unfolding bad_regions regions_at region_count record_length axis_count
returns c = rw (
  ← c.regions_at-at.ensures.value,
  ← c.number_at-count.ensures.is,
  ← c.number_at.ensures.is,
  le-ltb _ _ c.if-s-at.false,
  le-ltb _ _ c.if-count-gt4096.false,
)

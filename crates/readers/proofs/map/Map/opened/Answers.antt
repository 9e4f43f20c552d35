use native.Mathlib.Omega.{arith}
use Rattle.opentype.specs.Map.{map_format, map_head}
use Rattle.laws.specs.Inside.{map_inside}
use Rattle.readers.proofs.Maps.{opened_map}
use Rattle.readers.proofs.map.Map.opened.Goals as goal

pub number_at-format-requires-clause-in_bounds : goal.number_at-format-requires-clause-in_bounds
number_at-format-requires-clause-in_bounds c = omega (arith, map_inside _ _ c.requires)

pub overflow_add-at : goal.overflow_add-at
overflow_add-at c = omega (arith, map_inside _ _ c.requires)

pub number_at-packed-requires-clause-in_bounds : goal.number_at-packed-requires-clause-in_bounds
number_at-packed-requires-clause-in_bounds c = omega (arith, map_inside _ _ c.requires)

pub overflow_add-shape : goal.overflow_add-shape
overflow_add-shape c = omega (arith, map_inside _ _ c.requires)

pub entry_count-requires : goal.entry_count-requires
unfolding map_format map_head
entry_count-requires c = rw c.number_at-format.ensures.is (map_inside _ _ c.requires).entries

pub invariant_of-result : goal.invariant_of-result
invariant_of-result c = record {
  opened = opened_map _ _ (map_inside _ _ c.requires) c.number_at-format.ensures c.number_at-packed.ensures
      c.head_length.ensures.value c.entry_count.ensures;
}

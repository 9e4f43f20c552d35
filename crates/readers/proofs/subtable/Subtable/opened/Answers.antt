use mathlib.Core.Path.{refl}
use native.Mathlib.Omega.{arith}
use Rattle.readers.proofs.Subtables.{head_inside, columns_few, whole}
use Rattle.readers.proofs.subtable.Subtable.opened.Goals as goal

pub overflow_add-at : goal.overflow_add-at
overflow_add-at c = omega (arith, head_inside _ _ c.requires)

pub number_at-field-requires-clause-in_bounds : goal.number_at-field-requires-clause-in_bounds
number_at-field-requires-clause-in_bounds c = omega (arith, head_inside _ _ c.requires)

pub overflow_add-at-2 : goal.overflow_add-at-2
overflow_add-at-2 c = omega (arith, head_inside _ _ c.requires)

pub number_at-columns-requires-clause-in_bounds : goal.number_at-columns-requires-clause-in_bounds
number_at-columns-requires-clause-in_bounds c = omega (arith, head_inside _ _ c.requires)

pub number_at-items-requires-clause-in_bounds : goal.number_at-items-requires-clause-in_bounds
number_at-items-requires-clause-in_bounds c = omega (arith, head_inside _ _ c.requires)

pub row_length-row-requires : goal.row_length-row-requires
row_length-row-requires c = columns_few _ _ c.requires c.number_at-field.ensures c.number_at-columns.ensures

pub overflow_add-rows : goal.overflow_add-rows
overflow_add-rows c = omega (arith, head_inside _ _ c.requires)

pub overflow_add-rows-2 : goal.overflow_add-rows-2
overflow_add-rows-2 c = omega (arith, head_inside _ _ c.requires, c.number_at-columns.ensures.small)

pub invariant_of-result : goal.invariant_of-result
invariant_of-result c =
    record { opened = (whole _ _ c.requires c.number_at-field.ensures c.number_at-columns.ensures c.number_at-items.ensures c.row_length-row.ensures).opened }

pub returns : goal.returns
returns c = (refl, whole _ _ c.requires c.number_at-field.ensures c.number_at-columns.ensures c.number_at-items.ensures c.row_length-row.ensures)

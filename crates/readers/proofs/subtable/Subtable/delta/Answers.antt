use Rattle.laws.specs.Rows.{row_inside, cell_has_size}
use Rattle.cells.proofs.Twos.{same32}
use native.Mathlib.Omega.{arith}
use Rattle.readers.proofs.Subtables.{cell_ends, delta_there, delta_no_item, delta_no_column}
use Rattle.readers.proofs.subtable.Subtable.delta.Goals as goal

pub returns-then-shape-item : goal.returns-then-shape-item
returns-then-shape-item c = delta_no_item c.args.self.now.opened _ _ c.if-shape-item.true

pub returns-then-shape-column : goal.returns-then-shape-column
returns-then-shape-column c = delta_no_column c.args.self.now.opened _ _ c.if-shape-item.false (omega (arith, c.if-shape-column.true))

pub overflow_mul-at : goal.overflow_mul-at
overflow_mul-at c = omega (arith, row_inside _ _ c.args.self.now.shape.row c.if-shape-item.false)

pub overflow_add-at : goal.overflow_add-at
overflow_add-at c = omega (arith, row_inside _ _ c.args.self.now.shape.row c.if-shape-item.false)

pub overflow_add-at-2 : goal.overflow_add-at-2
overflow_add-at-2 c = omega (arith, cell_ends c.args.self.now.opened _ _ c.if-shape-item.false c.if-shape-column.false)

pub cell-requires-clause-size : goal.cell-requires-clause-size
cell-requires-clause-size c = rw c.cell_size.ensures (cell_has_size _ _ _)

pub cell-requires-clause-size_in_bounds : goal.cell-requires-clause-size_in_bounds
cell-requires-clause-size_in_bounds c = omega (arith, cell_ends c.args.self.now.opened _ _ c.if-shape-item.false c.if-shape-column.false)

pub returns : goal.returns
returns c = delta_there c.args.self.now.opened _ _ c.if-shape-item.false c.if-shape-column.false
    (rw (same32 c.cell.result c.cell.type_inv, ← c.cell_at.ensures, ← c.cell_size.ensures) c.cell.ensures)

use Prim.Native.Nat.{◌+◌, ◌*◌, ◌≤◌}
use lib.ListN.{length}
use native.Mathlib.Omega.{arith}
use Rattle.opentype.specs.Subtable.{cell_at}
use Rattle.subtables.proofs.Lows.{cell_next, low_no_item, low_ends, low_there}
use Rattle.subtables.proofs.by_cell.low_of.Goals as goal
use Rattle.subtables.proofs.by_cell.low_of.Goals.{Else-shape-item}

-- the cell ends inside
inside : (c : Else-shape-item) → let a = c.args in let t = a.t.now.shape in
    t.rows + a.item * t.row + cell_at t.long t.words (a.column + 1) ≤ length a.t.now.bytes.now
inside c = low_ends c.args.t.now.opened _ _ c.args.size c.if-shape-item.false c.requires.0

pub returns-then-shape-item : goal.returns-then-shape-item
returns-then-shape-item c = low_no_item c.args.t.now.opened _ _ _ c.if-shape-item.true

pub overflow_add-shape-2 : goal.overflow_add-shape-2
overflow_add-shape-2 c = omega (arith, inside (goal.at.overflow_add-shape-2 c).Else-shape-item)

pub low_before-requires : goal.low_before-requires
low_before-requires c =
    let t = c.args.t.now.shape in
    let next = cell_next t.long t.words c.args.column in
    (c.requires.1, omega (arith, c.cell_at.ensures, next, c.requires.2), omega (arith, c.cell_at.ensures, inside (goal.at.low_before-requires c).Else-shape-item))

pub returns : goal.returns
returns c = low_there c.args.t.now.opened _ _ c.args.size _ c.if-shape-item.false c.requires.0 c.requires.2 (rw (← c.cell_at.ensures) c.low_before.ensures)

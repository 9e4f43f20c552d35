use Prim.Native.Nat.{◌+◌, ◌*◌, ◌≤◌}
use native.Mathlib.Nat.{zero-mul}
use native.Mathlib.Omega.{arith}
use lib.ListN.{length}
use borrow.Author.Rules.{rules}
use Rattle.lists.proofs.Laid.{laid_none}
use Rattle.subtables.proofs.Writing.{cells_room, cells_more, cells_all}
use Rattle.subtables.proofs.Kept.put_cells.Goals as goal
use Rattle.subtables.proofs.Kept.put_cells.Goals.{In-loop-k}

-- the next cell ends inside
turn : (c : In-loop-k) → c.loop-k.k * c.args.size + c.args.size ≤ length c.args.out.now
turn c =
    let a = c.args in
    let t = a.self.now.subtable in
    cells_room t.bytes.now t.shape.at a.item a.size a.self.now.work.now a.self.now.columns.counts.wide a.first a.count c.loop-k.invariant c.loop-k-test.true (search rules)

pub loop-k-init : goal.loop-k-init
loop-k-init c = rw zero-mul (laid_none _ _)

pub loop-k-preserved : goal.loop-k-preserved
loop-k-preserved c = let a = c.args in
    let t = a.self.now.subtable in
    cells_more t.bytes.now t.shape.at a.item a.size a.self.now.work.now a.self.now.columns.counts.wide a.first _ c.loop-k.invariant (turn (goal.at.loop-k-preserved c).In-loop-k) c.put_entry.ensures
    c.low_of.ensures c.column_at-column.ensures

pub returns : goal.returns
returns c = let a = c.args in
    let t = a.self.now.subtable in
    cells_all t.bytes.now t.shape.at a.item a.size a.self.now.work.now a.self.now.columns.counts.wide a.first a.count c.loop-k.invariant (omega arith) (search rules)

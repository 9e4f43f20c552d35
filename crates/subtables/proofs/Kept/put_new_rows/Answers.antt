use Prim.Native.Nat.{◌+◌, ◌%◌, ◌≤◌}
use native.Mathlib.Omega.{arith}
use lib.ListN.{length, get_or}
use Rattle.lists.proofs.Laid.{laid_none, laid_more}
use Rattle.subtables.proofs.Writing.{length-row, rows_room, rows_all}
use Rattle.subtables.proofs.Kept.put_new_rows.Goals as goal
use Rattle.subtables.proofs.Kept.put_new_rows.Goals.{In-loop-pair}

-- the next row ends inside
turn : (c : In-loop-pair) → c.loop-pair.at + c.row_length-row.result ≤ length c.args.out.now
turn c =
    let k = c.args.self.now in
    rw c.row_length-row.ensures.value
    (rows_room k.subtable.bytes.now k.subtable.shape.at k.work.now k.columns.counts c.args.pairs.now c.loop-pair.invariant c.loop-pair-test.true c.requires)

pub loop-pair-init : goal.loop-pair-init
loop-pair-init c = laid_none _ _

pub slice_bounds-put_row-end : goal.slice_bounds-put_row-end
slice_bounds-put_row-end c = omega (arith, turn (goal.at.slice_bounds-put_row-end c).In-loop-pair)

pub loop-pair-preserved : goal.loop-pair-preserved
loop-pair-preserved c =
    let k = c.args.self.now in
    let e = length-row k.subtable.bytes.now k.subtable.shape.at (get_or c.args.pairs.now c.loop-pair.pair-index 0 % 65536) k.work.now k.columns.counts in
    laid_more c.loop-pair.invariant (omega (arith, c.row_length-row.ensures.value, e)) (turn (goal.at.loop-pair-preserved c).In-loop-pair) c.put_row.ensures

pub returns : goal.returns
returns c =
    let k = c.args.self.now in
    rows_all k.subtable.bytes.now k.subtable.shape.at k.work.now k.columns.counts c.args.pairs.now c.loop-pair.invariant (omega arith) c.requires

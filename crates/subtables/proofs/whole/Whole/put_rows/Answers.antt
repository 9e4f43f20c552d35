use Prim.Native.Nat.{◌+◌, ◌%◌, ◌-◌, ◌≤◌}
use mathlib.Core.Path.{◌≡◌, sym, ◌∙◌}
use native.Mathlib.Nat.{le_refl}
use native.Mathlib.Omega.{arith}
use lib.ListN.{length, get_or}
use borrow.Rule.Slice.PartMut.{mid_of, mid_len}
use borrow.Author.Rules.{rules}
use Rattle.lists.proofs.Fronts.{fronted_none, fronted_more}
use Rattle.subtables.proofs.Writing.{length-row, front_room, front_all}
use Rattle.subtables.proofs.Wholes.{whole_row}
use Rattle.subtables.proofs.whole.Whole.put_rows.Goals as goal
use Rattle.subtables.proofs.whole.Whole.put_rows.Goals.{In-loop-pair}

-- the next row ends inside
turn : (c : In-loop-pair) → c.loop-pair.at + c.args.self.now.kept.subtable.shape.row ≤ length c.args.out.now
turn c =
    let k = c.args.self.now.kept in
    rw (whole_row k.subtable.opened c.args.self.now.whole)
    (front_room k.subtable.bytes.now k.subtable.shape.at k.work.now k.columns.counts c.args.pairs.now c.loop-pair.invariant c.loop-pair-test.true c.requires)

-- as much is lent as lies behind the rows so far
lent : (c : In-loop-pair) → let l = c.loop-pair in length (mid_of l.at (length l.out - l.at) l.out) ≡ length l.out - l.at
lent c = mid_len c.loop-pair.at (length c.loop-pair.out) c.loop-pair.out (le_refl _)

pub loop-pair-init : goal.loop-pair-init
loop-pair-init c = fronted_none _ _

pub put_row-requires : goal.put_row-requires
put_row-requires c =
    let here = (goal.at.put_row-requires c).In-loop-pair in
    omega (arith, turn here, lent here)

pub loop-pair-preserved : goal.loop-pair-preserved
loop-pair-preserved c =
    let k = c.args.self.now.kept in
    let w = c.put_row.new.out in
    let n = length c.loop-pair.out in
    let m : length w ≡ length (mid_of c.loop-pair.at (n - c.loop-pair.at) c.loop-pair.out) = search rules in
    let e = length-row k.subtable.bytes.now k.subtable.shape.at (get_or c.args.pairs.now c.loop-pair.pair-index 0 % 65536) k.work.now k.columns.counts in
    fronted_more w {n = n} c.loop-pair.invariant (whole_row k.subtable.opened c.args.self.now.whole ∙ sym e) (turn (goal.at.loop-pair-preserved c).In-loop-pair) c.loop-pair.invariant.same (m ∙ lent (goal.at.loop-pair-preserved c).In-loop-pair)
    c.put_row.ensures

pub returns : goal.returns
returns c =
    let k = c.args.self.now.kept in
    front_all k.subtable.bytes.now k.subtable.shape.at k.work.now k.columns.counts c.args.pairs.now c.loop-pair.invariant (omega arith) c.requires

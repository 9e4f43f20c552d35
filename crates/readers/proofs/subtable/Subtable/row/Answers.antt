use borrow.Author.Tests.{lt-leb}
use Rattle.std.proofs.Math.Nat.{add-sub_cancel_left}
use Rattle.opentype.specs.Subtable.{row_at, row}
use Rattle.readers.proofs.subtable.Subtable.row.Goals as goal

pub returns : goal.returns
unfolding row row_at
returns c =
    let o = c.args.self.now.opened in
    rw (lt-leb _ _ c.if-self-item.false, ← o.rows, ← o.row, add-sub_cancel_left)

use Rattle.std.proofs.Common.{sym}
use Rattle.std.proofs.lemmas.Result.{err_from_is_err_and}
use Rattle.rules.specs.Readers.{row_of}
use Rattle.readers.proofs.Answers.{store_refused, subtable_refused, row_absent}
use Rattle.binlariat.proofs.Rows.{no_row_lem, row_short, row_placed}
use Rattle.binlariat.proofs.row_part.Goals as goal
use Rattle.binlariat.proofs.row_part.Goals.{then-shape-item-via-then-shape-item, then-shape-item-via-else-shape-item+then-shape-eq0}

pub returns-in_err-open : goal.returns-in_err-open
unfolding row_of
returns-in_err-open c =
    let p = err_from_is_err_and c.from_residual.result c.from_residual.ensures.1 in
    rw (p.1, p.2, c.in_err-open.ensures.0) (no_row_lem _ _ _ (store_refused _ _ _ _ c.in_err-open.ensures.1))

pub returns-in_err-shape : goal.returns-in_err-shape
unfolding row_of
returns-in_err-shape c =
    let p = err_from_is_err_and c.from_residual-in_err-shape.result c.from_residual-in_err-shape.ensures.1 in
    rw (p.1, p.2, ← c.in_ok-open.ensures) (no_row_lem _ _ _ (subtable_refused _ _ _ _ c.in_ok-open.field-0.sound c.in_err-shape.ensures))

pub returns-then-shape-item : goal.returns-then-shape-item
returns-then-shape-item c =
    let b = c.in_ok-open.field-0.sound in
    let u = c.in_ok-shape.ensures.1 in
    rw (← c.in_ok-open.ensures)
    (elim c.then-shape-item.branch [
      | then-shape-item-via-then-shape-item w ↦ no_row_lem _ _ _ (sym (row_absent _ _ _ b u w.if-shape-item.true))
      | then-shape-item-via-else-shape-item+then-shape-eq0 w ↦ row_short _ _ _ b u w.if-shape-item.false w.if-shape-eq0.true
    ])

pub returns : goal.returns
returns c =
    rw (← c.in_ok-open.ensures)
    (row_placed _ _ _ c.in_ok-open.field-0.sound c.in_ok-shape.ensures.1 c.if-shape-item.false c.if-shape-eq0.false)

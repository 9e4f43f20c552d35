use Rattle.std.proofs.Common.{sym}
use Rattle.std.proofs.lemmas.Result.{err_from_is_err_and}
use Rattle.rules.specs.Readers.{row_of}
use Rattle.readers.proofs.Answers.{store_refused, subtable_refused, row_read}
use Rattle.readers.proofs.try_read_row.Goals as goal

pub returns-in_err-open : goal.returns-in_err-open
unfolding row_of
returns-in_err-open c =
    let p = err_from_is_err_and c.from_residual.result c.from_residual.ensures.1 in
    rw (p.1, p.2, c.in_err-open.ensures.0) (sym (store_refused _ _ _ _ c.in_err-open.ensures.1))

pub returns-in_err-subtable : goal.returns-in_err-subtable
unfolding row_of
returns-in_err-subtable c =
    let p = err_from_is_err_and c.from_residual-in_err-subtable.result c.from_residual-in_err-subtable.ensures.1 in
    rw (p.1, p.2, ← c.in_ok-open.ensures) (sym (subtable_refused _ _ _ _ c.in_ok-open.field-0.sound c.in_err-subtable.ensures))

pub returns : goal.returns
returns c =
    let found = c.in_ok-subtable.ensures in
    rw (← c.in_ok-open.ensures) (row_read _ _ _ c.in_ok-open.field-0.sound found.1 (rw (← found.0) c.row.ensures))

use Rattle.std.proofs.Common.{◌∙◌}
use Rattle.std.proofs.lemmas.Result.{err_from_is_err_and}
use Rattle.cells.proofs.Twos.{same32}
use Rattle.rules.specs.Readers.{delta_of}
use Rattle.readers.proofs.Answers.{store_refused, subtable_refused, delta_found}
use Rattle.readers.proofs.read_delta.Goals as goal

pub returns-in_err-open : goal.returns-in_err-open
unfolding delta_of
returns-in_err-open c =
    let p = err_from_is_err_and c.from_residual.result c.from_residual.ensures.1 in
    rw (p.1, p.2, c.in_err-open.ensures.0) (store_refused _ _ _ _ c.in_err-open.ensures.1)

pub returns-in_err-subtable : goal.returns-in_err-subtable
unfolding delta_of
returns-in_err-subtable c =
    let p = err_from_is_err_and c.from_residual-in_err-subtable.result c.from_residual-in_err-subtable.ensures.1 in
    rw (p.1, p.2, ← c.in_ok-open.ensures) (subtable_refused _ _ _ _ c.in_ok-open.field-0.sound c.in_err-subtable.ensures)

pub returns : goal.returns
returns c =
    let found = c.in_ok-subtable.ensures in
    rw (← c.in_ok-open.ensures)
    (delta_found _ _ _ _ c.in_ok-open.field-0.sound found.1 (same32 c.delta.result c.delta.type_inv ∙ rw (← found.0) c.delta.ensures))

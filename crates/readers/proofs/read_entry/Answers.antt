use Rattle.std.proofs.lemmas.Result.{err_from_is_err_and}
use Rattle.rules.specs.Readers.{entry_of}
use Rattle.readers.proofs.read_entry.Goals as goal

pub returns-in_err-open : goal.returns-in_err-open
unfolding entry_of
returns-in_err-open c =
    let p = err_from_is_err_and c.from_residual.result c.from_residual.ensures.1 in
    rw (p.1, p.2, c.in_err-open.ensures.0, c.in_err-open.ensures.1)

pub returns : goal.returns
unfolding entry_of
returns c =
    let found = c.in_ok-open.ensures in
    rw (found.2, ← found.0, ← found.1, ← c.pair-pair.ensures.outer_value, ← c.pair-pair.ensures.inner_value)

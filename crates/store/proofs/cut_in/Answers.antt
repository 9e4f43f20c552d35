use mathlib.Core.Path.{sym, ◌∙◌}
use native.Mathlib.Omega.{arith}
use Rattle.std.proofs.lemmas.Result.{err_from_is_err_and}
use Rattle.laws.specs.Fitted.{fit_refused}
use Rattle.store.proofs.Cuts.{pairs_good, copied_pairs, cut_2, cut_3, cut_on}
use Rattle.store.proofs.cut_in.Goals as goal

pub returns-then-bad_pairs : goal.returns-then-bad_pairs
returns-then-bad_pairs c = fit_refused (cut_2 _ _ c.args.keep (sym c.bad_pairs.ensures ∙ c.if-bad_pairs.true))

pub returns-in_err-store : goal.returns-in_err-store
returns-in_err-store c =
    let p = err_from_is_err_and c.from_residual.result c.from_residual.ensures.1 in
    let h = c.in_err-store.ensures in
    rw (p.1, p.2, h.0) (fit_refused (cut_3 _ _ c.args.keep (sym c.bad_pairs.ensures ∙ c.if-bad_pairs.false) h.1))

pub copy_pairs-requires : goal.copy_pairs-requires
copy_pairs-requires c = omega (arith, (pairs_good _ (sym c.bad_pairs.ensures ∙ c.if-bad_pairs.false)).0)

pub cut_opened-requires-clause-n_bound : goal.cut_opened-requires-clause-n_bound
cut_opened-requires-clause-n_bound c = (pairs_good _ (sym c.bad_pairs.ensures ∙ c.if-bad_pairs.false)).0

pub cut_opened-requires-clause-work_value : goal.cut_opened-requires-clause-work_value
cut_opened-requires-clause-work_value c =
    let ps = c.args.pairs.now in
    rw (copied_pairs ps _ c.copy_pairs.ensures) (pairs_good ps (sym c.bad_pairs.ensures ∙ c.if-bad_pairs.false)).1

pub returns : goal.returns
returns c =
    let ps = c.args.pairs.now in
    let store = c.in_ok-store in
    rw (cut_on c.args.s.now ps c.args.keep (sym c.bad_pairs.ensures ∙ c.if-bad_pairs.false) (rw store.ensures at store.store.sound))
    (rw (copied_pairs ps _ c.copy_pairs.ensures, store.ensures) at c.cut_opened.ensures)

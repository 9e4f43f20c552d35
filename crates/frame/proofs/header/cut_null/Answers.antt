use Prim.Native.Nat.{◌+◌, ◌*◌}
use mathlib.Core.Path.{◌≡◌, refl, sym, ap, ◌∙◌}
use lib.ListN.{replicate}
use borrow.Rule.Slice.PartMut.{mid_len}
use native.Mathlib.Omega.{arith}
use Rattle.rules.specs.TableCut.{null_table}
use Rattle.laws.specs.Fitted.{fit_short, fit_written}
use Rattle.frame.proofs.Heads.{null_length, null_laid}
use borrow.Author.Rules.{rules}
use Rattle.frame.proofs.header.cut_null.Goals as goal

pub returns-then-out-head : goal.returns-then-out-head
returns-then-out-head c = let n = null_length c.args.maps c.args.t.now c.requires.1 in
    fit_short _ refl (omega arith)

pub returns : goal.returns
returns c = let maps = c.args.maps in
    let t = c.args.t.now in
    let long = mid_len 4 (8 + 4 * maps) c.put_version.new.out (omega arith) in
    let zeros : c.fill.new.self ≡ replicate (4 + 4 * maps) 0 = c.fill.ensures.after (λ y h. h) ∙ ap (λ n. replicate n 0) (omega (arith, long)) in
    let laid = null_laid maps t c.args.out.now c.requires.1 (search rules) c.put_version.ensures zeros in
    fit_written (null_table maps t) refl (sym (null_length maps t c.requires.1)) (search rules) laid

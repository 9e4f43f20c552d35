use Prim.Native.Nat.{◌+◌, ◌-◌}
use mathlib.Core.Path.{◌≡◌, ◌∙◌}
use native.Mathlib.Omega.{arith}
use Rattle.maps.proofs.Counts.{count_all, count_found}
use Rattle.maps.proofs.last_run.Goals as goal

pub returns-then-pair_number-last-clause-glyphs_value : goal.returns-then-pair_number-last-clause-glyphs_value
returns-then-pair_number-last-clause-glyphs_value c = let a = c.loop-i.invariant in
    let n : c.loop-i.i - 1 + 1 ≡ c.loop-i.i = omega arith in
    rw n (count_found _ _ _ a c.loop-i-test.true (λ e. c.if-pair_number-last.true (c.pair_number.ensures ∙ e)))

pub returns-clause-glyphs_value : goal.returns-clause-glyphs_value
returns-clause-glyphs_value c = count_all c.loop-i.invariant c.loop-i-test.false

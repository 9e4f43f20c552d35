-- What the checks 5 and 6 let through.
use Rattle.std.specs.Prelude.{ℕ, ◌<◌, ◌≡◌, refl, Bool, true, false, List, [], ◌∷◌, leb}
use Rattle.std.proofs.Common.{leb-false}
use Rattle.lists.specs.Pick.{pick}
use Rattle.lists.specs.Search.{any}
use Rattle.lists.proofs.Each.{neither}
use Rattle.opentype.specs.Store.{subtable_count, subtable_at}
use Rattle.rules.specs.declared.Refusal.TheVariants.{AbsentSubtable, BadSubtable}
use Rattle.rules.specs.Numbers.{written}
use Rattle.rules.specs.Lists.{Run}
use Rattle.rules.specs.Open.{absent_subtable, bad_subtable}
use Rattle.rules.specs.StoreCut.{subtables_or}
use Rattle.laws.specs.Passed.{passed}

-- 5: the outer is in the array
pub in_array : (s : List ℕ) (o : ℕ) → absent_subtable s o ≡ false → o < subtable_count s
unfolding absent_subtable
in_array s o e = leb-false (subtable_count s) o (neither (leb (subtable_count s) o) _ e).0

-- 5 or 6: a run's subtable can't be used
unfoldable pub unusable : List ℕ → Run → Bool
unusable s run = pick (absent_subtable s run.outer) true (bad_subtable s (subtable_at s run.outer))

pub all_usable : (s : List ℕ) (rs : List Run) (w : List ℕ) → subtables_or s rs (written w) ≡ written w → any (λ run. unusable s run) rs ≡ false
unfolding subtables_or any unusable
all_usable s [] w e = refl
all_usable s (run ∷ rs) w e =
    let p = passed (absent_subtable s run.outer) AbsentSubtable _ w e in
    let q = passed (bad_subtable s (subtable_at s run.outer)) BadSubtable (subtables_or s rs (written w)) w p.1 in
    rw (p.0, q.0) (all_usable s rs w q.1)

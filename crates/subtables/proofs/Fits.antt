-- No new cell is larger than the old one: a column is wide for a delta that is too large for the narrow cell, and the old cell held it.
use Prim.Native.Nat.{ℕ, ◌+◌, ◌≤◌, ◌<◌}
use mathlib.Core.Path.{◌≡◌, refl, sym, ap, ◌∙◌}
use mathlib.Core.Bool.{Bool, true, false, not, false≢true}
use mathlib.Core.List.{List}
use native.Mathlib.Omega.{arith}
use lib.Dec.{ltb}
use lib.ListN.{length, get_or}
use borrow.Author.Tests.{ltb-true}
use Rattle.lists.specs.Pick.{pick, both}
use Rattle.lists.proofs.Tabs.{get_d_tab}
use Rattle.lists.proofs.Selected.{select_sound}
use Rattle.opentype.specs.Subtable.{long, word_count, column_count, word_size, rest_size, cell_size}
use Rattle.rules.specs.declared.Class.TheVariants.{Dropped, Narrow, Wide}
use Rattle.rules.specs.Columns.{Plan, is_wide, class_of, kept_deltas, keeps_long, plan_of, plan_with}
use Rattle.laws.specs.Sizes.{class_by_size, column_size, class_column}
use Rattle.readers.specs.declared.subtable.Shape.{Shape}
use Rattle.readers.specs.Opened.{Opened}
use Rattle.columns.proofs.Caps.{column_capped}
use Rattle.rows.specs.declared.Counts.{Counts}
use Rattle.rows.specs.Area.{column_in}
use Rattle.rows.specs.Planned.{Planned}
use Rattle.subtables.specs.Kept.{Fitted}
use Rattle.subtables.specs.Written.{columns_from, plan_in}
use Rattle.subtables.proofs.Plans.{plan_in_lem}
use Rattle.rows.proofs.Plans.{planned_inside}

-- a wide column's size
wide_above : (is_long : Bool) (n : ℕ) → is_wide (class_by_size is_long n) ≡ true → pick is_long 3 1 < n
unfolding class_by_size
wide_above is_long n e = ltb-true (pick is_long 3 1) n (by (ltb 0 n) (ltb (pick is_long 3 1) n) e)
  where
    by : (a b : Bool) → is_wide (pick (not a) Dropped (pick b Wide Narrow)) ≡ true → b ≡ true
    by true true e = refl
    by true false e = absurd (false≢true e)
    by false b e = absurd (false≢true e)

module _ (s : List ℕ) (at : ℕ) (is : List ℕ) where
  wide_fits : (is_long : Bool) (c : ℕ) → is_wide (class_of is_long (kept_deltas s at is c)) ≡ true → word_size is_long ≤ cell_size (long s at) (word_count s at) c
  wide_fits is_long c e = by is_long (wide_above is_long (column_size (kept_deltas s at is c)) (rw (class_column is_long (kept_deltas s at is c)) at e)) (column_capped s at is c)
    where
      by : (l : Bool) {n w : ℕ} → pick l 3 1 < n → n ≤ w → word_size l ≤ w
      by true h k = omega arith
      by false h k = omega arith

  wides_fit : (k : ℕ) → let p = plan_of s at is in k < length p.wide → word_size p.is_long ≤ cell_size (long s at) (word_count s at) (get_or p.wide k 0)
  unfolding plan_of plan_with
  wides_fit k h = wide_fits (keeps_long s at is) _ (select_sound (λ c. is_wide (class_of (keeps_long s at is) (kept_deltas s at is c))) (column_count s at) k h).1

  -- long is kept of a long source only
  narrow_fits : (c : ℕ) → rest_size (plan_of s at is).is_long ≤ cell_size (long s at) (word_count s at) c
  unfolding plan_of plan_with keeps_long cell_size
  narrow_fits c = by (long s at) _ (ltb c (word_count s at))
    where
      by : (l a b : Bool) → rest_size (both l a) ≤ pick b (word_size l) (rest_size l)
      by true true true = omega arith
      by true true false = omega arith
      by true false true = omega arith
      by true false false = omega arith
      by false a true = omega arith
      by false a false = omega arith

pub planned_fitted : {s : List ℕ} {t : Shape} {is w : List ℕ} {p : Counts} → Opened s t → Planned s t.at is w p → Fitted t w p
unfolding plan_in columns_from
planned_fitted {s} {t} {is} {w} {p} o h = record {
  wide = record {
    there = λ k l. rw o.columns ((planned_inside h).each (0 + k) (omega arith));
    holds = λ k l. rw (o.long, o.words, h.long, column k l) (wides_fit s t.at is k (omega (arith, h.wide)));
  };
  narrow = record {
    there = λ k l. rw o.columns ((planned_inside h).each (p.wide + k) (omega arith));
    holds = λ k l. rw (o.long, o.words, h.long) (narrow_fits s t.at is (column_in w p.wide (p.wide + k)));
  };
}
  where
    column : (k : ℕ) → k < p.wide → column_in w p.wide (0 + k) ≡ get_or (plan_of s t.at is).wide k 0
    column k l = sym (get_d_tab (λ j. column_in w p.wide (0 + j)) 0 p.wide k l) ∙ ap (λ (q : Plan). get_or q.wide k 0) (plan_in_lem h)

-- What is known of the columns of a planned subtable.
use Prim.Native.Nat.{ℕ, ◌+◌, ◌*◌, ◌-◌, ◌<◌, ◌≤◌}
use mathlib.Core.Path.{◌≡◌, sym, ap, ◌∙◌}
use mathlib.Core.Bool.{Bool, true, false}
use mathlib.Core.List.{List, []}
use native.Mathlib.Omega.{arith}
use native.Mathlib.Nat.{mul-le-mul_left}
use lib.ListN.{length, get_or, drop, length-drop, length-append}
use lib.Seq.{length-take-le}
use lib.Dec.{ltb}
use Rattle.lists.specs.Pick.{both}
use Rattle.lists.specs.Search.{some, any}
use Rattle.lists.proofs.Members.{length-map}
use Rattle.lists.proofs.Pieces.{length-tab}
use Rattle.lists.proofs.Tabs.{get_d_tab}
use Rattle.lists.proofs.Each.{any-not, any_at}
use Rattle.opentype.specs.Subtable.{column_count, word_size, rest_size}
use Rattle.rules.specs.Columns.{plan_of, live}
use Rattle.rules.specs.Lists.{inner}
use Rattle.laws.specs.Live.{any_order, some_kept}
use Rattle.laws.specs.Lengths.{size_at, length_planned}
use Rattle.rows.specs.declared.Counts.{Counts}
use Rattle.rows.specs.Area.{part, items, column_in, columns_in}
use Rattle.rows.specs.Length.{planned_length}
use Rattle.rows.specs.Planned.{Planned}

module _ {s : List ℕ} {at : ℕ} {is w : List ℕ} {r : Counts} (p : Planned s at is w r) where
  columns_length : length (columns_in w r.wide r.narrow) ≡ r.wide + r.narrow
  unfolding columns_in
  columns_length = length-tab (λ j. column_in w r.wide j) (r.wide + r.narrow)

  column_there : (j : ℕ) → j < r.wide + r.narrow → get_or (columns_in w r.wide r.narrow) j 0 ≡ column_in w r.wide j
  unfolding columns_in
  column_there j h = get_d_tab (λ k. column_in w r.wide k) 0 (r.wide + r.narrow) j h

  pub any_kept : (g : ℕ → Bool) → any g (columns_in w r.wide r.narrow) ≡ some (λ c. both (g c) (live s at is c)) (column_count s at)
  any_kept g = ap (any g) p.kept ∙ any_order s at is g

  -- a test that fails of every live column fails of every kept one
  pub no_kept : (g : ℕ → Bool) → some (λ c. both (g c) (live s at is c)) (column_count s at) ≡ false → (j : ℕ) → j < r.wide + r.narrow → g (column_in w r.wide j) ≡ false
  no_kept g e j h = ap g (sym (column_there j h)) ∙ any-not g 0 (columns_in w r.wide r.narrow) j (any_kept g ∙ e) (rw columns_length h)

  pub a_kept : (g : ℕ → Bool) (j : ℕ) → j < r.wide + r.narrow → g (column_in w r.wide j) ≡ true → some (λ c. both (g c) (live s at is c)) (column_count s at) ≡ true
  a_kept g j h e = sym (any_kept g) ∙ any_at g 0 (columns_in w r.wide r.narrow) j (rw columns_length h) (ap g (column_there j h) ∙ e)

  pub live_kept : ltb 0 (r.wide + r.narrow) ≡ some (λ c. live s at is c) (column_count s at)
  live_kept = rw (p.wide, p.narrow) (some_kept s at is)

  pub planned_length_lem : planned_length r.long r.wide r.narrow (length is) ≡ size_at s at is
  unfolding planned_length size_at
  planned_length_lem = sym (length_planned s at [] is (plan_of s at is) ∙ rw (length-append, ← p.long, ← p.wide, ← p.narrow))

-- ---- sizes

pub length-items : (w : List ℕ) (from to : ℕ) → from ≤ to → to ≤ length w → length (items (part w from to)) ≡ to - from
length-items w from to a b = length-map (λ p. inner p) (part w from to) ∙ length-take-le (to - from) (drop from w) (rw length-drop (omega arith))

-- a row has at most 16,384 bytes
pub bytes_small : (r : Counts) (items : ℕ) {bytes : ℕ} → r.wide + r.narrow ≤ 4096 → bytes ≡ planned_length r.long r.wide r.narrow items → bytes ≤ 8198 + 16384 * items
unfolding planned_length
bytes_small r items h e = omega (arith, mul-le-mul_left items (row r.long))
  where
    row : (l : Bool) → r.wide * word_size l + r.narrow * rest_size l ≤ 16384
    row true = omega arith
    row false = omega arith

pub bytes_are : {s : List ℕ} {at : ℕ} {is w : List ℕ} {r : Counts} {bytes : ℕ} (items : ℕ) → Planned s at is w r → bytes ≡ planned_length r.long r.wide r.narrow items
    → length is ≡ items → bytes ≡ size_at s at is
bytes_are items p e l = e ∙ rw (← l) (planned_length_lem p)

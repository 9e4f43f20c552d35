-- Laws of the tally: a delta's tests, and a loop over the kept deltas of a column.
use Prim.Native.Nat.{ℕ, ◌+◌, ◌^◌, ◌<◌, ◌≤◌, max}
use mathlib.Core.Path.{◌≡◌, refl, sym, ◌∙◌}
use mathlib.Core.Bool.{Bool, true, false}
use mathlib.Core.List.{List, map}
use native.Mathlib.Numerals.{add-one}
use native.Mathlib.Omega.{arith}
use native.Mathlib.Decide.{ℕ_discrete}
use lib.Dec.{eqb}
use lib.ListN.{length, get_or, drop, drop_of_length-le}
use lib.Seq.{drop-cons}
use lib.IntN.{ℤ, pos, negsuc}
use borrow.Author.Tests.{lt-ltb, le-ltb, eq-eqb, ne_eqb}
use mir.Syntax.{w32}
use mir.Val.{to_z, of_z, SFits}
use Rattle.lists.specs.Pick.{pick}
use Rattle.lists.specs.Search.{largest}
use Rattle.cells.specs.Sign.{nil}
use Rattle.cells.proofs.Twos.{same32}
use Rattle.opentype.specs.Subtable.{long, word_count, cell_size, delta}
use Rattle.rules.specs.Lists.{inner}
use Rattle.rules.specs.Columns.{kept_deltas}
use Rattle.rules.specs.declared.Class.TheVariants.{Narrow}
use Rattle.laws.specs.Sizes.{size, column_size, class_by_size}
use Rattle.columns.specs.Tally.{Decides}
use Rattle.columns.proofs.Caps.{column_capped}

-- `delta == 0` is a fact of the delta's bits
pub nil_yes : {z : ℤ} → SFits w32 z → of_z w32 z ≡ 0 → nil z ≡ true
nil_yes {z = pos n} f e = eq-eqb n 0 e
nil_yes {z = negsuc n} f e = let h : n < 2 ^ 31 = f.sfits in absurd (omega arith)

pub nil_no : {z : ℤ} → SFits w32 z → (of_z w32 z ≡ 0 → ⊥) → nil z ≡ false
nil_no {z = pos n} f e = ne_eqb n 0 e
nil_no {z = negsuc n} f e = refl

-- ---- a number that decides as another one does

decides_same : (is_long : Bool) (n : ℕ) → Decides is_long n n
decides_same is_long n = record { class = refl; middle = refl }

-- where long is kept, both 1 and 2 are narrow
narrow_two : (n : ℕ) → 1 ≤ n → n ≤ 2 → (class_by_size true n ≡ Narrow) × (eqb n 3 ≡ false)
unfolding class_by_size
narrow_two n h l = (rw (lt-ltb 0 n h, le-ltb 3 n (omega arith)), ne_eqb n 3 (λ e. omega arith))

-- m is the number of a column whose cells have so many bytes
decides_enough : (is_long : Bool) (cell : ℕ) {n m : ℕ} → pick is_long (pick (eqb cell 2) 1 cell) cell ≤ n → n ≤ m → m ≤ cell → Decides is_long n m
decides_enough false cell {n} {m} h l c = let e : n ≡ m = omega arith in rw e (decides_same false m)
decides_enough true cell {n} {m} h l c = elim (ℕ_discrete cell 2) [
  | yes q ↦ (
      let g : 1 ≤ n = rw (eq-eqb cell 2 q) at h in
      let a = narrow_two n g (omega arith) in
      let b = narrow_two m (omega arith) (omega arith) in
      record { class = a.0 ∙ sym b.0; middle = a.1 ∙ sym b.1 })
  | no q ↦ (
      let g : cell ≤ n = rw (ne_eqb cell 2 q) at h in
      let e : n ≡ m = omega arith in
      rw e (decides_same true m))
]

-- ---- the loop

-- What is tallied, with the deltas of the pairs that are left, is the whole column.
pub record Tallied (s : List ℕ) (at : ℕ) (pairs : List ℕ) (column k n : ℕ) : Type 0 where
  pub inside : k ≤ length pairs
  pub is : max n (column_size (kept_deltas s at (map (λ p. inner p) (drop k pairs)) column)) ≡ column_size (kept_deltas s at (map (λ p. inner p) pairs) column)

module _ {s : List ℕ} {at : ℕ} {pairs : List ℕ} {column k n : ℕ} (t : Tallied s at pairs column k n) where
  pub tallied_more : {m : ℕ} {z : ℤ} → k < length pairs → SFits w32 z → z ≡ delta s at (inner (get_or pairs k 0)) column
      → m ≡ max n (size (to_z w32 (of_z w32 z))) → Tallied s at pairs column (k + 1) m
  unfolding column_size kept_deltas largest
  tallied_more {m} {z} h f d e =
      let i = rw (drop-cons pairs k 0 h) at t.is in
      let g : m ≡ max n (size (delta s at (inner (get_or pairs k 0)) column)) = e ∙ rw (same32 z f.sfits, d) in
      record { inside = omega arith; is = rw add-one (omega (arith, i)) }

  pub tallied_end : (is_long : Bool) → length pairs ≤ k → Decides is_long n (column_size (kept_deltas s at (map (λ p. inner p) pairs) column))
  unfolding column_size kept_deltas largest
  tallied_end is_long h =
      let i = rw (drop_of_length-le pairs h) at t.is in
      let e : n ≡ column_size (kept_deltas s at (map (λ p. inner p) pairs) column) = omega (arith, i) in
      rw (← e) (decides_same is_long n)

  -- no delta of the column is larger than its cell
  pub tallied_most : (is_long : Bool) {end : ℕ} (cell : ℕ) → cell ≡ cell_size (long s at) (word_count s at) column → end ≡ pick is_long (pick (eqb cell 2) 1 cell) cell
      → end ≤ n → Decides is_long n (column_size (kept_deltas s at (map (λ p. inner p) pairs) column))
  tallied_most is_long cell e f h =
      let c = column_capped s at (map (λ p. inner p) pairs) column in
      decides_enough is_long cell (rw f at h) (omega (arith, t.is)) (omega arith)

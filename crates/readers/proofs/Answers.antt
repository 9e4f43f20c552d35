-- What the openers found is what the chain 3, 5, 6 of the readers says.
use Prim.Native.Nat.{ℕ, ◌+◌, ◌*◌, ◌-◌, ◌<◌, ◌≤◌}
use mathlib.Core.Path.{◌≡◌, sym, ap, ◌∙◌}
use mathlib.Core.Bool.{true, false}
use mathlib.Core.List.{List, []}
use native.Mathlib.Omega.{arith}
use native.Mathlib.Nat.{add-sub_cancel_left}
use borrow.Author.Tests.{le-leb, lt-leb}
use lib.ListN.{length, take, drop}
use lib.Dec.{leb}
use Rattle.lists.specs.Pick.{pick}
use lib.IntN.{ℤ}
use Rattle.std.specs.Prelude.{Ok, Err}
use Rattle.opentype.specs.Store.{subtable_at}
use Rattle.opentype.specs.Subtable.{row_at, row, delta}
use Rattle.laws.specs.Rows.{row_inside}
use Rattle.rules.specs.declared.Refusal.{Refusal}
use Rattle.rules.specs.declared.Refusal.TheVariants.{BadStore}
use Rattle.rules.specs.Open.{bad_store}
use Rattle.rules.specs.Readers.{opened_or, delta_of, RowAnswer, a_row, no_row, found_row, row_of}
use Rattle.readers.specs.declared.subtable.Shape.{Shape}
use Rattle.readers.specs.Opening.{Usable, Unusable}
use Rattle.readers.proofs.Subtables.{usable_is, unusable_is}

-- the three ends of the chain
module _ {A : Type 0} (s : List ℕ) (o : ℕ) (refuse : Refusal → A) (next : A) where
  pub store_refused : bad_store s ≡ true → refuse BadStore ≡ opened_or refuse s o next
  unfolding opened_or
  store_refused b = rw b

  pub subtable_refused : {r : Refusal} → bad_store s ≡ false → Unusable s o r → refuse r ≡ opened_or refuse s o next
  unfolding opened_or
  subtable_refused b u = rw b (unusable_is u refuse next)

  pub goes_on : {t : Shape} → bad_store s ≡ false → Usable s o t → next ≡ opened_or refuse s o next
  unfolding opened_or
  goes_on b u = rw b (usable_is u (refuse _) (refuse _) next)

pub delta_found : (s : List ℕ) (o i c : ℕ) {t : Shape} {z : ℤ} → bad_store s ≡ false → Usable s o t
    → z ≡ delta s t.at i c → Ok z ≡ delta_of s o i c
unfolding delta_of
delta_found s o i c b u e =
    ap Ok (e ∙ ap (λ (at : ℕ). delta s at i c) u.whole.place) ∙ goes_on s o (λ r. Err r) (Ok (delta s (subtable_at s o) i c)) b u

-- a row of an item that is there ends inside the store
pub row_ends : {s : List ℕ} {o i : ℕ} {t : Shape} → Usable s o t → i < t.items → t.rows + i * t.row + t.row ≤ length s
row_ends {i = i} {t} u h = omega (arith, row_inside i t.items t.row h, u.whole.opened.inside)

-- a row as it was read
pub row_read : (s : List ℕ) (o i : ℕ) {t : Shape} {part : List ℕ} → bad_store s ≡ false → Usable s o t
    → part ≡ pick (leb t.items i) [] (row s t.at i) → row_of s o i ≡ a_row part
unfolding row_of found_row
row_read s o i b u e =
    sym (goes_on s o (λ r. no_row r) (found_row s (subtable_at s o) i) b u)
    ∙ rw (← u.whole.place, ← u.whole.opened.items, e)

pub row_found : (s : List ℕ) (o i : ℕ) {t : Shape} → bad_store s ≡ false → Usable s o t → i < t.items
    → row_of s o i ≡ a_row (take (t.rows + i * t.row + t.row - (t.rows + i * t.row)) (drop (t.rows + i * t.row) s))
unfolding row_of found_row row row_at
row_found s o i {t} b u h =
    let w = u.whole.opened in
    sym (goes_on s o (λ r. no_row r) (found_row s (subtable_at s o) i) b u)
    ∙ rw (← u.whole.place, ← w.items, ← w.rows, ← w.row, lt-leb _ _ h, add-sub_cancel_left)

-- and of one that is not
pub row_absent : (s : List ℕ) (o i : ℕ) {t : Shape} → bad_store s ≡ false → Usable s o t → t.items ≤ i
    → row_of s o i ≡ a_row []
unfolding row_of found_row
row_absent s o i b u h =
    sym (goes_on s o (λ r. no_row r) (found_row s (subtable_at s o) i) b u)
    ∙ rw (← u.whole.place, ← u.whole.opened.items, le-leb _ _ h)

-- a row's answer, by its number and its part
pub parts : {a : RowAnswer} {n : ℕ} {p : List ℕ} → record { number = n; part = p } ≡ a → (n ≡ a.number) × (p ≡ a.part)
parts e = (ap (λ a. a.number) e, ap (λ a. a.part) e)

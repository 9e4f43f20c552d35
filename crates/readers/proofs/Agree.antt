-- The delta reader and the row reader agree, and each reader's promise allows one answer.
use Prim.Native.Nat.{ℕ, zero, suc, ◌<◌}
use mathlib.Core.Path.{◌≡◌, refl, sym, ◌∙◌}
use mathlib.Core.Bool.{Bool, true, false}
use mathlib.Core.List.{List, []}
use native.Mathlib.Omega.{arith}
use borrow.Author.Tests.{lt-leb}
use lib.Dec.{ltb, leb}
use lib.IntN.{pos}
use Rattle.lists.specs.Pick.{pick}
use Rattle.cells.specs.Be.{be}
use Rattle.cells.specs.Sign.{signed_at}
use Rattle.opentype.specs.Store.{subtable_at}
use Rattle.opentype.specs.Subtable.{item_count, word_count, column_count, long, word_size, rest_size, cell_at, cell_size, cell, row, delta}
use Rattle.laws.specs.Inside.{subtable_inside}
use Rattle.laws.specs.Rows.{row-cell}
use Rattle.rules.specs.declared.Refusal.TheVariants.{BadStore, AbsentSubtable, BadSubtable}
use Rattle.std.specs.Prelude.{Ok, Err}
use Rattle.rules.specs.Open.{bad_store, absent_subtable, bad_subtable}
use Rattle.rules.specs.Readers.{Delta, Entry, opened_or, delta_of, no_row, found_row, row_of, entry_of, number_of_delta, value_of_delta}

-- they refuse the same calls, by the same number
pub same_number : (s : List ℕ) (o i c : ℕ) → number_of_delta (delta_of s o i c) ≡ (row_of s o i).number
unfolding delta_of row_of opened_or found_row
same_number s o i c = one (bad_store s) (absent_subtable s o) (bad_subtable s (subtable_at s o))
  where
    one : (a b d : Bool)
        → number_of_delta (pick a (Err BadStore) (pick b (Err AbsentSubtable) (pick d (Err BadSubtable) (Ok (delta s (subtable_at s o) i c)))))
        ≡ (pick a (no_row BadStore) (pick b (no_row AbsentSubtable) (pick d (no_row BadSubtable) (found_row s (subtable_at s o) i)))).number
    one true b d = refl
    one false true d = refl
    one false false true = refl
    one false false false = refl

-- what an accepted call asked
pub accepted : (s : List ℕ) (o i : ℕ) → (row_of s o i).number ≡ 0
    → (bad_store s ≡ false) × (absent_subtable s o ≡ false) × (bad_subtable s (subtable_at s o) ≡ false)
unfolding row_of opened_or
accepted s o i e = one (bad_store s) (absent_subtable s o) (bad_subtable s (subtable_at s o)) e
  where
    one : (a b d : Bool)
        → (pick a (no_row BadStore) (pick b (no_row AbsentSubtable) (pick d (no_row BadSubtable) (found_row s (subtable_at s o) i)))).number ≡ 0
        → (a ≡ false) × (b ≡ false) × (d ≡ false)
    one true b d e = absurd (omega arith)
    one false true d e = absurd (omega arith)
    one false false true e = absurd (omega arith)
    one false false false e = (refl, refl, refl)

-- an empty part reads as 0
be-nil : (w k : ℕ) → be w [] k ≡ 0
unfolding be
be-nil zero k = refl
be-nil (suc w) k = rw (be-nil w k)

cell-nil : (is_long : Bool) (words c k : ℕ) → pos 0 ≡ signed_at (cell_size is_long words c) [] k
unfolding cell_size
cell-nil is_long words c k = one (ltb c words) is_long
  where
    one : (b l : Bool) → pos 0 ≡ signed_at (pick b (word_size l) (rest_size l)) [] k
    one true true = rw (be-nil 4 k)
    one true false = rw (be-nil 2 k)
    one false true = rw (be-nil 2 k)
    one false false = rw (be-nil 1 k)

-- the row's part, cut into cells, holds the deltas of the item in every column
pub row_holds_deltas : (s : List ℕ) (o i c : ℕ) → (row_of s o i).number ≡ 0 → c < column_count s (subtable_at s o)
    → value_of_delta (delta_of s o i c)
    ≡ signed_at (cell_size (long s (subtable_at s o)) (word_count s (subtable_at s o)) c) (row_of s o i).part
    (cell_at (long s (subtable_at s o)) (word_count s (subtable_at s o)) c)
unfolding delta_of row_of opened_or found_row delta
row_holds_deltas s o i c e h =
    let at = subtable_at s o in
    let a = accepted s o i e in
    let f = subtable_inside s at a.2 in
    rw (a.0, a.1, a.2, lt-leb _ _ h) (one at (leb (item_count s at) i) (row-cell s at i c f.order h))
  where
    one : (at : ℕ) (b : Bool)
        → signed_at (cell_size (long s at) (word_count s at) c) (row s at i) (cell_at (long s at) (word_count s at) c) ≡ cell s at i c
        → pick b (pos 0) (cell s at i c) ≡ signed_at (cell_size (long s at) (word_count s at) c) (pick b [] (row s at i)) (cell_at (long s at) (word_count s at) c)
    one at true e = cell-nil (long s at) (word_count s at) c (cell_at (long s at) (word_count s at) c)
    one at false e = sym e

-- any two answers that a reader's promise allows coincide
pub deltas_coincide : (s : List ℕ) (o i c : ℕ) {a b : Delta} → a ≡ delta_of s o i c → b ≡ delta_of s o i c → a ≡ b
deltas_coincide s o i c p q = p ∙ sym q

pub rows_coincide : (s : List ℕ) (o i : ℕ) {m n : ℕ} {a b : List ℕ} → m ≡ (row_of s o i).number → a ≡ (row_of s o i).part
    → n ≡ (row_of s o i).number → b ≡ (row_of s o i).part → (m ≡ n) × (a ≡ b)
rows_coincide s o i p a q b = (p ∙ sym q, a ∙ sym b)

pub entries_coincide : (s : List ℕ) (g : ℕ) {a b : Entry} → a ≡ entry_of s g → b ≡ entry_of s g → a ≡ b
entries_coincide s g p q = p ∙ sym q

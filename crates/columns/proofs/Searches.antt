-- Laws of the search for a delta outside of -65536..65535: a loop over the kept pairs in a loop over the word columns.
use Prim.Native.Nat.{ℕ, ◌+◌, ◌<◌, ◌≤◌}
use mathlib.Core.Path.{◌≡◌, refl, sym, ◌∙◌}
use mathlib.Core.Bool.{Bool, true, false}
use mathlib.Core.List.{List, map}
use native.Mathlib.Numerals.{add-one}
use native.Mathlib.Omega.{arith}
use lib.ListN.{length, get_or, drop, drop_of_length-le}
use lib.Seq.{drop-cons}
use Rattle.lists.specs.Pick.{pick}
use Rattle.lists.specs.Search.{some, any}
use Rattle.cells.specs.Sign.{outside}
use Rattle.opentype.specs.Subtable.{word_count, column_count, delta}
use Rattle.rules.specs.Lists.{inner}
use Rattle.rules.specs.Columns.{kept_deltas, keeps_long}
use Rattle.laws.specs.Long.{long_words}
use Rattle.readers.specs.Opened.{Opened}
use Rattle.readers.specs.declared.subtable.Shape.{Shape}

-- some pair has such a delta in the column
unfoldable pub far_in : List ℕ → ℕ → List ℕ → ℕ → Bool
far_in s at pairs c = any (λ z. outside 65535 z) (kept_deltas s at (map (λ p. inner p) pairs) c)

-- none of the pairs below k has one
pub record Unfound (s : List ℕ) (at : ℕ) (pairs : List ℕ) (c k : ℕ) : Type 0 where
  pub inside : k ≤ length pairs
  pub is : far_in s at (drop k pairs) c ≡ far_in s at pairs c

pub unfound_none : (s : List ℕ) (at : ℕ) (pairs : List ℕ) (c : ℕ) → Unfound s at pairs c 0
unfound_none s at pairs c = record { inside = omega arith; is = refl }

module _ {s : List ℕ} {at : ℕ} {pairs : List ℕ} {c k : ℕ} (u : Unfound s at pairs c k) where
  next : k < length pairs
      → pick (outside 65535 (delta s at (inner (get_or pairs k 0)) c)) true (far_in s at (drop (k + 1) pairs) c) ≡ far_in s at pairs c
  unfolding far_in any kept_deltas
  next h = rw add-one (rw (drop-cons pairs k 0 h) at u.is)

  pub unfound_more : {b : Bool} → k < length pairs → b ≡ outside 65535 (delta s at (inner (get_or pairs k 0)) c) → b ≡ false → Unfound s at pairs c (k + 1)
  unfound_more h d e = record { inside = omega arith; is = rw (sym d ∙ e) at (next h) }

  pub found_here : {b : Bool} → k < length pairs → b ≡ outside 65535 (delta s at (inner (get_or pairs k 0)) c) → b ≡ true → far_in s at pairs c ≡ true
  found_here h d e = sym (rw (sym d ∙ e) at (next h))

  pub found_nowhere : length pairs ≤ k → far_in s at pairs c ≡ false
  unfolding far_in any kept_deltas
  found_nowhere h = sym (rw (drop_of_length-le pairs h) at u.is)

-- of a subtable that is opened
module _ {s : List ℕ} {t : Shape} (o : Opened s t) (pairs : List ℕ) where
  pub not-long : t.long ≡ false → false ≡ keeps_long s t.at (map (λ p. inner p) pairs)
  unfolding keeps_long
  not-long e = rw (← o.long, e)

  pub by_words : t.long ≡ true → (b : Bool) → some (far_in s t.at pairs) t.words ≡ b → b ≡ keeps_long s t.at (map (λ p. inner p) pairs)
  unfolding far_in
  by_words e b f =
      let h : word_count s t.at ≤ column_count s t.at = omega (arith, o.words, o.columns, o.order) in
      rw (long_words s t.at (map (λ p. inner p) pairs) h, ← o.long, e, ← o.words) (sym f)

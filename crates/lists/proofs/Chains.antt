-- What a chain of tests that found nothing says of each of them; what a chain of an iterator's methods found.
use Prim.Native.Nat.{ℕ, zero, suc, ◌+◌, ◌≤◌}
use mathlib.Core.Path.{◌≡◌, refl, sym, ap, ◌∙◌}
use mathlib.Core.Bool.{Bool, true, false, not, cond, true≢false, ◌||◌}
use mathlib.Core.List.{List, [], ◌∷◌}
use native.Mathlib.Nat.{add-zero, zero-add}
use native.Mathlib.Omega.{arith}
use native.Mathlib.Decide.{dec_lt}
use lib.Dec.{eqb, ltb}
use lib.ListN.{length}
use borrow.Author.Tests.{lt-ltb, le-ltb}
use Rattle.std.proofs.Common.{None, Some}
use Rattle.std.specs.Option.{unwrap_or}
use Rattle.std.proofs.Math.Bool.{or_assoc, or_comm, or-false}
use Rattle.std.specs.List.{list_any, range_with_len, position, position_or_len}
use Rattle.lists.specs.Pick.{pick}
use Rattle.lists.specs.Search.{any, some, place}

pub none : (b k : Bool) → pick b true k ≡ false → (b ≡ false) × (k ≡ false)
none true k e = absurd (true≢false e)
none false k e = (refl, e)

pick_or : (b k : Bool) → pick b true k ≡ (b || k)
pick_or true k = refl
pick_or false k = refl

-- the library's word for a search through a list
pub any-list_any : {A : Type 0} (f : A → Bool) (xs : List A) → any f xs ≡ list_any f xs
unfolding any
any-list_any f [] = refl
any-list_any f (x ∷ xs) = rw (any-list_any f xs) (pick_or (f x) (list_any f xs))

-- a search below n is one through the numbers from 0 on
pub some-list_any : (f : ℕ → Bool) (n : ℕ) → some f n ≡ list_any f (range_with_len 0 n)
unfolding some
some-list_any f zero = refl
some-list_any f (suc n) =
    rw (some-list_any f n) (pick_or (f n) (list_any f (range_with_len 0 n)) ∙ or_comm (f n) (list_any f (range_with_len 0 n)) ∙ sym (grown 0 n n (zero-add n)))
  where
    grown : (a m k : ℕ) → a + m ≡ k → list_any f (range_with_len a (suc m)) ≡ (list_any f (range_with_len a m) || f k)
    grown a zero k e = or-false (f a) ∙ ap f (sym (add-zero a) ∙ e)
    grown a (suc m) k e =
        rw (grown (a + 1) m k (omega arith)) (sym (or_assoc (f a) (list_any f (range_with_len (a + 1) m)) (f k)))

place-position : (x : ℕ) (ys : List ℕ) → place x ys ≡ position_or_len (λ y. eqb x y) ys
unfolding place
place-position x [] = refl
place-position x (y ∷ ys) = rw (place-position x ys) (by (eqb x y) (position_or_len (λ z. eqb x z) ys))
  where
    by : (b : Bool) (k : ℕ) → pick b 0 (suc k) ≡ cond (not b) (1 + k) 0
    by true k = refl
    by false k = omega arith

pub place_le : (x : ℕ) (ys : List ℕ) → place x ys ≤ length ys
unfolding place
place_le x [] = omega arith
place_le x (y ∷ ys) = by (eqb x y) (place x ys) (place_le x ys)
  where
    by : (b : Bool) (k : ℕ) → k ≤ length ys → pick b 0 (suc k) ≤ suc (length ys)
    by true k h = omega arith
    by false k h = omega arith

-- the place of a number is the first that the library finds
pub position-place : (x : ℕ) (xs : List ℕ) → unwrap_or (position (λ y. eqb x y) xs) (length xs) ≡ place x xs
position-place x xs = rw (← place-position x xs) (found (place x xs) (length xs) (place_le x xs))
  where
    found : (i n : ℕ) → i ≤ n → unwrap_or (cond (ltb i n) (Some i) None) n ≡ i
    found i n h = elim (dec_lt i n) [ yes l ↦ rw (lt-ltb i n l) | no l ↦ rw (le-ltb i n (omega arith)) (omega arith) ]

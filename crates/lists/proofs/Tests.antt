-- Laws of a search: whether a test holds at some number below n.
use mathlib.Core.Path.{◌≡◌, refl}
use mathlib.Core.Bool.{Bool, true, false}
use mathlib.Core.Logic.{⊎_elim}
use Prim.Native.Nat.{ℕ, zero, suc, ◌+◌, ◌<◌}
use native.Mathlib.Nat.{not-suc-le-zero, eq-or-lt_of_le, le_of_suc-le-suc}
use native.Mathlib.Numerals.{add-one}
use Rattle.lists.specs.Pick.{pick}
use Rattle.lists.specs.Search.{some}

pub some_none : (f : ℕ → Bool) → some f 0 ≡ false
unfolding some
some_none f = refl

-- one more turn that found nothing
pub some_more : (f : ℕ → Bool) (n : ℕ) → some f n ≡ false → f n ≡ false → some f (n + 1) ≡ false
unfolding some
some_more f n p q = rw (add-one, q, p)

-- found at k
pub some_at : (f : ℕ → Bool) (k n : ℕ) → k < n → f k ≡ true → some f n ≡ true
unfolding some
some_at f k zero h e = absurd (not-suc-le-zero h)
some_at f k (suc n) h e = ⊎_elim (λ p. rw (← p, e)) (λ l. simp (some_at f k n l e) (either (f n))) (eq-or-lt_of_le (le_of_suc-le-suc h))
  where
    either : (b : Bool) → pick b true true ≡ true
    either true = refl
    either false = refl

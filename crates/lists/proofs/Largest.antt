-- The largest of a list's numbers.
use Prim.Native.Nat.{ℕ, zero, suc, ◌≤◌, ◌<◌}
use mathlib.Core.List.{List, [], ◌∷◌, map}
use native.Mathlib.Omega.{arith}
use native.Mathlib.Nat.{not-suc-le-zero, le_refl}
use lib.ListN.{length, get_or, drop}
use Rattle.lists.specs.Search.{largest}

-- no element is above it
pub largest_above : (xs : List ℕ) (n d : ℕ) → n < length xs → get_or xs n d ≤ largest xs
unfolding largest
largest_above [] n d h = absurd (not-suc-le-zero h)
largest_above (x ∷ xs) zero d h = omega arith
largest_above (x ∷ xs) (suc n) d h = let i = largest_above xs n d (omega arith) in omega arith

-- it is no higher than all elements are
pub largest_below : (xs : List ℕ) (k d : ℕ) → 0 < k → ((n : ℕ) → n < length xs → get_or xs n d < k) → largest xs < k
unfolding largest
largest_below [] k d p h = p
largest_below (x ∷ xs) k d p h = let i = largest_below xs k d p (λ n l. h (suc n) (omega arith)) in omega (arith, h 0 (omega arith))

-- what is left of a list has no larger one
pub largest_left : (f : ℕ → ℕ) (xs : List ℕ) (i : ℕ) → largest (map f (drop i xs)) ≤ largest (map f xs)
unfolding largest
largest_left f xs zero = le_refl (largest (map f xs))
largest_left f [] (suc i) = le_refl 0
largest_left f (x ∷ xs) (suc i) = omega (arith, largest_left f xs i)

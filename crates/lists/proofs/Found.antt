-- Where a search found something: a number, or an element.
use Prim.Native.Nat.{ℕ, zero, suc, ◌<◌}
use mathlib.Core.Path.{◌≡◌, refl}
use mathlib.Core.Bool.{Bool, true, false, false≢true, true≢false}
use mathlib.Core.List.{List, [], ◌∷◌}
use native.Mathlib.Omega.{arith}
use lib.ListN.{length, get_or}
use Rattle.lists.specs.Pick.{pick, both}
use Rattle.lists.specs.Search.{some, any, all}

pub some_found : (f : ℕ → Bool) (n : ℕ) → some f n ≡ true → (c : ℕ) × (c < n) × (f c ≡ true)
unfolding some
some_found f zero h = absurd (false≢true h)
some_found f (suc n) h = step (f n) refl h (λ k. some_found f n k)
  where
    step : (b : Bool) → f n ≡ b → pick b true (some f n) ≡ true → (some f n ≡ true → (c : ℕ) × (c < n) × (f c ≡ true)) → (c : ℕ) × (c < suc n) × (f c ≡ true)
    step true e h i = (n, omega arith, e)
    step false e h i = let w = i h in (w.0, omega (arith, w.1), w.2)

pub any_found : {A : Type 0} (f : A → Bool) (d : A) (xs : List A) → any f xs ≡ true → (k : ℕ) × (k < length xs) × (f (get_or xs k d) ≡ true)
unfolding any
any_found f d [] h = absurd (false≢true h)
any_found {A = A} f d (x ∷ xs) h = step (f x) refl h (λ k. any_found f d xs k)
  where
    step : (b : Bool) → f x ≡ b → pick b true (any f xs) ≡ true → (any f xs ≡ true → (k : ℕ) × (k < length xs) × (f (get_or xs k d) ≡ true))
        → (k : ℕ) × (k < length (x ∷ xs)) × (f (get_or (x ∷ xs) k d) ≡ true)
    step true e h i = (0, omega arith, e)
    step false e h i = let w = i h in (suc w.0, omega (arith, w.1), w.2)

-- an element at which a test fails, where it doesn't hold at all
pub all_failed : {A : Type 0} (f : A → Bool) (d : A) (xs : List A) → all f xs ≡ false → (k : ℕ) × (k < length xs) × (f (get_or xs k d) ≡ false)
unfolding all
all_failed f d [] h = absurd (true≢false h)
all_failed {A = A} f d (x ∷ xs) h = step (f x) refl h (λ k. all_failed f d xs k)
  where
    step : (b : Bool) → f x ≡ b → both b (all f xs) ≡ false → (all f xs ≡ false → (k : ℕ) × (k < length xs) × (f (get_or xs k d) ≡ false))
        → (k : ℕ) × (k < length (x ∷ xs)) × (f (get_or (x ∷ xs) k d) ≡ false)
    step true e h i = let w = i h in (suc w.0, omega (arith, w.1), w.2)
    step false e h i = (0, omega arith, e)

-- an element at which one test holds, where another holds at all
pub any-all : {A : Type 0} (p q : A → Bool) (xs : List A) → any p xs ≡ true → all q xs ≡ true → (x : A) × (p x ≡ true) × (q x ≡ true)
unfolding any all
any-all {A = A} p q [] h k = absurd (false≢true h)
any-all {A = A} p q (x ∷ xs) h k = step (p x) (q x) refl refl h k (λ a b. any-all p q xs a b)
  where
    step : (b d : Bool) → p x ≡ b → q x ≡ d → pick b true (any p xs) ≡ true → both d (all q xs) ≡ true
        → (any p xs ≡ true → all q xs ≡ true → (y : A) × (p y ≡ true) × (q y ≡ true)) → (y : A) × (p y ≡ true) × (q y ≡ true)
    step true true e g h k i = (x, e, g)
    step false true e g h k i = i h k
    step true false e g h k i = absurd (false≢true k)
    step false false e g h k i = absurd (false≢true k)

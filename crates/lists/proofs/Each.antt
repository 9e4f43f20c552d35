-- What a test of a whole list, or of all numbers below n, says of each one.
use Prim.Native.Nat.{ℕ, zero, suc, ◌<◌}
use mathlib.Core.Path.{◌≡◌, refl}
use mathlib.Core.Bool.{Bool, true, false, not, false≢true, true≢false}
use mathlib.Core.List.{List, [], ◌∷◌, map}
use mathlib.Core.Logic.{⊎_elim}
use native.Mathlib.Nat.{not-suc-le-zero, eq-or-lt_of_le, le_of_suc-le-suc}
use native.Mathlib.Omega.{arith}
use lib.ListN.{length, get_or}
use Rattle.lists.specs.Pick.{pick, both}
use Rattle.lists.specs.Search.{some, any, all}

-- neither of two tests in a chain holds
pub neither : (a b : Bool) → pick a true b ≡ false → (a ≡ false) × (b ≡ false)
neither true b e = absurd (true≢false e)
neither false b e = (refl, e)

-- both of two tests hold
pub both_hold : (a b : Bool) → both a b ≡ true → (a ≡ true) × (b ≡ true)
both_hold true b e = (refl, e)
both_hold false b e = absurd (false≢true e)

pub some-not : (f : ℕ → Bool) (n k : ℕ) → some f n ≡ false → k < n → f k ≡ false
unfolding some
some-not f zero k e h = absurd (not-suc-le-zero h)
some-not f (suc n) k e h =
    let p = neither (f n) (some f n) e in
    ⊎_elim (λ q. rw q p.0) (λ l. some-not f n k p.1 l) (eq-or-lt_of_le (le_of_suc-le-suc h))

pub any-not : {A : Type 0} (f : A → Bool) (d : A) (xs : List A) (k : ℕ) → any f xs ≡ false → k < length xs → f (get_or xs k d) ≡ false
unfolding any
any-not f d [] k e h = absurd (not-suc-le-zero h)
any-not f d (x ∷ xs) zero e h = (neither (f x) (any f xs) e).0
any-not f d (x ∷ xs) (suc k) e h = any-not f d xs k (neither (f x) (any f xs) e).1 (omega arith)

pub any_at : {A : Type 0} (f : A → Bool) (d : A) (xs : List A) (k : ℕ) → k < length xs → f (get_or xs k d) ≡ true → any f xs ≡ true
unfolding any
any_at f d [] k h e = absurd (not-suc-le-zero h)
any_at f d (x ∷ xs) zero h e = rw e
any_at f d (x ∷ xs) (suc k) h e = rw (any_at f d xs k (omega arith) e) (either (f x))
  where
    either : (b : Bool) → pick b true true ≡ true
    either true = refl
    either false = refl

pub all_at : {A : Type 0} (f : A → Bool) (d : A) (xs : List A) (k : ℕ) → all f xs ≡ true → k < length xs → f (get_or xs k d) ≡ true
unfolding all
all_at f d [] k e h = absurd (not-suc-le-zero h)
all_at f d (x ∷ xs) zero e h = (both_hold (f x) (all f xs) e).0
all_at f d (x ∷ xs) (suc k) e h = all_at f d xs k (both_hold (f x) (all f xs) e).1 (omega arith)

-- a test that holds at no element fails at all
pub none_all : {A : Type 0} (f : A → Bool) (xs : List A) → any f xs ≡ false → all (λ x. not (f x)) xs ≡ true
unfolding any all
none_all f [] e = refl
none_all f (x ∷ xs) e = let p = neither (f x) (any f xs) e in rw p.0 (none_all f xs p.1)

-- a test that fails at each element holds at none
pub each_none : {A : Type 0} (f : A → Bool) (d : A) (xs : List A) → ((k : ℕ) → k < length xs → f (get_or xs k d) ≡ false) → any f xs ≡ false
unfolding any
each_none f d [] h = refl
each_none f d (x ∷ xs) h = rw (h 0 (omega arith)) (each_none f d xs (λ k l. h (suc k) (omega arith)))

-- an element of a mapped list, whatever the defaults
pub get_d_map : {A B : Type 0} (f : A → B) (d : A) (e : B) (xs : List A) (k : ℕ) → k < length xs → get_or (map f xs) k e ≡ f (get_or xs k d)
get_d_map f d e [] k h = absurd (not-suc-le-zero h)
get_d_map f d e (x ∷ xs) zero h = refl
get_d_map f d e (x ∷ xs) (suc k) h = get_d_map f d e xs k (omega arith)

-- Laws of `any` and `some`: over a list put together or mapped, over a selection, and for two tests.
use Prim.Native.Nat.{ℕ, zero, suc}
use mathlib.Core.Path.{◌≡◌, refl, sym, ◌∙◌}
use mathlib.Core.Bool.{Bool, true, false}
use mathlib.Core.List.{List, [], ◌∷◌, ◌++◌, map}
use native.Mathlib.Omega.{arith}
use lib.ListN.{length}
use lib.Dec.{ltb}
use borrow.Author.Tests.{lt-ltb}
use Rattle.lists.specs.Pick.{pick, both}
use Rattle.lists.specs.Gather.{select}
use Rattle.lists.specs.Search.{some, any}

pub any_append : {A : Type 0} (f : A → Bool) (xs ys : List A) → any f (xs ++ ys) ≡ pick (any f xs) true (any f ys)
unfolding any
any_append f [] ys = refl
any_append f (x ∷ xs) ys = rw (any_append f xs ys) (three (f x) (any f xs) (any f ys))
  where
    three : (a b c : Bool) → pick a true (pick b true c) ≡ pick (pick a true b) true c
    three true b c = refl
    three false b c = refl

pub any-map : {A B : Type 0} (g : B → Bool) (f : A → B) (xs : List A) → any g (map f xs) ≡ any (λ x. g (f x)) xs
unfolding any
any-map g f [] = refl
any-map g f (x ∷ xs) = rw (any-map g f xs)

-- there is an element
pub any_there : {A : Type 0} (xs : List A) → any (λ x. true) xs ≡ ltb 0 (length xs)
unfolding any
any_there [] = refl
any_there (x ∷ xs) = sym (lt-ltb 0 (length (x ∷ xs)) (omega arith))

pub any-select : (f g : ℕ → Bool) (n : ℕ) → any g (select f n) ≡ some (λ c. both (g c) (f c)) n
unfolding any some select
any-select f g zero = refl
any-select f g (suc n) =
    any_append g (select f n) (pick (f n) (n ∷ []) [])
    ∙ rw (any-select f g n) (last (f n) (some (λ c. both (g c) (f c)) n))
  where
    last : (b m : Bool) → pick m true (any g (pick b (n ∷ []) [])) ≡ pick (both (g n) b) true m
    last true m = four (g n) m
      where
        four : (a m : Bool) → pick m true (pick a true false) ≡ pick (both a true) true m
        four true true = refl
        four true false = refl
        four false true = refl
        four false false = refl
    last false m = four (g n) m
      where
        four : (a m : Bool) → pick m true false ≡ pick (both a false) true m
        four true true = refl
        four true false = refl
        four false true = refl
        four false false = refl

pub some_or : (f g : ℕ → Bool) (n : ℕ) → some (λ c. pick (f c) true (g c)) n ≡ pick (some f n) true (some g n)
unfolding some
some_or f g zero = refl
some_or f g (suc n) = rw (some_or f g n) (four (f n) (g n) (some f n) (some g n))
  where
    four : (a b c d : Bool) → pick (pick a true b) true (pick c true d) ≡ pick (pick a true c) true (pick b true d)
    four true b c d = refl
    four false true true d = refl
    four false true false d = refl
    four false false c d = refl

pub some_ext : (f g : ℕ → Bool) → ((c : ℕ) → f c ≡ g c) → (n : ℕ) → some f n ≡ some g n
unfolding some
some_ext f g h zero = refl
some_ext f g h (suc n) = rw (h n, some_ext f g h n)

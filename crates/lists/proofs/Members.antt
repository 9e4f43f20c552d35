-- The members of a list that was put together: laid after another, mapped, gathered or sifted.
use Prim.Native.Nat.{ℕ, zero, suc, ◌<◌}
use mathlib.Core.Path.{◌≡◌, refl, sym, ap, ◌∙◌}
use mathlib.Core.Bool.{Bool, true, false, not, false≢true, true≢false}
use mathlib.Core.List.{List, [], ◌∷◌, map}
use native.Mathlib.Omega.{arith}
use native.Mathlib.Nat.{not-suc-le-zero}
use lib.ListN.{length, get_or}
use lib.Dec.{eqb}
use borrow.Author.Tests.{eqb-true, eq-eqb}
use Rattle.lists.specs.Pick.{pick, both}
use Rattle.lists.specs.Gather.{flat, keep}
use Rattle.lists.specs.Search.{any, member}
use Rattle.lists.specs.Order.{without}
use Rattle.lists.proofs.Choices.{either_of, either_left, either_right}
use Rattle.lists.proofs.Each.{any_at}
use Rattle.lists.proofs.Places.{member-append}

pub no_member : (z : ℕ) → member z [] ≡ false
unfolding member any
no_member z = refl

pub member_cons : (z y : ℕ) (ys : List ℕ) → member z (y ∷ ys) ≡ pick (eqb z y) true (member z ys)
unfolding member any
member_cons z y ys = refl

-- an element is a member
pub member_at : (xs : List ℕ) (n : ℕ) → n < length xs → member (get_or xs n 0) xs ≡ true
unfolding member
member_at xs n h = any_at (λ y. eqb (get_or xs n 0) y) 0 xs n h (eq-eqb (get_or xs n 0) (get_or xs n 0) refl)

-- the mapped element at a place is a member
pub member_map_at : {A : Type 0} (f : A → ℕ) (xs : List A) (n : ℕ) (d : A) → n < length xs → member (f (get_or xs n d)) (map f xs) ≡ true
member_map_at f [] n d h = absurd (not-suc-le-zero h)
member_map_at f (x ∷ xs) zero d h = member_cons (f x) (f x) (map f xs) ∙ rw (eq-eqb (f x) (f x) refl)
member_map_at f (x ∷ xs) (suc n) d h =
    member_cons (f (get_or xs n d)) (f x) (map f xs)
    ∙ either_right (eqb (f (get_or xs n d)) (f x)) (member (f (get_or xs n d)) (map f xs)) (member_map_at f xs n d (omega arith))

pub length-map : {A B : Type 0} (f : A → B) (xs : List A) → length (map f xs) ≡ length xs
length-map f [] = refl
length-map f (x ∷ xs) = ap suc (length-map f xs)

pub member-map : (f : ℕ → ℕ) (z : ℕ) (xs : List ℕ) → member z xs ≡ true → member (f z) (map f xs) ≡ true
member-map f z [] h = absurd (false≢true (sym (no_member z) ∙ h))
member-map f z (x ∷ xs) h =
    let rest = member-map f z xs in
    member_cons (f z) (f x) (map f xs)
    ∙ either_of (eqb z x) (member z xs) (sym (member_cons z x xs) ∙ h)
    (λ e. either_left (eqb (f z) (f x)) (member (f z) (map f xs)) (eq-eqb (f z) (f x) (ap f (eqb-true z x e))))
    (λ k. either_right (eqb (f z) (f x)) (member (f z) (map f xs)) (rest k))

-- what holds of every mapped element holds of every member
pub of_mapped : {A : Type 0} (P : ℕ → Type 0) (f : A → ℕ) → ((x : A) → P (f x)) → (xs : List A) (z : ℕ) → member z (map f xs) ≡ true → P z
unfolding member any
of_mapped P f h [] z e = absurd (false≢true e)
of_mapped P f h (x ∷ xs) z e =
    let rest = of_mapped P f h xs z in
    either_of (eqb z (f x)) (member z (map f xs)) e (λ q. rw (eqb-true z (f x) q) (h x)) rest

-- a piece's members are the whole's
pub member-flat : (f : ℕ → List ℕ) (z m : ℕ) (ms : List ℕ) → member m ms ≡ true → member z (f m) ≡ true → member z (flat f ms) ≡ true
unfolding flat
member-flat f z m [] h e = absurd (false≢true (sym (no_member m) ∙ h))
member-flat f z m (k ∷ ms) h e =
    let rest = member-flat f z m ms in
    member-append z (f k) (flat f ms)
    ∙ either_of (eqb m k) (member m ms) (sym (member_cons m k ms) ∙ h)
    (λ q. either_left (member z (f k)) (member z (flat f ms)) (ap (λ (n : ℕ). member z (f n)) (sym (eqb-true m k q)) ∙ e))
    (λ q. either_right (member z (f k)) (member z (flat f ms)) (rest q e))

-- what is sifted out is no member, the rest stays one
pub member-keep : (f : ℕ → Bool) (z : ℕ) (xs : List ℕ) → member z (keep f xs) ≡ both (f z) (member z xs)
unfolding keep member any
member-keep f z [] = none (f z)
  where
    none : (b : Bool) → false ≡ both b false
    none true = refl
    none false = refl
member-keep f z (x ∷ xs) = step (f x) (λ e. ap f (eqb-true z x e)) (member-keep f z xs)
  where
    kept : (c d m : Bool) → (d ≡ true → c ≡ true) → pick d true (both c m) ≡ both c (pick d true m)
    kept true d m h = refl
    kept false true m h = absurd (false≢true (h refl))
    kept false false m h = refl

    gone : (c d m : Bool) → (d ≡ true → c ≡ false) → both c m ≡ both c (pick d true m)
    gone true true m h = absurd (true≢false (h refl))
    gone true false m h = refl
    gone false d m h = refl

    step : (b : Bool) → (eqb z x ≡ true → f z ≡ b) → member z (keep f xs) ≡ both (f z) (member z xs)
        → member z (pick b (x ∷ keep f xs) (keep f xs)) ≡ both (f z) (pick (eqb z x) true (member z xs))
    step true q e = ap (λ (b : Bool). pick (eqb z x) true b) e ∙ kept (f z) (eqb z x) (member z xs) q
    step false q e = e ∙ gone (f z) (eqb z x) (member z xs) q

pub member-without : (z : ℕ) (ys xs : List ℕ) → member z (without ys xs) ≡ both (not (member z ys)) (member z xs)
unfolding without
member-without z ys xs = member-keep (λ x. not (member x ys)) z xs

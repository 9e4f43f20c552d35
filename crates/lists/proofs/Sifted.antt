-- Lists that were sifted, and what a whole list says of its members.
use Prim.Native.Nat.{ℕ}
use mathlib.Core.Path.{◌≡◌, refl, sym, ap, ◌∙◌}
use mathlib.Core.Bool.{Bool, true, false, false≢true}
use mathlib.Core.List.{List, [], ◌∷◌, ◌++◌, map}
use lib.Dec.{eqb}
use borrow.Author.Tests.{eq-eqb, eqb-true}
use Rattle.lists.specs.Pick.{pick}
use Rattle.lists.specs.Gather.{keep}
use Rattle.lists.specs.Search.{any, member}
use Rattle.lists.proofs.Choices.{either_of, either_right, same_test}
use Rattle.lists.proofs.Each.{neither}
use Rattle.lists.proofs.Members.{no_member, member_cons, member-map}

pub keep_append : {A : Type 0} (f : A → Bool) (xs ys : List A) → keep f (xs ++ ys) ≡ keep f xs ++ keep f ys
unfolding keep
keep_append f [] ys = refl
keep_append {A = A} f (x ∷ xs) ys = rw (keep_append f xs ys) (step (f x) (keep f xs) (keep f ys))
  where
    step : (b : Bool) (us vs : List A) → pick b (x ∷ (us ++ vs)) (us ++ vs) ≡ pick b (x ∷ us) us ++ vs
    step true us vs = refl
    step false us vs = refl

pub keep_ext : {A : Type 0} (f g : A → Bool) → ((x : A) → f x ≡ g x) → (xs : List A) → keep f xs ≡ keep g xs
unfolding keep
keep_ext f g h [] = refl
keep_ext f g h (x ∷ xs) = rw (h x, keep_ext f g h xs)

pub any-member : (f : ℕ → Bool) (z : ℕ) (xs : List ℕ) → any f xs ≡ false → member z xs ≡ true → f z ≡ false
unfolding any
any-member f z [] a m = absurd (false≢true (sym (no_member z) ∙ m))
any-member f z (x ∷ xs) a m =
    let n = neither (f x) (any f xs) a in
    let rest = any-member f z xs n.1 in
    either_of (eqb z x) (member z xs) (sym (member_cons z x xs) ∙ m) (λ e. rw (eqb-true z x e) n.0) rest

pub of_members : (P : ℕ → Type 0) (f : ℕ → ℕ) (xs : List ℕ) → ((x : ℕ) → member x xs ≡ true → P (f x)) → (z : ℕ) → member z (map f xs) ≡ true → P z
of_members P f [] h z e = absurd (false≢true (sym (no_member z) ∙ e))
of_members P f (x ∷ xs) h z e =
    let rest = of_members P f xs (λ y m. h y (member_cons y x xs ∙ either_right (eqb y x) (member y xs) m)) z in
    either_of (eqb z (f x)) (member z (map f xs)) (sym (member_cons z (f x) (map f xs)) ∙ e)
    (λ q. rw (eqb-true z (f x) q) (h x (member_cons x x xs ∙ rw (eq-eqb x x refl)))) rest

pub keep_all : (f : ℕ → Bool) (xs : List ℕ) → ((z : ℕ) → member z xs ≡ true → f z ≡ true) → keep f xs ≡ xs
unfolding keep
keep_all f [] h = refl
keep_all f (x ∷ xs) h =
    rw (h x (member_cons x x xs ∙ rw (eq-eqb x x refl)), keep_all f xs (λ z e. h z (member_cons z x xs ∙ either_right (eqb z x) (member z xs) e)))

pub keep_none : (f : ℕ → Bool) (xs : List ℕ) → ((z : ℕ) → member z xs ≡ true → f z ≡ false) → keep f xs ≡ []
unfolding keep
keep_none f [] h = refl
keep_none f (x ∷ xs) h =
    rw (h x (member_cons x x xs ∙ rw (eq-eqb x x refl)), keep_none f xs (λ z e. h z (member_cons z x xs ∙ either_right (eqb z x) (member z xs) e)))

-- a number is a member of the mapped list just if it was one, where f takes nothing else to its image
pub member_apart : (f : ℕ → ℕ) (z : ℕ) (xs : List ℕ) → ((x : ℕ) → member x xs ≡ true → f x ≡ f z → x ≡ z) → member (f z) (map f xs) ≡ member z xs
member_apart f z xs h =
    same_test (member (f z) (map f xs)) (member z xs)
    (λ e. of_members (λ y. y ≡ f z → member z xs ≡ true) f xs (λ x m q. sym (ap (λ (n : ℕ). member n xs) (h x m q)) ∙ m) (f z) e refl)
    (λ e. member-map f z xs e)

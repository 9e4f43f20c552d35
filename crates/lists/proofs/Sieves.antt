-- Where a sifted element stood, and where an element of a list that was put together came from.
use Prim.Native.Nat.{ℕ, zero, suc, ◌<◌}
use mathlib.Core.Path.{◌≡◌, refl, sym, ap, ◌∙◌}
use mathlib.Core.Bool.{Bool, true, false, false≢true}
use mathlib.Core.List.{List, [], ◌∷◌, map}
use native.Mathlib.Omega.{arith}
use native.Mathlib.Nat.{not-suc-le-zero}
use lib.ListN.{length, get_or, take}
use lib.Dec.{eqb}
use borrow.Author.Tests.{eqb-true, eq-eqb}
use Rattle.lists.specs.Pick.{pick}
use Rattle.lists.specs.Gather.{flat, keep}
use Rattle.lists.specs.Search.{member}
use Rattle.lists.proofs.Choices.{either_of, either_left, either_right}
use Rattle.lists.proofs.Members.{no_member, member_cons}
use Rattle.lists.proofs.Places.{member-append}

-- an element that is kept has before it those that are kept of the elements before it
pub keep_at : {A : Type 0} (f : A → Bool) (d : A) (xs : List A) (k : ℕ) → k < length xs → f (get_or xs k d) ≡ true
    → (length (keep f (take k xs)) < length (keep f xs)) × (get_or (keep f xs) (length (keep f (take k xs))) d ≡ get_or xs k d)
unfolding keep
keep_at f d [] k h e = absurd (not-suc-le-zero h)
keep_at f d (x ∷ xs) zero h e = rw e (omega arith, refl)
keep_at {A = A} f d (x ∷ xs) (suc k) h e = step (f x) (keep_at f d xs k (omega arith) e)
  where
    step : (b : Bool) → (length (keep f (take k xs)) < length (keep f xs)) × (get_or (keep f xs) (length (keep f (take k xs))) d ≡ get_or xs k d)
        → (length (pick b (x ∷ keep f (take k xs)) (keep f (take k xs))) < length (pick b (x ∷ keep f xs) (keep f xs)))
        × (get_or (pick b (x ∷ keep f xs) (keep f xs)) (length (pick b (x ∷ keep f (take k xs)) (keep f (take k xs)))) d ≡ get_or xs k d)
    step true i = (omega (arith, i.0), i.1)
    step false i = i

-- The place from which the j-th kept element comes.
pub record Sifted {A : Type 0} (f : A → Bool) (d : A) (xs : List A) (j : ℕ) : Type 0 where
  pub place : ℕ
  pub inside : place < length xs
  pub holds : f (get_or xs place d) ≡ true
  pub before : length (keep f (take place xs)) ≡ j

pub keep_from : {A : Type 0} (f : A → Bool) (d : A) (xs : List A) (j : ℕ) → j < length (keep f xs) → Sifted f d xs j
unfolding keep
keep_from f d [] j h = absurd (not-suc-le-zero h)
keep_from {A = A} f d (x ∷ xs) j h = step (f x) refl j h (λ i l. keep_from f d xs i l)
  where
    behind : (b : Bool) (j : ℕ) → f x ≡ b → Sifted f d xs j → Sifted f d (x ∷ xs) (pick b (suc j) j)
    behind b j e s = record {
      place = suc s.place;
      inside = omega (arith, s.inside);
      holds = s.holds;
      before = rw e (counted b s.before);
    }
      where
        counted : (b : Bool) → length (keep f (take s.place xs)) ≡ j
            → length (pick b (x ∷ keep f (take s.place xs)) (keep f (take s.place xs))) ≡ pick b (suc j) j
        counted true e = ap suc e
        counted false e = e

    step : (b : Bool) → f x ≡ b → (j : ℕ) → j < length (pick b (x ∷ keep f xs) (keep f xs)) → ((i : ℕ) → i < length (keep f xs) → Sifted f d xs i) → Sifted f d (x ∷ xs) j
    step true e zero h i = record { place = 0; inside = omega arith; holds = e; before = refl }
    step true e (suc j) h i = behind true j e (i j (omega arith))
    step false e j h i = behind false j e (i j h)

-- a member of a mapped list is the image of an element
pub mapped_from : {A : Type 0} (f : A → ℕ) (d : A) (xs : List A) (z : ℕ) → member z (map f xs) ≡ true → (n : ℕ) × (n < length xs) × (z ≡ f (get_or xs n d))
mapped_from f d [] z h = absurd (false≢true (sym (no_member z) ∙ h))
mapped_from f d (x ∷ xs) z h =
    either_of (eqb z (f x)) (member z (map f xs)) (sym (member_cons z (f x) (map f xs)) ∙ h)
    (λ e. (0, omega arith, eqb-true z (f x) e))
    (λ e. let i = mapped_from f d xs z e in (suc i.0, omega (arith, i.1), i.2))

-- a member of the whole is one of a piece
pub flat_from : (f : ℕ → List ℕ) (ms : List ℕ) (z : ℕ) → member z (flat f ms) ≡ true → (m : ℕ) × (member m ms ≡ true) × (member z (f m) ≡ true)
unfolding flat
flat_from f [] z h = absurd (false≢true (sym (no_member z) ∙ h))
flat_from f (k ∷ ms) z h =
    either_of (member z (f k)) (member z (flat f ms)) (sym (member-append z (f k) (flat f ms)) ∙ h)
    (λ e. (k, member_cons k k ms ∙ either_left (eqb k k) (member k ms) (eq-eqb k k refl), e))
    (λ e. let i = flat_from f ms z e in (i.0, member_cons i.0 k ms ∙ either_right (eqb i.0 k) (member i.0 ms) i.1, i.2))

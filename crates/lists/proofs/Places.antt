-- The place of a number in a list; a list of selected numbers, and a rank.
use Prim.Native.Nat.{ℕ, zero, suc, ◌+◌, ◌<◌, ◌≤◌}
use mathlib.Core.Path.{◌≡◌, refl, sym, ap, ◌∙◌}
use mathlib.Core.Bool.{Bool, true, false, false≢true, true≢false}
use mathlib.Core.Logic.{⊎_elim}
use mathlib.Core.List.{List, [], ◌∷◌, ◌++◌}
use native.Mathlib.Omega.{arith}
use native.Mathlib.Nat.{zero-add, suc-add, not-suc-le-zero, eq-or-lt_of_le, le_of_suc-le-suc}
use lib.ListN.{length, get_or, length-append}
use lib.Dec.{eqb}
use borrow.Author.Tests.{eqb-true, eq-eqb, ne_eqb}
use Rattle.lists.specs.Pick.{pick}
use Rattle.lists.specs.Gather.{select, rank}
use Rattle.lists.specs.Search.{any, member, place}

-- a member stands at its place
pub at_place : (x d : ℕ) (ys : List ℕ) → member x ys ≡ true → (place x ys < length ys) × (get_or ys (place x ys) d ≡ x)
unfolding member any place
at_place x d [] h = absurd (false≢true h)
at_place x d (y ∷ ys) h = found (eqb x y) (λ e. eqb-true x y e) (λ k. at_place x d ys k) h
  where
    found : (b : Bool) → (b ≡ true → x ≡ y)
        → (any (λ z. eqb x z) ys ≡ true → (place x ys < length ys) × (get_or ys (place x ys) d ≡ x))
        → pick b true (any (λ z. eqb x z) ys) ≡ true
        → (pick b 0 (suc (place x ys)) < suc (length ys)) × (get_or (y ∷ ys) (pick b 0 (suc (place x ys))) d ≡ x)
    found true e k h = (omega arith, sym (e refl))
    found false e k h = (omega (arith, (k h).0), (k h).1)

pub length-select : (f : ℕ → Bool) (n : ℕ) → length (select f n) ≡ rank f n
unfolding select rank
length-select f zero = refl
length-select f (suc n) = length-append (select f n) _ ∙ rw (length-select f n) (ap (λ (k : ℕ). rank f n + k) (one (f n)))
  where
    one : (b : Bool) → length (pick b (n ∷ []) []) ≡ pick b 1 0
    one true = refl
    one false = refl

pub place_left : (x : ℕ) (xs ys : List ℕ) → member x xs ≡ true → place x (xs ++ ys) ≡ place x xs
unfolding member any place
place_left x [] ys h = absurd (false≢true h)
place_left x (y ∷ xs) ys h = step (eqb x y) (λ k. place_left x xs ys k) h
  where
    step : (b : Bool) → (any (λ z. eqb x z) xs ≡ true → place x (xs ++ ys) ≡ place x xs) → pick b true (any (λ z. eqb x z) xs) ≡ true
        → pick b 0 (suc (place x (xs ++ ys))) ≡ pick b 0 (suc (place x xs))
    step true k h = refl
    step false k h = ap suc (k h)

pub place_right : (x : ℕ) (xs ys : List ℕ) → member x xs ≡ false → place x (xs ++ ys) ≡ length xs + place x ys
unfolding member any place
place_right x [] ys h = sym (zero-add (place x ys))
place_right x (y ∷ xs) ys h = step (eqb x y) (λ k. place_right x xs ys k) h
  where
    step : (b : Bool) → (any (λ z. eqb x z) xs ≡ false → place x (xs ++ ys) ≡ length xs + place x ys)
        → pick b true (any (λ z. eqb x z) xs) ≡ false
        → pick b 0 (suc (place x (xs ++ ys))) ≡ suc (length xs) + place x ys
    step true k h = absurd (true≢false h)
    step false k h = ap suc (k h) ∙ sym (suc-add (length xs) (place x ys))

pub member-append : (x : ℕ) (xs ys : List ℕ) → member x (xs ++ ys) ≡ pick (member x xs) true (member x ys)
unfolding member any
member-append x [] ys = refl
member-append x (y ∷ xs) ys = rw (member-append x xs ys) (step (eqb x y) (any (λ z. eqb x z) xs) (any (λ z. eqb x z) ys))
  where
    step : (a b c : Bool) → pick a true (pick b true c) ≡ pick (pick a true b) true c
    step true b c = refl
    step false b c = refl

-- a number at or past n is not selected below n; a selected one is a member
other_one : (r n : ℕ) (b : Bool) → (r ≡ n → ⊥) → member r (pick b (n ∷ []) []) ≡ false
unfolding member any
other_one r n true h = rw (ne_eqb r n h)
other_one r n false h = refl

self_one : (n : ℕ) (b : Bool) → b ≡ true → (member n (pick b (n ∷ []) []) ≡ true) × (place n (pick b (n ∷ []) []) ≡ 0)
unfolding member any place
self_one n true e = (rw (eq-eqb n n refl), rw (eq-eqb n n refl))
self_one n false e = absurd (false≢true e)

not_below : (f : ℕ → Bool) (r n : ℕ) → n ≤ r → member r (select f n) ≡ false
unfolding select member any
not_below f r zero h = refl
not_below f r (suc n) h =
    let l : n ≤ r = omega arith in
    member-append r (select f n) (pick (f n) (n ∷ []) []) ∙ rw (not_below f r n l) (other_one r n (f n) (λ e. omega arith))

pub is_selected : (f : ℕ → Bool) (r n : ℕ) → r < n → f r ≡ true → member r (select f n) ≡ true
unfolding select
is_selected f r zero h e = absurd (not-suc-le-zero h)
is_selected f r (suc n) h e =
    member-append r (select f n) (pick (f n) (n ∷ []) [])
    ∙ ⊎_elim (λ q. here q) (λ l. rw (is_selected f r n l e)) (eq-or-lt_of_le (le_of_suc-le-suc h))
  where
    here : r ≡ n → pick (member r (select f n)) true (member r (pick (f n) (n ∷ []) [])) ≡ true
    here q = rw (q, not_below f n n (omega arith)) (self_one n (f n) (ap f (sym q) ∙ e)).0

-- the new number of a selected one is its rank
pub place-select : (f : ℕ → Bool) (r n : ℕ) → r < n → f r ≡ true → place r (select f n) ≡ rank f r
unfolding select
place-select f r zero h e = absurd (not-suc-le-zero h)
place-select f r (suc n) h e =
    ⊎_elim (λ q. here q) (λ l. place_left r (select f n) _ (is_selected f r n l e) ∙ place-select f r n l e) (eq-or-lt_of_le (le_of_suc-le-suc h))
  where
    here : r ≡ n → place r (select f n ++ pick (f n) (n ∷ []) []) ≡ rank f r
    here q =
        rw q (place_right n (select f n) (pick (f n) (n ∷ []) []) (not_below f n n (omega arith))
        ∙ rw (length-select f n, (self_one n (f n) (ap f (sym q) ∙ e)).1) (omega arith))

-- no later than any place where the number stands
pub place_least : (x : ℕ) (ys : List ℕ) (j : ℕ) → j < length ys → get_or ys j 0 ≡ x → place x ys ≤ j
unfolding place
place_least x [] j h e = absurd (not-suc-le-zero h)
place_least x (y ∷ ys) zero h e = rw (eq-eqb x y (sym e)) (omega arith)
place_least x (y ∷ ys) (suc j) h e = step (eqb x y) (place_least x ys j (omega arith) e)
  where
    step : (b : Bool) → place x ys ≤ j → pick b 0 (suc (place x ys)) ≤ suc j
    step true i = omega arith
    step false i = omega arith

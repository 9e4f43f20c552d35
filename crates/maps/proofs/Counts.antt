-- The count of a map, found from the list's end: the pairs from a place on are alike, and the one before is another.
use Prim.Native.Nat.{ℕ, zero, suc, ◌+◌, ◌-◌, ◌≤◌, ◌<◌}
use mathlib.Core.Path.{◌≡◌, refl, sym, ◌∙◌}
use mathlib.Core.Bool.{Bool, true, false}
use mathlib.Core.List.{List, [], ◌∷◌}
use native.Mathlib.Omega.{arith}
use native.Mathlib.Nat.{not-suc-le-zero}
use lib.ListN.{length, get_or}
use lib.Dec.{eqb}
use borrow.Author.Tests.{eqb-true, eq-eqb}
use Rattle.lists.specs.Pick.{pick}
use Rattle.lists.specs.Search.{all}
use Rattle.lists.proofs.Each.{all_at}
use Rattle.rules.specs.Lists.{new_id, old_id}
use Rattle.rules.specs.Maps.{count_of}

-- the glyphs from place i on have the pair q
pub record Alike (pair : ℕ → ℕ) (es : List ℕ) (q i : ℕ) : Type 0 where
  pub inside : i < length es
  pub each : (k : ℕ) → i ≤ k → k < length es → q ≡ pair (old_id (get_or es k 0))

each_all : (f : ℕ → Bool) (xs : List ℕ) → ((k : ℕ) → k < length xs → f (get_or xs k 0) ≡ true) → all f xs ≡ true
unfolding all
each_all f [] h = refl
each_all f (x ∷ xs) h = rw (h 0 (omega arith), each_all f xs (λ k l. h (suc k) (omega arith)))

-- all of a list are alike
whole : (pair : ℕ → ℕ) (es : List ℕ) {q : ℕ} → Alike pair es q 0 → count_of pair es ≡ new_id (get_or es 0 0) + 1
unfolding count_of
whole pair [] a = absurd (not-suc-le-zero a.inside)
whole pair (e ∷ es) {q} a =
    rw (each_all (λ d. eqb (pair (old_id e)) (pair (old_id d))) es
    (λ k l. eq-eqb (pair (old_id e)) (pair (old_id (get_or es k 0))) (sym (a.each 0 (omega arith) (omega arith)) ∙ a.each (suc k) (omega arith) (omega arith))))

pub count_all : {pair : ℕ → ℕ} {es : List ℕ} {q i : ℕ} → Alike pair es q i → i ≤ 0 → count_of pair es ≡ new_id (get_or es 0 0) + 1
count_all {pair} {es} {i = i} a h = let e : i ≡ 0 = omega arith in whole pair es (rw e at a)

alike_tail : {pair : ℕ → ℕ} {es : List ℕ} {q i : ℕ} (e : ℕ) → Alike pair (e ∷ es) q (suc i) → Alike pair es q i
alike_tail e a = record { inside = omega (arith, a.inside); each = λ k l g. a.each (suc k) (omega arith) (omega arith) }

-- the first is not like all behind it
module _ (pair : ℕ → ℕ) (e : ℕ) (es : List ℕ) where
  next : ((((k : ℕ) → k < length es → pair (old_id e) ≡ pair (old_id (get_or es k 0))) → ⊥)) → count_of pair (e ∷ es) ≡ count_of pair es
  unfolding count_of
  next n = step (all own es) (λ h. n (λ k l. eqb-true (pair (old_id e)) (pair (old_id (get_or es k 0))) (all_at own 0 es k h l)))
    where
      own : ℕ → Bool
      own d = eqb (pair (old_id e)) (pair (old_id d))

      step : (b : Bool) → (b ≡ true → ⊥) → pick b (new_id e + 1) (count_of pair es) ≡ count_of pair es
      step true m = absurd (m refl)
      step false m = refl

found : (pair : ℕ → ℕ) (es : List ℕ) {q : ℕ} (i : ℕ) → Alike pair es q (suc i) → (pair (old_id (get_or es i 0)) ≡ q → ⊥)
    → count_of pair es ≡ new_id (get_or es (suc i) 0) + 1
found pair [] i a n = absurd (not-suc-le-zero a.inside)
found pair (e ∷ es) zero a n =
    let l = alike_tail e a in
    next pair e es (λ h. n (h 0 l.inside ∙ sym (l.each 0 (omega arith) l.inside))) ∙ whole pair es l
found pair (e ∷ es) (suc i) a n =
    let l = alike_tail e a in
    next pair e es (λ h. n (sym (h i (omega (arith, l.inside))) ∙ (h (suc i) l.inside ∙ sym (l.each (suc i) (omega arith) l.inside))))
    ∙ found pair es i l n

-- the run of equal pairs that ends the list starts at i
pub count_found : (pair : ℕ → ℕ) (es : List ℕ) {q : ℕ} (i : ℕ) → Alike pair es q i → 0 < i → (pair (old_id (get_or es (i - 1) 0)) ≡ q → ⊥)
    → count_of pair es ≡ new_id (get_or es i 0) + 1
count_found pair es i a h n = let s : suc (i - 1) ≡ i = omega arith in rw s at (found pair es (i - 1) (rw s a) n)

-- The numbers that a test selects, and how many there are: the test may be changed for one that says the same, and the range be cut in two.
use Prim.Native.Nat.{ℕ, zero, suc, ◌+◌, ◌-◌, ◌<◌, ◌≤◌}
use mathlib.Core.Path.{◌≡◌, refl, sym, ap, ◌∙◌}
use mathlib.Core.Bool.{Bool, true, false}
use mathlib.Core.List.{[], ◌∷◌, ◌++◌, map, map-append, append_assoc, append-nil}
use native.Mathlib.Omega.{arith}
use native.Mathlib.Nat.{add-zero, add-suc}
use native.Mathlib.Numerals.{add-one}
use lib.ListN.{length-map}
use Rattle.lists.specs.Pick.{pick}
use Rattle.lists.specs.Gather.{select, rank}
use Rattle.lists.proofs.Places.{length-select}

-- two tests that agree below n
module _ (f g : ℕ → Bool) where
  pub select_ext : (n : ℕ) → ((i : ℕ) → i < n → f i ≡ g i) → select f n ≡ select g n
  unfolding select
  select_ext zero h = refl
  select_ext (suc n) h = rw (select_ext n (λ i l. h i (omega arith)), h n (omega arith))

  pub rank_ext : (n : ℕ) → ((i : ℕ) → i < n → f i ≡ g i) → rank f n ≡ rank g n
  rank_ext n h = rw (← length-select f n, ← length-select g n, select_ext n h)

-- a range cut in two
module _ (f : ℕ → Bool) (m : ℕ) where
  pub select_add : (n : ℕ) → select f (m + n) ≡ select f m ++ map (λ i. m + i) (select (λ i. f (m + i)) n)
  unfolding select
  select_add zero = rw add-zero (sym (append-nil (select f m)))
  select_add (suc n) =
      rw (add-suc, select_add n, map-append, append_assoc)
      (ap (λ r. select f m ++ (map (λ i. m + i) (select (λ i. f (m + i)) n) ++ r)) (one (f (m + n))))
    where
      one : (b : Bool) → pick b ((m + n) ∷ []) [] ≡ map (λ i. m + i) (pick b (n ∷ []) [])
      one true = refl
      one false = refl

  pub rank_add : (n : ℕ) → rank f (m + n) ≡ rank f m + rank (λ i. f (m + i)) n
  unfolding rank
  rank_add zero = rw (add-zero, add-zero)
  rank_add (suc n) = rw (add-suc, rank_add n) (omega arith)

-- where the test fails throughout
pub select_none : (f : ℕ → Bool) (n : ℕ) → ((i : ℕ) → i < n → f i ≡ false) → select f n ≡ []
unfolding select
select_none f zero h = refl
select_none f (suc n) h = rw (select_none f n (λ i l. h i (omega arith)), h n (omega arith))

-- where it fails from m on
pub select_below : (f : ℕ → Bool) (m n : ℕ) → m ≤ n → ((i : ℕ) → m ≤ i → i < n → f i ≡ false) → select f n ≡ select f m
select_below f m n h k =
    let e : n ≡ m + (n - m) = omega arith in
    ap (λ (j : ℕ). select f j) e
    ∙ rw (select_add f m (n - m), select_none (λ i. f (m + i)) (n - m) (λ i l. k (m + i) (omega arith) (omega arith)), append-nil)

-- k is the first that is selected
module _ (f : ℕ → Bool) (k : ℕ) (t : f k ≡ true) (h : (i : ℕ) → i < k → f i ≡ false) where
  up_to : select f (k + 1) ≡ k ∷ []
  unfolding select
  up_to = rw (add-one, select_none f k h, t)

  pub select_first : (n : ℕ) → k < n → select f n ≡ k ∷ map (λ i. k + 1 + i) (select (λ i. f (k + 1 + i)) (n - (k + 1)))
  select_first n l =
      let e : n ≡ k + 1 + (n - (k + 1)) = omega arith in
      ap (λ (j : ℕ). select f j) e ∙ rw (select_add f (k + 1) (n - (k + 1)), up_to)

  pub rank_first : (n : ℕ) → k < n → rank f n ≡ suc (rank (λ i. f (k + 1 + i)) (n - (k + 1)))
  rank_first n l =
      rw (← length-select f n, ← length-select (λ i. f (k + 1 + i)) (n - (k + 1)), select_first n l, length-map)

pub rank_none : (f : ℕ → Bool) → 0 ≡ rank f 0
unfolding rank
rank_none f = refl

pub rank_le : (f : ℕ → Bool) (n : ℕ) → rank f n ≤ n
unfolding rank
rank_le f zero = omega arith
rank_le f (suc n) = omega (arith, rank_le f n, one (f n))
  where
    one : (b : Bool) → pick {A = ℕ} b 1 0 ≤ 1
    one true = omega arith
    one false = omega arith

pub rank_mono : (f : ℕ → Bool) (m n : ℕ) → m ≤ n → rank f m ≤ rank f n
rank_mono f m n h =
    let e : n ≡ m + (n - m) = omega arith in
    omega (arith, ap (λ (j : ℕ). rank f j) e ∙ rank_add f m (n - m))

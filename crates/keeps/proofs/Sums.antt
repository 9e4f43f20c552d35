-- A sum over the numbers below n, and over a list that holds every number where a term is not 0.
use Prim.Native.Nat.{ℕ, zero, suc, ◌<◌}
use mathlib.Core.Path.{◌≡◌, refl, sym, ap, ◌∙◌}
use mathlib.Core.List.{List, [], ◌∷◌}
use mathlib.Core.Logic.{⊎_elim}
use native.Mathlib.Omega.{arith}
use native.Mathlib.Decide.{ℕ_discrete}
use native.Mathlib.Nat.{not-suc-le-zero, eq-or-lt_of_le, le_of_suc-le-suc}
use lib.ListN.{length, get_or}
use lib.IntN.{ℤ, pos, ◌+ℤ◌, +ℤ_assoc, +ℤ_comm, +ℤ_idr}
use lib.Dec.{eqb}
use borrow.Author.Tests.{eq-eqb, ne_eqb}
use Rattle.lists.specs.Pick.{pick}
use Rattle.demands.specs.Reading.{sum}

pub sum_same : (f g : ℕ → ℤ) (n : ℕ) → ((c : ℕ) → c < n → f c ≡ g c) → sum f n ≡ sum g n
unfolding sum
sum_same f g zero h = refl
sum_same f g (suc n) h = rw (h n (omega arith), sum_same f g n (λ c l. h c (omega arith)))

sum_zero : (f : ℕ → ℤ) (n : ℕ) → ((c : ℕ) → c < n → f c ≡ pos 0) → sum f n ≡ pos 0
unfolding sum
sum_zero f zero h = refl
sum_zero f (suc n) h = rw (h n (omega arith), sum_zero f n (λ c l. h c (omega arith)))

sum_first : (f : ℕ → ℤ) (n : ℕ) → sum f (suc n) ≡ f 0 +ℤ sum (λ c. f (suc c)) n
unfolding sum
sum_first f zero = +ℤ_comm (pos 0) (f 0)
sum_first f (suc n) = ap (λ (z : ℤ). z +ℤ f (suc n)) (sum_first f n) ∙ +ℤ_assoc (f 0) (sum (λ c. f (suc c)) n) (f (suc n))

-- f with 0 at x
abbrev pub off : (ℕ → ℤ) → ℕ → ℕ → ℤ
off f x b = pick (eqb b x) (pos 0) (f b)

off_self : (f : ℕ → ℤ) (x : ℕ) → off f x x ≡ pos 0
off_self f x = rw (eq-eqb x x refl)

off_other : (f : ℕ → ℤ) (x b : ℕ) → (b ≡ x → ⊥) → off f x b ≡ f b
off_other f x b h = rw (ne_eqb b x h)

-- one term taken out
sum_out : (f : ℕ → ℤ) (x n : ℕ) → x < n → sum f n ≡ f x +ℤ sum (λ b. off f x b) n
unfolding sum
sum_out f x zero h = absurd (not-suc-le-zero h)
sum_out f x (suc n) h = ⊎_elim (λ q. last q) (λ l. before l (sum_out f x n l)) (eq-or-lt_of_le (le_of_suc-le-suc h))
  where
    last : x ≡ n → sum f n +ℤ f n ≡ f x +ℤ (sum (λ b. off f x b) n +ℤ off f x n)
    last q =
        let a : sum (λ b. off f n b) n ≡ sum f n = sum_same (λ b. off f n b) f n (λ b l. off_other f n b (λ e. omega arith)) in
        rw (q, off_self f n, a, +ℤ_idr (sum f n)) (+ℤ_comm (sum f n) (f n))

    before : x < n → sum f n ≡ f x +ℤ sum (λ b. off f x b) n → sum f n +ℤ f n ≡ f x +ℤ (sum (λ b. off f x b) n +ℤ off f x n)
    before l e =
        ap (λ (z : ℤ). z +ℤ f n) e
        ∙ (+ℤ_assoc (f x) (sum (λ b. off f x b) n) (f n)
        ∙ ap (λ (z : ℤ). f x +ℤ (sum (λ b. off f x b) n +ℤ z)) (sym (off_other f x n (λ q. omega arith))))

-- a list of different numbers below n that leaves out only numbers with term 0
pub sum_list : (f : ℕ → ℤ) (xs : List ℕ) (n : ℕ)
    → ((c : ℕ) → c < length xs → get_or xs c 0 < n)
    → ((c d : ℕ) → c < length xs → d < length xs → get_or xs c 0 ≡ get_or xs d 0 → c ≡ d)
    → ((b : ℕ) → b < n → ((c : ℕ) → c < length xs → get_or xs c 0 ≡ b → ⊥) → f b ≡ pos 0)
    → sum (λ c. f (get_or xs c 0)) (length xs) ≡ sum f n
sum_list f [] n i o z = sum_zero (λ c. f 0) 0 (λ c l. absurd (not-suc-le-zero l)) ∙ sym (sum_zero f n (λ b l. z b l (λ c m. absurd (not-suc-le-zero m))))
sum_list f (x ∷ xs) n i o z =
    sum_first (λ c. f (get_or (x ∷ xs) c 0)) (length xs)
    ∙ (ap (λ (y : ℤ). f x +ℤ y) (sum_same (λ c. f (get_or xs c 0)) (λ c. off f x (get_or xs c 0)) (length xs) (λ c l. sym (off_other f x (get_or xs c 0) (apart c l)))
    ∙ sum_list (λ b. off f x b) xs n (λ c l. i (suc c) (omega arith)) (λ c d l m e. let q = o (suc c) (suc d) (omega arith) (omega arith) e in omega arith) rest)
    ∙ sym (sum_out f x n (i 0 (omega arith))))
  where
    apart : (c : ℕ) → c < length xs → get_or xs c 0 ≡ x → ⊥
    apart c l e = let q = o (suc c) 0 (omega arith) (omega arith) e in omega arith

    rest : (b : ℕ) → b < n → ((c : ℕ) → c < length xs → get_or xs c 0 ≡ b → ⊥) → off f x b ≡ pos 0
    rest b l h = elim (ℕ_discrete b x) [
      | yes e ↦ rw e (off_self f x)
      | no e ↦ off_other f x b e ∙ z b l (λ c m g. missing c m g e)
    ]
      where
        missing : (c : ℕ) → c < length (x ∷ xs) → get_or (x ∷ xs) c 0 ≡ b → (b ≡ x → ⊥) → ⊥
        missing zero m g e = e (sym g)
        missing (suc c) m g e = h c (omega arith) g

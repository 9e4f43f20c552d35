-- How many of the numbers below n a test selects, where the test says that the number is in a list.
use Prim.Native.Nat.{ℕ, zero, suc, ◌+◌, ◌≤◌}
use mathlib.Core.Path.{◌≡◌, refl}
use mathlib.Core.Bool.{Bool, true, false}
use mathlib.Core.List.{List, [], ◌∷◌}
use native.Mathlib.Omega.{arith}
use native.Mathlib.Decide.{ℕ_discrete}
use lib.ListN.{length}
use lib.Dec.{eqb}
use borrow.Author.Tests.{eq-eqb, ne_eqb}
use Rattle.lists.specs.Pick.{pick}
use Rattle.lists.specs.Gather.{rank}
use Rattle.lists.specs.Search.{any, member}

rank_or : (f g : ℕ → Bool) (n : ℕ) → rank (λ c. pick (f c) true (g c)) n ≤ rank f n + rank g n
unfolding rank
rank_or f g zero = omega arith
rank_or f g (suc n) = let i = rank_or f g n in let o = one (f n) (g n) in omega arith
  where
    one : (a b : Bool) → pick (pick a true b) 1 0 ≤ pick a 1 0 + pick b 1 0
    one true b = omega arith
    one false b = omega arith

rank_none : (x n : ℕ) → n ≤ x → rank (λ c. eqb c x) n ≡ 0
unfolding rank
rank_none x zero h = refl
rank_none x (suc n) h = rw (ne_eqb n x (λ e. omega arith), rank_none x n (omega arith))

rank_one : (x n : ℕ) → rank (λ c. eqb c x) n ≤ 1
unfolding rank
rank_one x zero = omega arith
rank_one x (suc n) = elim (ℕ_discrete n x) [
  | yes e ↦ (let z = rank_none x n (omega arith) in rw (eq-eqb n x e, z) (omega arith))
  | no e ↦ (let i = rank_one x n in rw (ne_eqb n x e) (omega arith))
]

rank_false : (n : ℕ) → rank (λ c. false) n ≤ 0
unfolding rank
rank_false zero = omega arith
rank_false (suc n) = let i = rank_false n in omega arith

-- no more than the list has elements
pub rank_members : (xs : List ℕ) (n : ℕ) → rank (λ c. member c xs) n ≤ length xs
unfolding member any
rank_members [] n = rank_false n
rank_members (x ∷ xs) n =
    let a = rank_or (λ c. eqb c x) (λ c. member c xs) n in
    let b = rank_one x n in
    let i = rank_members xs n in
    omega (arith, a, b, i)

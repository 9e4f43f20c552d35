-- Pieces laid one after the other.
use Rattle.std.specs.Prelude.{ℕ, zero, suc, ◌+◌, Bool, List, [], ◌∷◌, ◌++◌}
use Rattle.lists.specs.Pick.{pick}

-- the pieces f 0, f 1, .., f (n - 1)
unfoldable pub gather : (ℕ → List ℕ) → ℕ → List ℕ
gather f zero = []
gather f (suc n) = gather f n ++ f n

-- the values f 0, f 1, .., f (n - 1)
unfoldable pub tab : {A : Type 0} → (ℕ → A) → ℕ → List A
tab f zero = []
tab f (suc n) = tab f n ++ f n ∷ []

-- the pieces of a list's elements
unfoldable pub flat : {A : Type 0} → (A → List ℕ) → List A → List ℕ
flat f [] = []
flat f (x ∷ xs) = f x ++ flat f xs

-- the numbers below n at which the test holds, ascending
unfoldable pub select : (ℕ → Bool) → ℕ → List ℕ
select f zero = []
select f (suc n) = select f n ++ pick (f n) (n ∷ []) []

-- the elements at which the test holds, in their order
unfoldable pub keep : {A : Type 0} → (A → Bool) → List A → List A
keep f [] = []
keep f (x ∷ xs) = pick (f x) (x ∷ keep f xs) (keep f xs)

-- how many of the numbers below n are selected: a rank
unfoldable pub rank : (ℕ → Bool) → ℕ → ℕ
rank f zero = 0
rank f (suc n) = rank f n + pick (f n) 1 0

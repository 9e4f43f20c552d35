-- What the code knows of a list of pairs part of the way through it.
use Rattle.std.specs.Prelude.{ℕ, ◌+◌, ◌-◌, ◌*◌, ◌<◌, ◌≤◌, ◌≡◌, List, get_or, take}
use Rattle.lists.specs.Search.{member}
use Rattle.bits.specs.Bits.{has}
use Rattle.rules.specs.Lists.{outer}

-- the set holds the inners of those pairs that have the outer
pub record Inners (set : List ℕ) (o : ℕ) (ps : List ℕ) : Type 0 where
  pub is : (j : ℕ) → j < 65536 → has set j ≡ member (o * 65536 + j) ps

-- before pair i the set holds the inners of the outer of the pair before it
pub record Held (set ps : List ℕ) (i : ℕ) : Type 0 where
  pub is : 0 < i → Inners set (outer (get_or ps (i - 1) 0)) (take i ps)

-- the pairs from one place up to another have one outer
pub record OneOuter (ps : List ℕ) (from end : ℕ) : Type 0 where
  pub after : from < end
  pub alike : (k : ℕ) → from ≤ k → k < end → outer (get_or ps k 0) ≡ outer (get_or ps from 0)

-- and the next of the first n pairs, if there is one, has another
pub record RunEnd (ps : List ℕ) (n from end : ℕ) : Type 0 where
  pub one : OneOuter ps from end
  pub inside : end ≤ n
  pub other : end < n → outer (get_or ps end 0) ≡ outer (get_or ps from 0) → ⊥

-- The largest number of a list, gathered from its end, and the bits that it takes.
use Prim.Native.Nat.{ℕ, ◌-◌, ◌^◌, ◌≤◌, ◌<◌, max}
use mathlib.Core.Path.{◌≡◌, refl, sym, ap, ◌∙◌}
use mathlib.Core.List.{List, [], ◌∷◌, ◌++◌, map, append_assoc, append-nil}
use native.Mathlib.Nat.{le_refl, lt_of_le_of_lt}
use native.Mathlib.Omega.{arith}
use lib.Count.{count_leading_zeros}
use lib.ListN.{length}
use Rattle.lists.specs.Search.{largest}
use Rattle.rules.specs.Maps.{bit_length, bits_for}
use Rattle.laws.specs.Bits.{bits_climb}

largest_behind : (f : ℕ → ℕ) (xs ys : List ℕ) → largest (map f ys) ≤ largest (map f (xs ++ ys))
unfolding largest
largest_behind f [] ys = le_refl (largest (map f ys))
largest_behind f (x ∷ xs) ys = omega (arith, largest_behind f xs ys)

-- most is the largest of the elements behind the rest
pub record Most (f : ℕ → ℕ) (xs rest : List ℕ) (most : ℕ) : Type 0 where
  pub behind : List ℕ
  pub all : xs ≡ rest ++ behind
  pub is : most ≡ largest (map f behind)

module _ {f : ℕ → ℕ} {xs : List ℕ} where
  pub most_none : {rest : List ℕ} → rest ≡ xs → Most f xs rest 0
  unfolding largest
  most_none e = record { behind = []; all = sym e ∙ sym (append-nil _); is = refl }

  module _ {rest : List ℕ} {most : ℕ} (m : Most f xs rest most) where
    all_more : (left : List ℕ) (x : ℕ) → rest ≡ left ++ x ∷ [] → xs ≡ left ++ x ∷ m.behind
    all_more left x e = m.all ∙ rw e (append_assoc left (x ∷ []) m.behind)

    pub most_more : {left : List ℕ} {x v : ℕ} → rest ≡ left ++ x ∷ [] → v ≡ f x → Most f xs left (max most v)
    unfolding largest
    most_more {left} {x} e h = record { behind = x ∷ m.behind; all = all_more left x e; is = omega (arith, m.is, h) }

    pub most_under : most ≤ largest (map f xs)
    most_under = rw (m.is, m.all) (largest_behind f rest m.behind)

  pub most_end : {rest : List ℕ} {most : ℕ} → Most f xs rest most → length rest ≡ 0 → most ≡ largest (map f xs)
  most_end {rest = []} m e = m.is ∙ ap (λ ys. largest (map f ys)) (sym m.all)
  most_end {rest = x ∷ rest} m e = absurd (omega arith)

-- ---- bits

-- a number with as many bits as a limit: those above it, up to the limit, have as many
pub bits_full : {most top limit some full : ℕ} → most ≤ top → top ≤ limit → limit < 2 ^ 32 → full ≡ max 1 (32 - count_leading_zeros 32 limit)
    → some ≡ max 1 (32 - count_leading_zeros 32 most) → some ≡ full → full ≡ bits_for top
unfolding bits_for bit_length
bits_full {most} {top} {limit} h l fits f s e = omega (arith, bits_climb most top h (lt_of_le_of_lt l fits), bits_climb top limit l fits)

pub bits_all : {most top bits : ℕ} → most ≡ top → bits ≡ max 1 (32 - count_leading_zeros 32 most) → bits ≡ bits_for top
unfolding bits_for bit_length
bits_all e b = rw (← e) b

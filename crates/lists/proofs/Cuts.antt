-- A part of a list is that of any other list that starts alike.
use mathlib.Core.Path.{◌≡◌, sym, ap, ◌∙◌}
use mathlib.Core.List.{List, [], ◌∷◌}
use Prim.Native.Nat.{ℕ, zero, suc, ◌+◌, ◌≤◌, ◌<◌}
use native.Mathlib.Nat.{zero-add, suc-add}
use lib.ListN.{take, drop, get_or}
use lib.Seq.{take-take, take-nil, drop-nil, get_or-take}

pub drop-take : (a k : ℕ) (l : List ℕ) → drop a (take (a + k) l) ≡ take k (drop a l)
drop-take zero k l = rw zero-add
drop-take (suc a) k [] = rw (take-nil, drop-nil) (sym (take-nil k))
drop-take (suc a) k (x ∷ l) = rw suc-add (drop-take a k l)

module _ (v w : List ℕ) (n : ℕ) (e : take n v ≡ take n w) where
  pub part_same : (a k : ℕ) → a + k ≤ n → take k (drop a v) ≡ take k (drop a w)
  part_same a k h =
      sym (drop-take a k v)
      ∙ ap (drop a) (sym (take-take (a + k) n v h) ∙ ap (take (a + k)) e ∙ take-take (a + k) n w h)
      ∙ drop-take a k w

  pub front_same : (m : ℕ) → m ≤ n → take m v ≡ take m w
  front_same m h = sym (take-take m n v h) ∙ ap (take m) e ∙ take-take m n w h

  pub place_same : (i : ℕ) → i < n → get_or v i 0 ≡ get_or w i 0
  place_same i h = sym (get_or-take n v i 0 h) ∙ ap (λ (l : List ℕ). get_or l i 0) e ∙ get_or-take n w i 0 h

-- A list xs stands in a list w at a place: what is read there is read in xs.
use mathlib.Core.Path.{◌≡◌, refl, sym, ◌∙◌}
use mathlib.Core.List.{List, [], ◌∷◌, ◌++◌}
use Prim.Native.Nat.{ℕ, zero, suc, ◌+◌, ◌*◌, ◌≤◌, ◌<◌}
use native.Mathlib.Nat.{add-zero, add_assoc, zero-add, suc-mul, zero-mul, not-suc-le-zero}
use native.Mathlib.Omega.{arith}
use lib.ListN.{length, get_or, take, drop, length-append, length-drop, get_or-append}
use lib.Seq.{get_or-append-add, get_or-take, get_or-drop, length-take-le, ext_get_or}
use Rattle.lists.specs.Gather.{flat}

pub record Stands (w : List ℕ) (at : ℕ) (xs : List ℕ) : Type 0 where
  pub inside : at + length xs ≤ length w
  pub each : (k : ℕ) → k < length xs → get_or w (at + k) 0 ≡ get_or xs k 0

pub stands_all : (w : List ℕ) → Stands w 0 w
stands_all w = record { inside = omega arith; each = λ k h. rw zero-add refl }

-- the same place by another name
pub stands_at : {w : List ℕ} {at to : ℕ} {xs : List ℕ} → at ≡ to → Stands w at xs → Stands w to xs
stands_at e s = rw e at s

pub stands_left : {w : List ℕ} {at : ℕ} (xs ys : List ℕ) → Stands w at (xs ++ ys) → Stands w at xs
stands_left xs ys s =
    let n = length-append xs ys in
    record {
      inside = omega (arith, s.inside, n);
      each = λ k h. s.each k (omega arith) ∙ get_or-append xs ys 0 k h;
    }

pub stands_right : {w : List ℕ} {at : ℕ} (xs ys : List ℕ) → Stands w at (xs ++ ys) → Stands w (at + length xs) ys
stands_right {w} {at} xs ys s =
    let n = length-append xs ys in
    record {
      inside = omega (arith, s.inside, n);
      each = λ k h. rw add_assoc (s.each (length xs + k) (omega arith) ∙ get_or-append-add xs ys k 0);
    }

-- at the start of what begins there
pub stands_drop : {w : List ℕ} {at : ℕ} {xs : List ℕ} → Stands w at xs → Stands (drop at w) 0 xs
stands_drop {w} {at} s =
    let n = length-drop at w in
    record {
      inside = omega (arith, s.inside);
      each = λ k h. rw zero-add (get_or-drop at w k 0 ∙ s.each k h);
    }

-- the bytes of that place
pub stands_take : {w : List ℕ} {at : ℕ} {xs : List ℕ} → Stands w at xs → take (length xs) (drop at w) ≡ xs
stands_take {w} {at} {xs} s =
    let n = length-drop at w in
    let l : length (take (length xs) (drop at w)) ≡ length xs = length-take-le (length xs) (drop at w) (omega (arith, s.inside)) in
    ext_get_or 0 (take (length xs) (drop at w)) xs l
    (λ i h. let g : i < length xs = omega arith in get_or-take (length xs) (drop at w) i 0 g ∙ (get_or-drop at w i 0 ∙ s.each i g))

-- Pieces of one length n.
pub length-flat : {A : Type 0} (f : A → List ℕ) (d : A) (xs : List A) (n : ℕ) → ((i : ℕ) → i < length xs → length (f (get_or xs i d)) ≡ n)
    → length (flat f xs) ≡ length xs * n
unfolding flat
length-flat f d [] n h = sym (zero-mul n)
length-flat f d (x ∷ xs) n h =
    let i = length-flat f d xs n (λ k l. h (suc k) (omega arith)) in
    let o = h 0 (omega arith) in
    rw (length-append, suc-mul) (omega arith)

pub stands_piece : {A : Type 0} {w : List ℕ} {at : ℕ} (f : A → List ℕ) (d : A) (xs : List A) (n k : ℕ)
    → ((i : ℕ) → i < length xs → length (f (get_or xs i d)) ≡ n) → Stands w at (flat f xs) → k < length xs → Stands w (at + k * n) (f (get_or xs k d))
unfolding flat
stands_piece f d [] n k h s l = absurd (not-suc-le-zero l)
stands_piece f d (x ∷ xs) n zero h s l = rw (zero-mul, add-zero) (stands_left (f x) (flat f xs) s)
stands_piece {at = at} f d (x ∷ xs) n (suc k) h s l =
    let o : length (f x) ≡ n = h 0 (omega arith) in
    let p : at + suc k * n ≡ at + length (f x) + k * n = rw suc-mul (omega arith) in
    rw p (stands_piece {at = at + length (f x)} f d xs n k (λ i m. h (suc i) (omega arith)) (stands_right (f x) (flat f xs) s) (omega arith))

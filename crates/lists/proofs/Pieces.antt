-- Laws of pieces laid one after the other: what a loop by index lays is what the list says.
use mathlib.Core.Path.{◌≡◌, refl, sym}
use mathlib.Core.List.{List, [], ◌∷◌, ◌++◌, append_assoc, append-nil}
use Prim.Native.Nat.{ℕ, zero, suc, ◌+◌, ◌*◌, ◌≤◌, ◌<◌}
use native.Mathlib.Nat.{not-suc-le-zero, eq-or-lt_of_le, le_of_suc-le-suc, zero-mul, suc-mul}
use native.Mathlib.Numerals.{add-one}
use native.Mathlib.Omega.{arith}
use mathlib.Core.Logic.{⊎_elim}
use lib.ListN.{length, get_or, take, length-append}
use lib.Seq.{take-suc}
use Rattle.lists.specs.Gather.{gather, flat, tab}

pub gather_none : (f : ℕ → List ℕ) → gather f 0 ≡ []
unfolding gather
gather_none f = refl

-- one more turn of a loop
pub gather_more : (f : ℕ → List ℕ) (n : ℕ) → gather f (n + 1) ≡ gather f n ++ f n
unfolding gather
gather_more f n = rw add-one

pub gather_length_more : (f : ℕ → List ℕ) (n : ℕ) → length (gather f (n + 1)) ≡ length (gather f n) + length (f n)
gather_length_more f n = simp (gather_more, length-append)

-- a turn's piece ends inside the whole
pub gather_inside : (f : ℕ → List ℕ) (k n : ℕ) → k < n → length (gather f k) + length (f k) ≤ length (gather f n)
unfolding gather
gather_inside f k zero h = absurd (not-suc-le-zero h)
gather_inside f k (suc n) h =
    rw length-append
    (⊎_elim (λ e. rw e (omega arith)) (λ l. let i = gather_inside f k n l in omega arith)
    (eq-or-lt_of_le (le_of_suc-le-suc h)))

-- pieces of one length
pub gather-length : (f : ℕ → List ℕ) (w : ℕ) → ((k : ℕ) → length (f k) ≡ w) → (n : ℕ) → length (gather f n) ≡ n * w
unfolding gather
gather-length f w h zero = sym (zero-mul w)
gather-length f w h (suc n) = simp (length-append, h, gather-length f w h n, suc-mul)

pub flat_append : {A : Type 0} (f : A → List ℕ) (xs ys : List A) → flat f (xs ++ ys) ≡ flat f xs ++ flat f ys
unfolding flat
flat_append f [] ys = refl
flat_append f (x ∷ xs) ys = rw (flat_append f xs ys) (sym (append_assoc (f x) (flat f xs) (flat f ys)))

-- what a loop by index has gathered is what the list says
pub gather-flat : (f : ℕ → List ℕ) (xs : List ℕ) (n : ℕ) → n ≤ length xs → gather (λ k. f (get_or xs k 0)) n ≡ flat f (take n xs)
unfolding gather flat
gather-flat f xs zero h = refl
gather-flat f xs (suc n) h =
    let l : n ≤ length xs = omega arith in
    simp (take-suc xs n 0 h, flat_append, gather-flat f xs n l, append-nil)

pub tab_more : {A : Type 0} (f : ℕ → A) (n : ℕ) → tab f (n + 1) ≡ tab f n ++ f n ∷ []
unfolding tab
tab_more f n = rw add-one

pub length-tab : {A : Type 0} (f : ℕ → A) (n : ℕ) → length (tab f n) ≡ n
unfolding tab
length-tab f zero = refl
length-tab f (suc n) = simp (length-append, length-tab f n) (omega arith)

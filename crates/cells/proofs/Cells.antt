-- Laws of big-endian cells and of writes, each once over the width.
use mathlib.Core.Path.{◌≡◌, refl, sym, ap, ap₂, ◌∙◌}
use mathlib.Core.List.{List, [], ◌∷◌, ◌++◌, append_assoc, append-nil}
use Prim.Native.Nat.{ℕ, zero, suc, ◌+◌, ◌-◌, ◌*◌, ◌/◌, ◌%◌, ◌^◌, ◌≤◌, ◌<◌}
use native.Mathlib.Nat.{add-zero, zero-add, add-suc, suc-add, add_assoc, add-mul, mul_assoc, zero-lt-suc}
use native.Mathlib.Nat.{pow-suc, pow-succ', one-le-pow, div-div-eq-div-mul, div-one, mod-eq_of_lt}
use native.Mathlib.Omega.{arith}
use lib.Arith.{digits_lt, digits_div, digits_mod, mod-mul}
use lib.Pow.{pow-add}
use lib.ListN.{length, get_or, set, take, drop, length-append, length-set, length-take, length-drop}
use lib.Seq.{sets, sets-eq, take-suc, get_or-append-add, get_or_at, get_or-set_same, get_or-set_other, get_or-take, get_or-drop}
use Rattle.cells.specs.Be.{be, be_bytes, Cell, Wrote}

-- ---- reading

pub cell_one : (s : List ℕ) (at : ℕ) → get_or s at 0 < 256 → Cell 1 s at (get_or s at 0)
unfolding be
cell_one s at h = record { is = rw add-zero (omega arith); small = h }

-- two cells side by side are one
pub be_cat : (a b : ℕ) (s : List ℕ) (at : ℕ) → be (a + b) s at ≡ be a s at * 256 ^ b + be b s (at + a)
unfolding be
be_cat a zero s at = rw add-zero (omega arith)
be_cat a (suc b) s at = rw (add-suc, be_cat a b s at, pow-suc, add-mul, mul_assoc, ← add_assoc at a b) (omega arith)

pub cell_cat : (a b : ℕ) {s : List ℕ} {at x y : ℕ} → Cell a s at x → Cell b s (at + a) y
    → Cell (a + b) s at (x * 256 ^ b + y)
cell_cat a b {s} {at} p q = record { is = rw (be_cat a b s at, p.is, q.is); small = rw pow-add (digits_lt p.small q.small) }

-- no bytes, and one more
pub cell_none : (s : List ℕ) (at : ℕ) → Cell 0 s at 0
unfolding be
cell_none s at = record { is = refl; small = omega arith }

pub cell_more : {w : ℕ} {s : List ℕ} {at n : ℕ} → Cell w s at n → (b : ℕ) → b ≡ get_or s (at + w) 0 → b < 256 → Cell (w + 1) s at (n * 256 + b)
cell_more {w} {s} {at} p b e h = cell_cat w 1 p (rw e (cell_one s (at + w) (rw e at h)))

-- a number of fewer than 4 bytes has room for one more
pub cell_room : (w : ℕ) {s : List ℕ} {at n : ℕ} → Cell w s at n → w < 4 → n < 256 * (256 * 256)
cell_room zero p h = omega (arith, p.small)
cell_room (suc zero) p h = omega (arith, p.small)
cell_room (suc (suc zero)) p h = omega (arith, p.small)
cell_room (suc (suc (suc zero))) p h = omega (arith, p.small)
cell_room (suc (suc (suc (suc w)))) p h = absurd (omega arith)

-- the part that a number is read from
pub length-part : (s : List ℕ) (at n : ℕ) → at + n ≤ length s → length (take (at + n - at) (drop at s)) ≡ n
length-part s at n h = simp (length-take, length-drop) (omega arith)

pub part_byte : (s : List ℕ) (at n k : ℕ) → k < n → get_or (take (at + n - at) (drop at s)) k 0 ≡ get_or s (at + k) 0
part_byte s at n k h = get_or-take (at + n - at) (drop at s) k 0 (omega arith) ∙ get_or-drop at s k 0

-- the same cell, its width by another name
pub cell_of : (w : ℕ) {v : ℕ} {s : List ℕ} {at r : ℕ} → Cell w s at r → v ≡ w → Cell v s at r
cell_of w p e = rw e p

-- a cell of bytes is small
pub be_lt : (w : ℕ) (s : List ℕ) (at : ℕ) → ((i : ℕ) → get_or s i 0 < 256) → be w s at < 256 ^ w
unfolding be
be_lt zero s at h = omega arith
be_lt (suc w) s at h = rw pow-suc (digits_lt (be_lt w s at h) (h (at + w)))

-- a cell is its bytes' alone
pub be_ext : (w : ℕ) (s t : List ℕ) (i j : ℕ) → ((k : ℕ) → k < w → get_or s (i + k) 0 ≡ get_or t (j + k) 0) → be w s i ≡ be w t j
unfolding be
be_ext zero s t i j h = refl
be_ext (suc w) s t i j h = ap₂ (λ (x y : ℕ). x * 256 + y) (be_ext w s t i j (λ k l. h k (omega arith))) (h w (omega arith))

-- ---- a cell of a part of a list

pub be-drop : (w n : ℕ) (s : List ℕ) (i : ℕ) → be w (drop n s) i ≡ be w s (n + i)
be-drop w n s i = be_ext w (drop n s) s i (n + i) (λ k lt. rw (add_assoc n i k) (get_or-drop n s (i + k) 0))

pub be-take : (w n : ℕ) (s : List ℕ) (i : ℕ) → i + w ≤ n → be w (take n s) i ≡ be w s i
be-take w n s i h = be_ext w (take n s) s i i (λ k lt. get_or-take n s (i + k) 0 (omega arith))

-- ---- writing

pub length-be_bytes : (w v : ℕ) → length (be_bytes w v) ≡ w
unfolding be_bytes
length-be_bytes zero v = refl
length-be_bytes (suc w) v = rw (length-append, length-be_bytes w (v / 256)) (omega arith)

pub be_bytes_cat : (a b v : ℕ) → be_bytes (a + b) v ≡ be_bytes a (v / 256 ^ b) ++ be_bytes b v
unfolding be_bytes
be_bytes_cat a zero v = simp (add-zero, div-one, append-nil)
be_bytes_cat a (suc b) v = rw (add-suc, be_bytes_cat a b (v / 256), div-div-eq-div-mul, pow-succ', append_assoc)

pub sets_cat : (l : List ℕ) (i : ℕ) (xs ys : List ℕ) → sets (sets l i xs) (i + length xs) ys ≡ sets l i (xs ++ ys)
sets_cat l i [] ys = rw add-zero
sets_cat l i (x ∷ xs) ys = rw (add-suc, ← suc-add) (sets_cat (set l i x) (suc i) xs ys)

-- writes to different places change places
set_swap : (l : List ℕ) (i j x y : ℕ) → (i ≡ j → ⊥) → set (set l i x) j y ≡ set (set l j y) i x
set_swap [] i j x y h = refl
set_swap (a ∷ l) zero zero x y h = absurd (h refl)
set_swap (a ∷ l) zero (suc j) x y h = refl
set_swap (a ∷ l) (suc i) zero x y h = refl
set_swap (a ∷ l) (suc i) (suc j) x y h = ap (λ m. a ∷ m) (set_swap l i j x y (λ e. h (ap suc e)))

sets_late : (l : List ℕ) (at j x : ℕ) (xs : List ℕ) → at + length xs ≤ j → sets (set l j x) at xs ≡ set (sets l at xs) j x
sets_late l at j x [] h = refl
sets_late l at j x (y ∷ ys) h = rw (set_swap l j at x y (λ e. omega arith)) (sets_late (set l at y) (suc at) j x ys (omega arith))

-- the last byte first
pub put_last : (l : List ℕ) (at w i v : ℕ) → i ≡ w + 1 → sets (set l (at + w) (v % 256)) at (be_bytes w (v / 256)) ≡ sets l at (be_bytes i v)
unfolding be_bytes
put_last l at w zero v e = absurd (omega arith)
put_last l at w (suc i) v e =
    let q : i ≡ w = omega arith in
    let n = length-be_bytes w (v / 256) in
    rw q (sets_late l at (at + w) (v % 256) (be_bytes w (v / 256)) (rw n (omega arith))
    ∙ ap (λ k. set (sets l at (be_bytes w (v / 256))) (at + k) (v % 256)) (sym n)
    ∙ sets_cat l at (be_bytes w (v / 256)) (v % 256 ∷ []))

-- two writes side by side are one
pub wrote_cat : {l m n xs ys : List ℕ} {i k : ℕ} → Wrote l i xs m → Wrote m k ys n → k ≡ i + length xs
    → Wrote l i (xs ++ ys) n
wrote_cat {l} {xs = xs} {ys} {i} p q e = record { is = rw (q.is, p.is, e) (sets_cat l i xs ys) }

pub put_cat : (a b v : ℕ) {l m n : List ℕ} {at : ℕ} → Wrote l at (be_bytes a (v / 256 ^ b)) m
    → Wrote m (at + a) (be_bytes b v) n → Wrote l at (be_bytes (a + b) v) n
put_cat a b v p q = rw (be_bytes_cat a b v) (wrote_cat p q (rw length-be_bytes))

pub put_of : (w v : ℕ) {u : ℕ} {l n : List ℕ} {at : ℕ} → Wrote l at (be_bytes w v) n → u ≡ w → Wrote l at (be_bytes u v) n
put_of w v p e = rw e p

-- ---- reading back

sets_before : (l : List ℕ) (i : ℕ) (xs : List ℕ) (j : ℕ) → j < i → get_or (sets l i xs) j 0 ≡ get_or l j 0
sets_before l i [] j h = refl
sets_before l i (x ∷ xs) j h = sets_before (set l i x) (suc i) xs j (omega arith) ∙ get_or-set_other l i j x 0 (omega arith)

sets_after : (l : List ℕ) (i : ℕ) (xs : List ℕ) (j : ℕ) → i + length xs ≤ j → get_or (sets l i xs) j 0 ≡ get_or l j 0
sets_after l i [] j h = refl
sets_after l i (x ∷ xs) j h = sets_after (set l i x) (suc i) xs j (omega arith) ∙ get_or-set_other l i j x 0 (omega arith)

sets_in : (l : List ℕ) (i : ℕ) (xs : List ℕ) (k : ℕ) → i + length xs ≤ length l → k < length xs
    → get_or (sets l i xs) (i + k) 0 ≡ get_or xs k 0
sets_in l i [] k h lt = omega arith
sets_in l i (x ∷ xs) zero h lt = rw add-zero (sets_before (set l i x) (suc i) xs i (omega arith) ∙ get_or-set_same l i x 0 (omega arith))
sets_in l i (x ∷ xs) (suc k) h lt = rw (add-suc, ← suc-add) (sets_in (set l i x) (suc i) xs k (simp length-set (omega arith)) (omega arith))

-- a cell beside what was written is as it was
pub read_before : {l n xs : List ℕ} {i : ℕ} (w at : ℕ) → Wrote l i xs n → at + w ≤ i → be w n at ≡ be w l at
read_before {l} {n} {xs} {i} w at p h = rw p.is (be_ext w (sets l i xs) l at at (λ k lt. sets_before l i xs (at + k) (omega arith)))

pub read_after : {l n xs : List ℕ} {i : ℕ} (w at : ℕ) → Wrote l i xs n → i + length xs ≤ at → be w n at ≡ be w l at
read_after {l} {n} {xs} {i} w at p h = rw p.is (be_ext w (sets l i xs) l at at (λ k lt. sets_after l i xs (at + k) (omega arith)))

-- a cell within what was written is what was written
pub read_in : {l n xs : List ℕ} {i : ℕ} (w k : ℕ) → Wrote l i xs n → i + length xs ≤ length l → k + w ≤ length xs
    → be w n (i + k) ≡ be w xs k
read_in {l} {n} {xs} {i} w k p h f =
    rw p.is (be_ext w (sets l i xs) xs (i + k) k (λ j lt. rw (add_assoc i k j) (sets_in l i xs (k + j) h (omega arith))))

-- the whole of what was written
pub wrote_all : {l n xs : List ℕ} → Wrote l 0 xs n → length xs ≤ length l → n ≡ xs ++ drop (length xs) l
wrote_all {l} {xs = xs} p h = p.is ∙ sets-eq xs l 0 (omega arith) ∙ simp zero-add

pub be-be_bytes : (w v : ℕ) (p t : List ℕ) → be w (p ++ (be_bytes w v ++ t)) (length p) ≡ v % 256 ^ w
unfolding be be_bytes
be-be_bytes zero v p t = omega arith
be-be_bytes (suc w) v p t =
    rw (
      append_assoc (be_bytes w (v / 256)),
      be-be_bytes w (v / 256) p (v % 256 ∷ t),
      get_or-append-add,
      get_or_at (be_bytes w (v / 256)) (v % 256) t 0 w (length-be_bytes w (v / 256)),
      pow-suc,
    )
    (sym (mod-mul v (one-le-pow w 256 (zero-lt-suc 255)) (zero-lt-suc 255)))

pub be_at : (w v k : ℕ) (p t : List ℕ) → length p ≡ k → be w (p ++ (be_bytes w v ++ t)) k ≡ v % 256 ^ w
be_at w v k p t e = rw (← e) (be-be_bytes w v p t)

pub read_back : {l n : List ℕ} {i : ℕ} (w v : ℕ) → Wrote l i (be_bytes w v) n → i + w ≤ length l → be w n i ≡ v % 256 ^ w
read_back {l} {n} {i} w v p h =
    ap (be w n) (sym (add-zero i))
    ∙ read_in w 0 p (rw length-be_bytes h) (rw length-be_bytes (omega arith))
    ∙ ap (λ (xs : List ℕ). be w xs 0) (sym (append-nil (be_bytes w v)))
    ∙ be-be_bytes w v [] []

-- what fits comes back whole
pub read_back_fit : {l n : List ℕ} {i : ℕ} (w v : ℕ) → Wrote l i (be_bytes w v) n → i + w ≤ length l → v < 256 ^ w
    → be w n i ≡ v
read_back_fit w v p h f = read_back w v p h ∙ mod-eq_of_lt f

-- a number read from its bytes is written as these
pub read_written : (w : ℕ) (s : List ℕ) (at : ℕ) → ((i : ℕ) → get_or s i 0 < 256) → at + w ≤ length s → be_bytes w (be w s at) ≡ take w (drop at s)
unfolding be be_bytes
read_written zero s at small h = refl
read_written (suc w) s at small h =
    let l : w < length (drop at s) = rw length-drop (omega arith) in
    rw (digits_div (be w s at) (small (at + w)), digits_mod (be w s at) (small (at + w)), read_written w s at small (omega arith), take-suc (drop at s) w 0 l, get_or-drop)

-- Laws of lists that are told by an index: the values may be told otherwise, the range be cut in two; and one more turn of a loop.
use Prim.Native.Nat.{ℕ, zero, suc, ◌+◌, ◌≤◌, ◌<◌}
use mathlib.Core.Path.{◌≡◌, refl, sym, ◌∙◌}
use mathlib.Core.Bool.{Bool, true, false}
use mathlib.Core.List.{List, [], ◌∷◌, ◌++◌, map, map-append, append_assoc, append-nil}
use native.Mathlib.Nat.{add-zero, add-suc, not-suc-le-zero}
use native.Mathlib.Numerals.{add-one}
use native.Mathlib.Omega.{arith}
use native.Mathlib.Decide.{dec_lt}
use lib.ListN.{length, get_or, take, drop, length-drop, get_or-append}
use lib.Seq.{get_or_at, get_or-drop, take-suc}
use Rattle.lists.specs.Pick.{pick}
use Rattle.lists.specs.Gather.{gather, tab, flat, select}
use Rattle.lists.specs.Search.{some, any}
use Rattle.lists.proofs.Pieces.{length-tab, flat_append}

-- values that agree below n
pub tab_ext : {A : Type 0} (f g : ℕ → A) (n : ℕ) → ((i : ℕ) → i < n → f i ≡ g i) → tab f n ≡ tab g n
unfolding tab
tab_ext f g zero h = refl
tab_ext f g (suc n) h = rw (tab_ext f g n (λ i l. h i (omega arith)), h n (omega arith))

pub tab_add : {A : Type 0} (f : ℕ → A) (m n : ℕ) → tab f (m + n) ≡ tab f m ++ tab (λ i. f (m + i)) n
unfolding tab
tab_add f m zero = rw add-zero (sym (append-nil (tab f m)))
tab_add f m (suc n) = rw (add-suc, tab_add f m n, append_assoc)

pub get_d_tab : {A : Type 0} (f : ℕ → A) (d : A) (n i : ℕ) → i < n → get_or (tab f n) i d ≡ f i
unfolding tab
get_d_tab f d zero i h = absurd (not-suc-le-zero h)
get_d_tab f d (suc n) i h = elim (dec_lt i n) [
  | yes l ↦ get_or-append (tab f n) _ d i (rw (length-tab f n) l) ∙ get_d_tab f d n i l
  | no l ↦ (let e : i ≡ n = omega arith in rw e (get_or_at (tab f n) (f n) [] d n (length-tab f n)))
]

pub map-tab : {A B : Type 0} (g : A → B) (f : ℕ → A) (n : ℕ) → map g (tab f n) ≡ tab (λ i. g (f i)) n
unfolding tab
map-tab g f zero = refl
map-tab g f (suc n) = rw (map-append, map-tab g f n)

-- a part of a list, by index
pub tab-part : (w : List ℕ) (a n : ℕ) → a + n ≤ length w → tab (λ i. get_or w (a + i) 0) n ≡ take n (drop a w)
unfolding tab
tab-part w a zero h = refl
tab-part w a (suc n) h =
    let l : n < length (drop a w) = rw length-drop (omega arith) in
    rw (take-suc (drop a w) n 0 l, get_or-drop, tab-part w a n (omega arith))

-- the pieces of a list's elements, laid by index
pub gather-tab : {A : Type 0} (f : A → List ℕ) (g : ℕ → A) (n : ℕ) → gather (λ i. f (g i)) n ≡ flat f (tab g n)
unfolding gather tab flat
gather-tab f g zero = refl
gather-tab f g (suc n) = simp (flat_append, gather-tab f g n, append-nil)

-- one more turn
pub select_more : (f : ℕ → Bool) (n : ℕ) {b : Bool} → f n ≡ b → select f (n + 1) ≡ select f n ++ pick b (n ∷ []) []
unfolding select
select_more f n e = rw (add-one, e)

pub some_turn : (f : ℕ → Bool) (n : ℕ) {b : Bool} → f n ≡ b → some f (n + 1) ≡ pick b true (some f n)
unfolding some
some_turn f n e = rw (add-one, e)

pub any_last : {A : Type 0} (f : A → Bool) (xs : List A) (x : A) → any f (xs ++ x ∷ []) ≡ pick (f x) true (any f xs)
unfolding any
any_last f [] x = refl
any_last f (y ∷ xs) x = rw (any_last f xs x) (swap (f y) (f x) (any f xs))
  where
    swap : (a b c : Bool) → pick a true (pick b true c) ≡ pick b true (pick a true c)
    swap true true c = refl
    swap true false c = refl
    swap false b c = refl

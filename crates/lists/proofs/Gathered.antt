-- Where the pieces of a gathered list stand, and how long tabulated ones are.
use mathlib.Core.Path.{◌≡◌, ap}
use mathlib.Core.List.{List, [], ◌∷◌}
use mathlib.Core.Logic.{⊎_elim}
use Prim.Native.Nat.{ℕ, zero, suc, ◌+◌, ◌*◌, ◌<◌, ◌≤◌}
use native.Mathlib.Nat.{not-suc-le-zero, eq-or-lt_of_le, le_of_suc-le-suc, suc-mul}
use native.Mathlib.Omega.{arith}
use lib.ListN.{length, length-append}
use Rattle.lists.specs.Gather.{gather, flat, tab}
use Rattle.lists.proofs.Pieces.{gather-length, flat_append}
use Rattle.lists.proofs.Stands.{Stands, stands_at, stands_left, stands_right}

-- pieces of one length
pub stands_gather : {w : List ℕ} {at : ℕ} (f : ℕ → List ℕ) (size : ℕ) → ((k : ℕ) → length (f k) ≡ size) → (k n : ℕ) → k < n
    → Stands w at (gather f n) → Stands w (at + k * size) (f k)
unfolding gather
stands_gather f size h k zero l s = absurd (not-suc-le-zero l)
stands_gather {at = at} f size h k (suc n) l s =
    ⊎_elim (λ e. rw e (stands_at (ap (λ (x : ℕ). at + x) (gather-length f size h n)) (stands_right (gather f n) (f n) s)))
    (λ g. stands_gather f size h k n g (stands_left (gather f n) (f n) s))
    (eq-or-lt_of_le (le_of_suc-le-suc l))

-- tabulated pieces of at most so many elements
pub flat_tab_short : (f : ℕ → List ℕ) (most n : ℕ) → ((k : ℕ) → k < n → length (f k) ≤ most) → length (flat (λ part. part) (tab f n)) ≤ n * most
unfolding tab flat
flat_tab_short f most zero h = omega arith
flat_tab_short f most (suc n) h =
    let i = flat_tab_short f most n (λ k l. h k (omega arith)) in
    let o = h n (omega arith) in
    rw (flat_append (λ part. part) (tab f n) (f n ∷ []), length-append, length-append, suc-mul) (omega arith)

-- A loop that lays f 0, f 1, .. one after the other: the invariant, and its steps.
use mathlib.Core.Path.{◌≡◌, refl, sym, ◌∙◌}
use mathlib.Core.List.{List, ◌++◌}
use Prim.Native.Nat.{ℕ, ◌+◌, ◌-◌, ◌≤◌, ◌<◌}
use native.Mathlib.Omega.{arith}
use lib.ListN.{length, drop}
use borrow.Rule.Slice.PartMut.{mid_of, put_mid, mid_len, same_len_mid}
use Rattle.lists.specs.Gather.{gather}
use Rattle.lists.proofs.Pieces.{gather_none, gather_more, gather_length_more, gather_inside}
use Rattle.lists.proofs.Parts.{put_next, all_laid}

-- out is old with the first k pieces laid over its first `at` elements
pub record Laid (f : ℕ → List ℕ) (old : List ℕ) (k at : ℕ) (out : List ℕ) : Type 0 where
  pub up_to : at ≡ length (gather f k)
  pub same : length out ≡ length old
  pub is : out ≡ gather f k ++ drop at old

pub laid_none : (f : ℕ → List ℕ) (old : List ℕ) → Laid f old 0 0 old
laid_none f old = record { up_to = rw gather_none; same = refl; is = rw gather_none }

-- the next piece ends inside, where all n do
pub laid_inside : {f : ℕ → List ℕ} {old : List ℕ} {k at : ℕ} {out : List ℕ} (n : ℕ) → Laid f old k at out → k < n → length (gather f n) ≤ length old → at + length (f k) ≤ length old
laid_inside {f} {old} {k} n l h g = omega (arith, gather_inside f k n h)

pub laid_more : {f : ℕ → List ℕ} {old : List ℕ} {k at : ℕ} {out w : List ℕ} {e : ℕ} → Laid f old k at out → e ≡ at + length (f k) → e ≤ length old → w ≡ f k → Laid f old (k + 1) e (put_mid at (e - at) out w)
laid_more {f} {old} {k} {at} {out} {w} {e} l p h q =
    let n : length w ≡ length (mid_of at (e - at) out) = rw (q, mid_len at e out (omega arith)) (omega arith) in
    record {
      up_to = rw gather_length_more (omega arith);
      same = same_len_mid at (e - at) out w n ∙ l.same;
      is = put_next old (gather f k) (gather f (k + 1)) at e l.is (sym l.up_to) (omega arith) q (sym (gather_more f k));
    }

-- after the last turn
pub laid_end : {f : ℕ → List ℕ} {old : List ℕ} {k at : ℕ} {out : List ℕ} (n : ℕ) → Laid f old k at out → k ≡ n → (at ≡ length (gather f n)) × (out ≡ gather f n ++ drop at old)
laid_end n l e = rw (← e) (l.up_to, l.is)

-- the same, where the pieces are the whole
pub laid_all : {f : ℕ → List ℕ} {old : List ℕ} {k at : ℕ} {out : List ℕ} (n : ℕ) → Laid f old k at out → k ≡ n → length old ≡ length (gather f n) → out ≡ gather f n
laid_all {old = old} {at = at} n l e h =
    let p = laid_end n l e in
    let g : length old ≤ at = omega arith in
    p.1 ∙ all_laid _ _ _ g

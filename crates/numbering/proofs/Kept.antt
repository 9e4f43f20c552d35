-- What is numbered stays so while the first 8,704 numbers of the work area are kept: the pairs, and the starts and numbers of their runs.
use Prim.Native.Nat.{ℕ, ◌+◌, ◌<◌}
use mathlib.Core.Path.{◌≡◌, sym, ap, ◌∙◌}
use mathlib.Core.List.{List}
use native.Mathlib.Omega.{arith}
use lib.ListN.{length, get_or, take}
use lib.Seq.{get_or-take, take-take}
use Rattle.lists.proofs.Cuts.{front_same}
use Rattle.numbering.specs.Numbered.{Numbered}

module _ {w : List ℕ} {n : ℕ} (d : Numbered w n) (v : List ℕ) (same : take 8704 v ≡ take 8704 w) where
  pub pairs_kept : take n v ≡ take n w
  pairs_kept = sym (take-take n 8704 v (omega (arith, d.few))) ∙ (ap (λ (xs : List ℕ). take n xs) same ∙ take-take n 8704 w (omega (arith, d.few)))

  at : (i : ℕ) → i < 8704 → get_or v i 0 ≡ get_or w i 0
  at i h = sym (get_or-take 8704 v i 0 h) ∙ (ap (λ (xs : List ℕ). get_or xs i 0) same ∙ get_or-take 8704 w i 0 h)

  pub numbered_kept : length v ≡ length w → Numbered v n
  numbered_kept l = record {
    long = l ∙ d.long;
    few = d.few;
    climbs = rw pairs_kept d.climbs;
    once = rw pairs_kept d.once;
    low = rw pairs_kept d.low;
    starts = rw pairs_kept (λ o u. at (8192 + o) (omega (arith, d.low o u)) ∙ d.starts o u);
    numbers = rw pairs_kept (λ o u. at (8448 + o) (omega (arith, d.low o u)) ∙ d.numbers o u);
  }

-- so it does while the index is made
pub indexed_kept : {w v : List ℕ} {n : ℕ} → Numbered w n → take 9088 v ≡ take 9088 w → length v ≡ length w → Numbered v n
indexed_kept {w} {v} d e l = numbered_kept d v (front_same v w 9088 e 8704 (omega arith)) l

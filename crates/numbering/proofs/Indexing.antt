-- The index of the kept pairs stands behind the first 9,088 numbers of the work area, which are kept.
use Prim.Native.Nat.{ℕ, ◌+◌, ◌<◌}
use mathlib.Core.Path.{◌≡◌}
use mathlib.Core.List.{List}
use native.Mathlib.Omega.{arith}
use lib.ListN.{length, get_or, take, set}
use lib.Seq.{take-set-le, get_or-take, length-take-le}
use Rattle.lists.proofs.Cuts.{place_same}
use Rattle.rules.specs.Lists.{outer}
use Rattle.numbering.specs.Numbered.{Numbered}
use Rattle.lists.proofs.Members.{member_at}
use Rattle.numbering.proofs.Starts.{used-member}

-- the start of a segment is noted, the shift, the place of a slot's first pair
pub start_noted : (w : List ℕ) (i v : ℕ) → take 9088 (set w (9088 + i) v) ≡ take 9088 w
start_noted w i v = take-set-le 9088 w (9088 + i) v (omega arith)

pub shift_noted : (w : List ℕ) (v : ℕ) → take 9088 (set w 9345 v) ≡ take 9088 w
shift_noted w v = take-set-le 9088 w 9345 v (omega arith)

pub place_noted : (w : List ℕ) (i v : ℕ) → take 9088 (set w (12288 + i) v) ≡ take 9088 w
place_noted w i v = take-set-le 9088 w (12288 + i) v (omega arith)

-- a pair of the list, as it stands while the index is made
pub outer_at_lem : {w : List ℕ} {n : ℕ} (k : ℕ) (v : List ℕ) → Numbered w n → take 9088 v ≡ take 9088 w → k < n → outer (get_or v k 0) < 256
outer_at_lem {w} {n} k v d e h =
    let size : length (take n w) ≡ n = length-take-le n w (omega (arith, d.long, d.few)) in
    let low = d.low (outer (get_or (take n w) k 0)) (used-member (get_or (take n w) k 0) (take n w) (member_at (take n w) k (omega arith))) in
    rw (place_same v w 9088 e k (omega (arith, d.few)), ← get_or-take n w k 0 h) low

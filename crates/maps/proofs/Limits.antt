-- The largest place of a pair in its run, by the runs' starts, and that no new inner is above it.
use Prim.Native.Nat.{ℕ, zero, suc, ◌+◌, ◌-◌, ◌≤◌, ◌<◌, max}
use mathlib.Core.Path.{◌≡◌, ap, ◌∙◌}
use mathlib.Core.Bool.{true}
use mathlib.Core.List.{List, [], ◌∷◌}
use native.Mathlib.Omega.{arith}
use native.Mathlib.Nat.{not-suc-le-zero, le_refl}
use native.Mathlib.Decide.{dec_lt}
use lib.ListN.{length, get_or, take, drop, length-drop}
use lib.Seq.{length-take-le, get_or-take, get_or-drop}
use borrow.Author.Tests.{lt-ltb}
use Rattle.lists.specs.Gather.{keep}
use Rattle.lists.specs.Search.{place}
use Rattle.lists.proofs.Members.{member_at}
use Rattle.lists.proofs.Places.{at_place, place_least}
use Rattle.rules.specs.Lists.{outer, runs}
use Rattle.rules.specs.Numbering.{new_inner}
use Rattle.laws.specs.Outers.{Climbs, climbs_not_fall}
use Rattle.laws.specs.Pairs.{outers_climb}
use Rattle.numbering.specs.Numbered.{start_of, used, Numbered}
use Rattle.numbering.proofs.Starts.{start_nothing, start_none, inner-place, used-member}
use Rattle.maps.specs.Plans.{Bounds}

-- ---- the pairs before a start and behind it

start_next : (q : ℕ) (qs : List ℕ) (o : ℕ) → outer q < o → start_of (q ∷ qs) o ≡ suc (start_of qs o)
unfolding start_of keep
start_next q qs o h = rw (lt-ltb (outer q) o h)

below_start : (b o : ℕ) (ps : List ℕ) (k : ℕ) → Climbs b ps → k < start_of ps o → outer (get_or ps k 0) < o
below_start b o [] k c h = absurd (omega (arith, start_nothing o))
below_start b o (q ∷ qs) zero c h =
    elim (dec_lt (outer q) o) [
      | yes l ↦ l
      | no g ↦ absurd (omega (arith, start_none (outer q) o (q ∷ qs) (le_refl (outer q), c.1) (omega arith)))
    ]
below_start b o (q ∷ qs) (suc k) c h =
    elim (dec_lt (outer q) o) [
      | yes l ↦ below_start (outer q) o qs k c.1 (omega (arith, start_next q qs o l))
      | no g ↦ absurd (omega (arith, start_none (outer q) o (q ∷ qs) (le_refl (outer q), c.1) (omega arith)))
    ]

from_start : (b o : ℕ) (ps : List ℕ) (k : ℕ) → Climbs b ps → start_of ps o ≤ k → k < length ps → o ≤ outer (get_or ps k 0)
from_start b o [] k c h i = absurd (not-suc-le-zero i)
from_start b o (q ∷ qs) zero c h i =
    elim (dec_lt (outer q) o) [
      | yes l ↦ absurd (omega (arith, start_next q qs o l))
      | no g ↦ omega arith
    ]
from_start b o (q ∷ qs) (suc k) c h i =
    elim (dec_lt (outer q) o) [
      | yes l ↦ from_start (outer q) o qs k c.1 (omega (arith, start_next q qs o l)) (omega arith)
      | no g ↦ omega (arith, outers_climb (q ∷ qs) (climbs_not_fall b (q ∷ qs) c) 0 (suc k) (omega arith) i)
    ]

-- ---- one pair

module _ (ps : List ℕ) (c : Climbs 0 ps) (k : ℕ) (h : k < length ps) where
  abbrev mine : ℕ
  mine = start_of ps (outer (get_or ps k 0))

  start_before : mine ≤ k
  start_before =
      elim (dec_lt k mine) [
        | yes l ↦ absurd (omega (arith, below_start 0 (outer (get_or ps k 0)) ps k c l))
        | no g ↦ omega arith
      ]

  inner_before : new_inner (runs ps) (get_or ps k 0) ≤ k - mine
  inner_before =
      let e : mine + (k - mine) ≡ k = omega (arith, start_before) in
      rw (inner-place (get_or ps k 0) ps c (member_at ps k h))
      (place_least (get_or ps k 0) (drop mine ps) (k - mine) (omega (arith, length-drop mine ps, start_before)) (get_or-drop mine ps (k - mine) 0 ∙ ap (λ (i : ℕ). get_or ps i 0) e))

-- ---- run after run, from the last

-- no new inner of the pairs from a place on is above the limit
pub record Limited (ps : List ℕ) (end limit : ℕ) : Type 0 where
  pub inside : end ≤ length ps
  pub each : (k : ℕ) → end ≤ k → k < length ps → new_inner (runs ps) (get_or ps k 0) ≤ limit

module _ {w : List ℕ} {n : ℕ} (d : Numbered w n) where
  size : length (take n w) ≡ n
  size = length-take-le n w (omega (arith, d.long, d.few))

  -- the pair at a place: its outer, and the start of its run
  at : (k : ℕ) → k < n → get_or (take n w) k 0 ≡ get_or w k 0
  at k h = get_or-take n w k 0 h

  its_used : (k : ℕ) → k < n → used (take n w) (outer (get_or w k 0)) ≡ true
  its_used k h = rw (← at k h) (used-member (get_or (take n w) k 0) (take n w) (member_at (take n w) k (omega (arith, size))))

  pub outer_low : (k : ℕ) → k < n → outer (get_or w k 0) < 256
  outer_low k h = d.low (outer (get_or w k 0)) (its_used k h)

  its_start : (k : ℕ) → k < n → get_or w (8192 + outer (get_or w k 0)) 0 ≡ start_of (take n w) (outer (get_or w k 0))
  its_start k h = d.starts (outer (get_or w k 0)) (its_used k h)

  pub start_low : (k : ℕ) → k < n → get_or w (8192 + outer (get_or w k 0)) 0 ≤ k
  start_low k h = rw (its_start k h, ← at k h) (start_before (take n w) d.climbs k (omega (arith, size)))

  -- the last pair of a run has the run's largest place
  pub limited_more : {end limit start next : ℕ} → Limited (take n w) end limit → 0 < end → start ≡ get_or w (8192 + outer (get_or w (end - 1) 0)) 0 → start ≤ end - 1
      → next ≡ max limit (end - 1 - start) → Limited (take n w) start next
  limited_more {end} {limit} {start} {next} l p s g e =
      let ps = take n w in
      let k = end - 1 in
      let i : k < n = omega (arith, l.inside, size) in
      record {
        inside = omega (arith, size);
        each = λ j a b. elim (dec_lt j end) [
          | yes h ↦ (let low = from_start 0 (outer (get_or w k 0)) ps j d.climbs (omega (arith, its_start k i)) b in
              let high = rw (at k i) at (outers_climb ps (climbs_not_fall 0 ps d.climbs) j k (omega arith) (omega (arith, size))) in
              let same : outer (get_or ps j 0) ≡ outer (get_or w k 0) = omega arith in
              omega (arith, rw same at (inner_before ps d.climbs j b), its_start k i))
          | no h ↦ omega (arith, l.each j (omega arith) b)
        ];
      }

  pub limited_end : {end limit : ℕ} → Limited (take n w) end limit → end ≡ 0 → Bounds n w limit
  limited_end {end} {limit} l e = record {
    each = λ pair h. let p = at_place pair 0 (take n w) h in rw p.1 at (l.each (place pair (take n w)) (omega arith) p.0);
  }

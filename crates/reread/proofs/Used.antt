-- The used regions: each is there in the source, and each column that is kept names one of them.
use Prim.Native.Nat.{ℕ, ◌+◌, ◌*◌, ◌<◌, ◌≤◌}
use mathlib.Core.Path.{◌≡◌, refl}
use mathlib.Core.Bool.{Bool, true, false}
use mathlib.Core.List.{List}
use lib.ListN.{length, get_or}
use lib.Dec.{leb, eqb}
use borrow.Author.Tests.{leb-false, eq-eqb}
use Rattle.lists.specs.Pick.{both}
use Rattle.lists.proofs.Tests.{some_at}
use Rattle.lists.proofs.Each.{any_at}
use Rattle.lists.proofs.Places.{at_place, is_selected}
use Rattle.lists.proofs.Selected.{select_sound, select_few}
use Rattle.opentype.specs.Store.{regions_at, subtable_at, region_count, record_length, region_record}
use Rattle.opentype.specs.Subtable.{column_count, region_index}
use Rattle.rules.specs.Lists.{Run}
use Rattle.rules.specs.Columns.{live, plan_of, order}
use Rattle.rules.specs.Regions.{uses_region, is_used, used_regions, new_region}
use Rattle.rules.specs.StoreCut.{bad_region_index}
use Rattle.laws.specs.Runs.{run_at}
use Rattle.reread.proofs.Open.{no_column}
use Rattle.reread.proofs.Columns.{order_inside, order-live}
use Rattle.laid.proofs.Regions.{length_record}

pub few_used : (s : List ℕ) (rs : List Run) → length (used_regions s rs) ≤ region_count s
unfolding used_regions
few_used s rs = select_few (λ r. is_used s rs r) (region_count s)

pub used_record : (s : List ℕ) (rs : List Run) → regions_at s + 4 + region_count s * record_length s ≤ length s
    → (n : ℕ) → n < length (used_regions s rs) → length (region_record s (get_or (used_regions s rs) n 0)) ≡ record_length s
unfolding used_regions
used_record s rs h n l = length_record s _ h (select_sound (λ r. is_used s rs r) (region_count s) n l).0

-- column b of a used subtable names region r
live-used : (s : List ℕ) (rs : List Run) (k b : ℕ) → bad_region_index s rs ≡ false → k < length rs → b < column_count s (subtable_at s (run_at rs k).outer)
    → live s (subtable_at s (run_at rs k).outer) (run_at rs k).inners b ≡ true
    → let r = region_index s (subtable_at s (run_at rs k).outer) b in (r < region_count s) × (is_used s rs r ≡ true)
unfolding bad_region_index is_used uses_region
live-used s rs k b e h l v =
    let at = subtable_at s (run_at rs k).outer in
    let r = region_index s at b in
    let n : both (leb (region_count s) r) true ≡ false = rw v at (no_column s rs _ k b e h l) in (
      leb-false (region_count s) r (alone (leb (region_count s) r) n),
      any_at _ _ rs k h (some_at (λ c. both (eqb (region_index s at c) r) (live s at (run_at rs k).inners c)) b (column_count s at) l (rw (eq-eqb r r refl) v)),
    )
  where
    alone : (a : Bool) → both a true ≡ false → a ≡ false
    alone true e = e
    alone false e = refl

-- The new number of the region that a kept column names is the place of the old one among the used.
pub column_region : (s : List ℕ) (rs : List Run) (k c : ℕ) → bad_region_index s rs ≡ false → k < length rs
    → let at = subtable_at s (run_at rs k).outer in let old = order (plan_of s at (run_at rs k).inners) in
    c < length old
    → let r = region_index s at (get_or old c 0) in let new = new_region (used_regions s rs) r in
    (new < length (used_regions s rs)) × (get_or (used_regions s rs) new 0 ≡ r)
unfolding used_regions new_region
column_region s rs k c e h l =
    let at = subtable_at s (run_at rs k).outer in
    let is = (run_at rs k).inners in
    let b = get_or (order (plan_of s at is)) c 0 in
    let u = live-used s rs k b e h (order_inside s at is c l) (order-live s at is c l) in
    at_place (region_index s at b) 0 _ (is_selected (λ r. is_used s rs r) (region_index s at b) (region_count s) u.0 u.1)

-- What the first pass knows of a store's runs.
use Rattle.std.specs.Prelude.{ℕ, ◌+◌, ◌*◌, ◌^◌, ◌<◌, ◌≤◌, ◌≡◌, Bool, true, false, List, [], ◌∷◌, ◌++◌, length, take, drop, leb, ltb, Result, Ok, Err}
use Rattle.lists.specs.Pick.{pick, both}
use Rattle.lists.specs.Search.{some}
use Rattle.bits.specs.Bits.{has}
use Rattle.opentype.specs.Store.{region_count}
use Rattle.opentype.specs.Subtable.{column_count, region_index}
use Rattle.rules.specs.declared.Refusal.{Refusal}
use Rattle.rules.specs.Numbers.{Outcome, refused}
use Rattle.rules.specs.Lists.{Run, runs}
use Rattle.rules.specs.Columns.{kept_deltas}
use Rattle.rules.specs.Columns.{live as is_live}
use Rattle.rules.specs.Regions.{uses_region, is_used}
use Rattle.rules.specs.StoreCut.{some_delta, bad_region_index, middle_width, subtables_or}
use Rattle.rules.specs.StoreCut.{middle as is_middle}
use Rattle.laws.specs.Lengths.{sum, size_at, sizes}
use Rattle.measure.specs.declared.Measure.{Measure}
use Rattle.rows.specs.declared.Counts.{Counts}
use Rattle.rows.specs.Area.{used_in}

-- no region is marked yet
pub record NoneUsed (w : List ℕ) : Type 0 where
  pub is : (q : ℕ) → has (used_in w) q ≡ false

-- m with one more subtable, of the columns p and so many bytes; bad says that p names a region at or past the count
abbrev pub with_subtable : Measure → Counts → Bool → ℕ → Measure
with_subtable m p bad bytes = record {
  count = m.count + 1;
  length = m.length + bytes;
  live = pick m.live true (ltb 0 (p.wide + p.narrow));
  index = pick m.index true bad;
  middle = pick m.middle true p.middle;
}

-- what the subtable at a place, with the kept items is, adds to m in r, and to the work area w in w'
pub record Step (s : List ℕ) (at : ℕ) (is w w' : List ℕ) (m r : Measure) : Type 0 where
  pub count : r.count ≡ m.count + 1
  pub length : r.length ≡ m.length + size_at s at is
  pub live : r.live ≡ pick m.live true (some (λ c. is_live s at is c) (column_count s at))
  pub index : r.index ≡ pick m.index true (some (λ c. both (leb (region_count s) (region_index s at c)) (is_live s at is c)) (column_count s at))
  pub middle : r.middle ≡ pick m.middle true (some (λ c. is_middle (kept_deltas s at is c)) (column_count s at))
  pub used : (q : ℕ) → q < region_count s → has (used_in w') q ≡ pick (has (used_in w) q) true (uses_region s at is q)
  pub noted : take (m.count + 1) (drop 8832 w') ≡ take m.count (drop 8832 w) ++ size_at s at is ∷ []
  pub low : take 8704 w' ≡ take 8704 w

-- at most 256 subtables; each has at most 8,198 bytes before its rows, and a row at most 16,384. The rows so far are those of the first pairs, up to a place
pub record Fits (m : Measure) (at : ℕ) : Type 0 where
  pub few : m.count ≤ 256
  pub small : m.length ≤ 8198 * m.count + 16384 * at

-- m, with what the runs that are left add, is the whole
pub record Left (s : List ℕ) (rs left : List Run) (w : List ℕ) (m : Measure) : Type 0 where
  pub noted : take m.count (drop 8832 w) ++ sizes s left ≡ sizes s rs
  pub count : m.count + length left ≡ length rs
  pub total : m.length + sum (sizes s left) ≡ sum (sizes s rs)
  pub live : pick m.live true (some_delta s left) ≡ some_delta s rs
  pub index : pick m.index true (bad_region_index s left) ≡ bad_region_index s rs
  pub middle : pick m.middle true (middle_width s left) ≡ middle_width s rs
  pub used : (q : ℕ) → q < region_count s → pick (has (used_in w) q) true (is_used s left q) ≡ is_used s rs q
  pub subtables : (next : Outcome) → subtables_or s rs next ≡ subtables_or s left next

-- all runs are measured
pub record Whole (s : List ℕ) (rs : List Run) (w : List ℕ) (m : Measure) : Type 0 where
  pub few : m.count ≤ 256
  pub small : m.length ≤ 2 ^ 28
  pub noted : take m.count (drop 8832 w) ≡ sizes s rs
  pub count : m.count ≡ length rs
  pub total : m.length ≡ sum (sizes s rs)
  pub live : m.live ≡ some_delta s rs
  pub index : m.index ≡ bad_region_index s rs
  pub middle : m.middle ≡ middle_width s rs
  pub used : (q : ℕ) → q < region_count s → has (used_in w) q ≡ is_used s rs q
  pub subtables : (next : Outcome) → subtables_or s rs next ≡ next

-- so, or 5 or 6 is given
abbrev pub Measuring : List ℕ → List ℕ → List ℕ → Result Measure Refusal → Type 0
Measuring s pairs w (Ok m) = Whole s (runs pairs) w m
Measuring s pairs w (Err r) = (next : Outcome) → subtables_or s (runs pairs) next ≡ refused r

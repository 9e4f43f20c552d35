-- What is known of a run before its subtable is written.
use Rattle.std.specs.Prelude.{ℕ, ◌<◌, ◌≤◌, ◌≡◌, Bool, true, false, List, get_or, leb}
use Rattle.lists.specs.Pick.{both}
use Rattle.lists.specs.Search.{some}
use Rattle.bits.specs.Bits.{has}
use Rattle.opentype.specs.Store.{subtable_at, region_count}
use Rattle.opentype.specs.Subtable.{column_count, region_index}
use Rattle.rules.specs.Lists.{Run, outer}
use Rattle.rules.specs.Columns.{live}
use Rattle.rules.specs.Regions.{uses_region}
use Rattle.laws.specs.Usable.{unusable}
use Rattle.rows.specs.Area.{part, items, used_in}

-- the run of the pairs from a place up to another
abbrev pub run_in : List ℕ → ℕ → ℕ → Run
run_in w from to = record { outer = outer (get_or w from 0); inners = items (part w from to) }

-- a column with a non-zero kept delta names a region at or past the region count
unfoldable pub names_none : List ℕ → Run → Bool
names_none s run =
    let at = subtable_at s run.outer in
    some (λ c. both (leb (region_count s) (region_index s at c)) (live s at run.inners c)) (column_count s at)

-- its subtable can be used, and the regions that its kept columns name are there and marked in the work area w
pub record RunReady (s : List ℕ) (run : Run) (w : List ℕ) : Type 0 where
  pub usable : unusable s run ≡ false
  pub named : names_none s run ≡ false
  pub few : region_count s ≤ 4096
  pub marked : (q : ℕ) → q < region_count s → uses_region s (subtable_at s run.outer) run.inners q ≡ true → has (used_in w) q ≡ true

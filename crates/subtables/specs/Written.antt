-- The plan that the work area holds, and what is written by it.
use Rattle.std.specs.Prelude.{ℕ, ◌+◌, List}
use Rattle.lists.specs.Gather.{tab, flat}
use Rattle.cells.specs.Be.{be_bytes}
use Rattle.cells.specs.Sign.{signed_bytes}
use Rattle.opentype.specs.Subtable.{region_index, delta}
use Rattle.rules.specs.Regions.{new_region}
use Rattle.rules.specs.Columns.{Plan}
use Rattle.rows.specs.declared.Counts.{Counts}
use Rattle.rows.specs.Area.{column_in}

-- n of the kept columns from the first-th on, of which so many are wide
unfoldable pub columns_from : List ℕ → ℕ → ℕ → ℕ → List ℕ
columns_from w wide first n = tab (λ j. column_in w wide (first + j)) n

-- the deltas of an item in some columns, in cells of one size
abbrev pub cells_of : List ℕ → ℕ → ℕ → ℕ → List ℕ → List ℕ
cells_of s at item size cs = flat (λ c. signed_bytes size (delta s at item c)) cs

-- the new region indexes of some columns
abbrev pub indexes_of : List ℕ → ℕ → List ℕ → List ℕ → List ℕ
indexes_of s at used cs = flat (λ c. be_bytes 2 (new_region used (region_index s at c))) cs

-- the plan that the work area holds
unfoldable pub plan_in : List ℕ → Counts → Plan
plan_in w p = record {
  is_long = p.long;
  wide = columns_from w p.wide 0 p.wide;
  narrow = columns_from w p.wide p.wide p.narrow;
}

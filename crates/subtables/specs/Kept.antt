-- What the writers know of the kept columns.
use Rattle.std.specs.Prelude.{ℕ, ◌+◌, ◌<◌, ◌≤◌, ◌≡◌, true, List}
use Rattle.bits.specs.Bits.{has}
use Rattle.opentype.specs.Store.{region_count}
use Rattle.opentype.specs.Subtable.{word_size, rest_size, cell_size, region_index}
use Rattle.readers.specs.declared.subtable.Shape.{Shape}
use Rattle.rows.specs.declared.Counts.{Counts}
use Rattle.rows.specs.Area.{used_in, column_in}

-- every kept column names a region that is there and marked
pub record Named (s : List ℕ) (at : ℕ) (w : List ℕ) (r : Counts) : Type 0 where
  pub there : (j : ℕ) → j < r.wide + r.narrow → region_index s at (column_in w r.wide j) < region_count s
  pub marked : (j : ℕ) → j < r.wide + r.narrow → has (used_in w) (region_index s at (column_in w r.wide j)) ≡ true

-- so many kept columns from the first-th on are columns of the subtable t, and their cells there have at least so many bytes
pub record Fitting (t : Shape) (w : List ℕ) (wide first count size : ℕ) : Type 0 where
  pub there : (k : ℕ) → k < count → column_in w wide (first + k) < t.columns
  pub holds : (k : ℕ) → k < count → size ≤ cell_size t.long t.words (column_in w wide (first + k))

-- no new cell is larger than the old one
pub record Fitted (t : Shape) (w : List ℕ) (r : Counts) : Type 0 where
  pub wide : Fitting t w r.wide 0 r.wide (word_size r.long)
  pub narrow : Fitting t w r.wide r.wide r.narrow (rest_size r.long)

-- the first n kept columns are the first n columns
pub record Own (w : List ℕ) (wide n : ℕ) : Type 0 where
  pub each : (j : ℕ) → j < n → column_in w wide j ≡ j

-- every column is kept where it stands, in a cell of its old size
pub record KeptWhole (t : Shape) (w : List ℕ) (r : Counts) : Type 0 where
  pub long : r.long ≡ t.long
  pub wide : r.wide ≡ t.words
  pub all : r.wide + r.narrow ≡ t.columns
  pub own : Own w r.wide t.columns

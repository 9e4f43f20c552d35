-- What is written of a kept subtable.
use Rattle.std.specs.Prelude.{ℕ, List}
use Rattle.rules.specs.Rewrite.{row_bytes}
use Rattle.rows.specs.Area.{columns_in, used_of}
use Rattle.subtables.specs.declared.Kept.{Kept}
use Rattle.subtables.specs.Written.{columns_from, plan_in, cells_of, indexes_of}

-- the new region indexes of its columns
abbrev pub new_indexes : Kept → List ℕ
new_indexes k =
    indexes_of k.subtable.bytes.now k.subtable.shape.at (used_of k.subtable.bytes.now k.work.now) (columns_in k.work.now k.columns.counts.wide k.columns.counts.narrow)

-- of an item, the deltas in `count` columns from the first-th on, in cells of one size
abbrev pub new_cells : Kept → ℕ → ℕ → ℕ → ℕ → List ℕ
new_cells k item first count size =
    cells_of k.subtable.bytes.now k.subtable.shape.at item size (columns_from k.work.now k.columns.counts.wide first count)

-- the row of an item
abbrev pub new_row : Kept → ℕ → List ℕ
new_row k item = row_bytes k.subtable.bytes.now k.subtable.shape.at (plan_in k.work.now k.columns.counts) item

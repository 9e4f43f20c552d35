-- The cells of a row lie inside it, one row after the other inside the subtable; and a row's bytes hold its deltas.
use Rattle.std.specs.Prelude.{ℕ, suc, ◌+◌, ◌*◌, ◌<◌, ◌≤◌, ◌≡◌, Bool, true, false, List, ltb, drop}
use Rattle.std.proofs.Common.{arith, mul-le-mul_right, suc-mul, lt-ltb, le-ltb}
use Rattle.std.proofs.Math.Decide.{dec_lt}
use Rattle.lists.specs.Pick.{pick}
use Rattle.cells.specs.Sign.{signed_at, Size}
use Rattle.cells.proofs.Cells.{be-take, be-drop}
use Rattle.opentype.specs.Subtable.{long, word_count, column_count, word_size, rest_size, length_of_row, row_length, row_at, row, cell_at, cell_size, cell}

-- a row behind i others ends inside n of them
pub row_inside : (i n r : ℕ) → i < n → i * r + r ≤ n * r
row_inside i n r h = omega (arith, mul-le-mul_right {m = suc i} {n = n} r h, suc-mul i r)

-- a cell ends inside its row
pub cell_inside : (is_long : Bool) (words columns c : ℕ) → words ≤ columns → c < columns
    → cell_at is_long words c + cell_size is_long words c ≤ length_of_row is_long words columns
unfolding cell_at cell_size length_of_row
cell_inside true words columns c o h = elim (dec_lt c words) [
  | yes p ↦ rw (lt-ltb c words p) (omega arith)
  | no p ↦ (let q : words ≤ c = omega arith in rw (le-ltb c words q) (omega arith))
]
cell_inside false words columns c o h = elim (dec_lt c words) [
  | yes p ↦ rw (lt-ltb c words p) (omega arith)
  | no p ↦ (let q : words ≤ c = omega arith in rw (le-ltb c words q) (omega arith))
]

-- a row has at most 4 bytes a column
pub row_short : (is_long : Bool) (words columns : ℕ) → words ≤ columns → length_of_row is_long words columns ≤ 4 * columns
unfolding length_of_row
row_short true words columns o = omega arith
row_short false words columns o = omega arith

-- a cell has 1, 2 or 4 bytes
pub cell_has_size : (is_long : Bool) (words c : ℕ) → Size (cell_size is_long words c)
unfolding cell_size
cell_has_size is_long words c = one (ltb c words) is_long
  where
    one : (b l : Bool) → Size (pick b (word_size l) (rest_size l))
    one true true = record { low = omega arith; high = omega arith; even = λ e. omega arith }
    one true false = record { low = omega arith; high = omega arith; even = λ e. omega arith }
    one false true = record { low = omega arith; high = omega arith; even = λ e. omega arith }
    one false false = record { low = omega arith; high = omega arith; even = λ e. omega arith }

-- the row's bytes, cut into cells, are the numbers that stand at the item's columns
pub row-cell : (s : List ℕ) (at i c : ℕ) → word_count s at ≤ column_count s at → c < column_count s at
    → signed_at (cell_size (long s at) (word_count s at) c) (row s at i) (cell_at (long s at) (word_count s at) c) ≡ cell s at i c
unfolding row cell row_length
row-cell s at i c o h =
    let w = cell_size (long s at) (word_count s at) c in
    let k = cell_at (long s at) (word_count s at) c in
    let f = cell_inside (long s at) (word_count s at) (column_count s at) c o h in
    rw (be-take w (length_of_row (long s at) (word_count s at) (column_count s at)) (drop (row_at s at i) s) k f, be-drop w (row_at s at i) s k)

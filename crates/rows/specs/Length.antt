-- The lengths of what is written by a plan.
use Rattle.std.specs.Prelude.{ℕ, ◌+◌, ◌*◌, Bool}
use Rattle.opentype.specs.Subtable.{word_size, rest_size}
use Rattle.rows.specs.declared.Counts.{Counts}

-- the length of a row
abbrev pub row_of : Counts → ℕ
row_of p = p.wide * word_size p.long + p.narrow * rest_size p.long

-- the length of a subtable of so many items
unfoldable pub planned_length : Bool → ℕ → ℕ → ℕ → ℕ
planned_length long wide narrow n = 6 + 2 * (wide + narrow) + n * (wide * word_size long + narrow * rest_size long)

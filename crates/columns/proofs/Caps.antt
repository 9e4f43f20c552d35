-- No delta is larger than its cell: the deltas in cells of 1, 2 or 4 bytes have sizes of at most 1, 2 or 4 (laws, Sizes).
use Prim.Native.Nat.{ℕ, ◌+◌, ◌≤◌, ◌<◌}
use mathlib.Core.Path.{◌≡◌, refl, sym, ◌∙◌}
use mathlib.Core.Bool.{Bool, true, false}
use mathlib.Core.List.{List, [], ◌∷◌}
use native.Mathlib.Omega.{arith}
use lib.Dec.{leb, ltb}
use lib.IntN.{ℤ, pos}
use lib.Signed.{mag}
use borrow.Author.Tests.{le-ltb, ltb-false}
use Rattle.lists.specs.Pick.{pick}
use Rattle.lists.specs.Search.{largest}
use Rattle.cells.specs.Be.{be}
use Rattle.cells.specs.Sign.{signed_at, outside, nil}
use Rattle.opentype.specs.Subtable.{long, word_count, column_count, item_count, word_size, rest_size, row_at, cell_at, cell_size, cell, delta}
use Rattle.rules.specs.Columns.{kept_deltas}
use Rattle.laws.specs.Sizes.{size, sizes, column_size}
use Rattle.laws.specs.Long.{sign_small}

-- of one number
size_most : (z : ℤ) → size z ≤ 4
unfolding size
size_most z = by (outside 65535 z) (outside 32767 z) (outside 127 z) (nil z)
  where
    by : (a b c d : Bool) → pick a 4 (pick b 3 (pick c 2 (pick d 0 1))) ≤ 4
    by true b c d = omega arith
    by false true c d = omega arith
    by false false true d = omega arith
    by false false false true = omega arith
    by false false false false = omega arith

size_none : size (pos 0) ≡ 0
unfolding size
size_none = refl

size_within : (k j : ℕ) (z : ℤ) → outside j z ≡ ltb k (size z) → mag z < j + 1 → size z ≤ k
size_within k j z e h = let l : mag z ≤ j = omega arith in ltb-false k (size z) (sym e ∙ le-ltb j (mag z) l)

-- of the number in a column's cell, whatever the bytes
cell_capped : (is_long : Bool) (words c : ℕ) (s : List ℕ) (at : ℕ) → size (signed_at (cell_size is_long words c) s at) ≤ cell_size is_long words c
unfolding cell_size
cell_capped is_long words c s at = by (ltb c words) is_long
  where
    short : size (signed_at 2 s at) ≤ 2
    short = size_within 2 32767 (signed_at 2 s at) (sizes (signed_at 2 s at)).1 (sign_small 32768 (be 2 s at) (omega arith))

    by : (b is_long : Bool) → let w : ℕ = pick b (word_size is_long) (rest_size is_long) in size (signed_at w s at) ≤ w
    by true true = size_most (signed_at 4 s at)
    by true false = short
    by false true = short
    by false false = size_within 1 127 (signed_at 1 s at) (sizes (signed_at 1 s at)).2 (sign_small 128 (be 1 s at) (omega arith))

delta_capped : (s : List ℕ) (at i c : ℕ) → size (delta s at i c) ≤ cell_size (long s at) (word_count s at) c
unfolding delta cell
delta_capped s at i c = by (leb (item_count s at) i) (leb (column_count s at) c)
  where
    by : (a b : Bool) → size (pick a (pos 0) (pick b (pos 0) (cell s at i c))) ≤ cell_size (long s at) (word_count s at) c
    by true b = rw size_none (omega arith)
    by false true = rw size_none (omega arith)
    by false false = cell_capped (long s at) (word_count s at) c s (row_at s at i + cell_at (long s at) (word_count s at) c)

-- of a column
pub column_capped : (s : List ℕ) (at : ℕ) (is : List ℕ) (c : ℕ) → column_size (kept_deltas s at is c) ≤ cell_size (long s at) (word_count s at) c
unfolding column_size kept_deltas largest
column_capped s at [] c = omega arith
column_capped s at (i ∷ is) c = omega (arith, delta_capped s at i c, column_capped s at is c)

-- Demand 3, rows: no written row could be shorter. A form of a subtable is long or not, with any list of old columns as wide ones and any as
-- narrow ones; if it tells every kept row's delta in every old column, its row is at least as long as ours.
use Rattle.std.specs.Prelude.{ℕ, ◌+◌, ◌*◌, ◌/◌, ◌^◌, ◌≤◌, ◌<◌, ◌≡◌, Bool, true, List, length, ℤ, ltb}
use Rattle.std.specs.Int.Signed.{mag}
use Rattle.lists.specs.Pick.{pick, both}
use Rattle.lists.specs.Search.{member}
use Rattle.cells.specs.Sign.{nil}
use Rattle.opentype.specs.Store.{subtable_at}
use Rattle.opentype.specs.Subtable.{word_size, rest_size, row_length}
use Rattle.opentype.specs.Table.{store_of, glyph_outer, glyph_inner}
use Rattle.demands.specs.Reading.{delta_in, columns_in}
use Rattle.demands.specs.KeepsStore.{outer_at, inner_at, outers_before}
use Rattle.demands.specs.KeepsGlyphs.{Listed, old_at, new_at}

-- A form of a subtable: long or not, some old columns as wide ones, some as narrow ones.
pub record Form : Type 0 where
  pub is_long : Bool
  pub wide : List ℕ
  pub narrow : List ℕ

-- the length of its rows
unfoldable pub form_length : Form → ℕ
form_length f = length f.wide * word_size f.is_long + length f.narrow * rest_size f.is_long

-- so many bytes hold a signed number
unfoldable pub holds : ℕ → ℤ → Bool
holds size z = ltb (mag z) (256 ^ size / 2)

-- the form tells a delta in old column c: it is 0; or the column stands among the wide ones, and it fits there; or among the narrow ones, and it fits there
unfoldable pub tells : Form → ℕ → ℤ → Bool
tells f c z =
    pick (nil z) true
    (pick (both (member c f.wide) (holds (word_size f.is_long) z)) true
    (both (member c f.narrow) (holds (rest_size f.is_long) z)))

-- Of a store: for the outer of each listed pair, a form that tells the deltas of all listed rows of that outer isn't shorter.
unfoldable pub ShortestRows : List ℕ → List ℕ → List ℕ → Type 0
ShortestRows s pairs w =
    (k : ℕ) → k < length pairs
    → let o = outer_at pairs k in
    (f : Form)
    → ((j c : ℕ) → j < length pairs → outer_at pairs j ≡ o → c < columns_in s o → tells f c (delta_in s o (inner_at pairs j) c) ≡ true)
    → row_length w (subtable_at w (outers_before pairs o)) ≤ form_length f

-- Of a table: for the outer that a listed glyph reads in a map, a form that tells the deltas of all rows that listed glyphs read there, in any
-- map, isn't shorter.
unfoldable pub ShortestGlyphRows : ℕ → List ℕ → List ℕ → List ℕ → Type 0
ShortestGlyphRows maps t es u =
    (m n : ℕ) → Listed maps t es m n
    → let o = glyph_outer t m (old_at es n) in let s = store_of t in let w = store_of u in
    (f : Form)
    → ((l j c : ℕ) → Listed maps t es l j → glyph_outer t l (old_at es j) ≡ o → c < columns_in s o
    → tells f c (delta_in s o (glyph_inner t l (old_at es j)) c) ≡ true)
    → row_length w (subtable_at w (glyph_outer u m (new_at es n))) ≤ form_length f

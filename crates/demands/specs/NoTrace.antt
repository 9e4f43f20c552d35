-- No trace of what was cut: what is written is there for a listed row or glyph.
use Rattle.std.specs.Prelude.{ℕ, ◌<◌, ◌≡◌, List, length, take, pos}
use Rattle.opentype.specs.Store.{subtable_at, subtable_count, region_count}
use Rattle.opentype.specs.Subtable.{item_count, region_index}
use Rattle.opentype.specs.Table.{store_of, glyph_outer, glyph_inner}
use Rattle.demands.specs.Reading.{delta_in, columns_in}
use Rattle.demands.specs.KeepsStore.{outer_at, outers_before, pairs_of}
use Rattle.demands.specs.KeepsGlyphs.{Listed, old_at, new_at, OneRow}

-- a row of w whose delta in column c of subtable o isn't 0
pub record LiveRow (w : List ℕ) (o c : ℕ) : Type 0 where
  pub row : ℕ
  pub inside : row < item_count w (subtable_at w o)
  pub live : delta_in w o row c ≡ pos 0 → ⊥

-- a column of w that names region r
pub record Naming (w : List ℕ) (r : ℕ) : Type 0 where
  pub outer : ℕ
  pub column : ℕ
  pub there : outer < subtable_count w
  pub inside : column < columns_in w outer
  pub names : region_index w (subtable_at w outer) column ≡ r

-- Every subtable of w has a row; every column has a row that isn't 0 there; every region record is named by such a column.
pub record Lean (w : List ℕ) : Type 0 where
  pub subtables : (o : ℕ) → o < subtable_count w → 0 < item_count w (subtable_at w o)
  pub columns : (o c : ℕ) → o < subtable_count w → c < columns_in w o → LiveRow w o c
  pub regions : (r : ℕ) → r < region_count w → Naming w r

-- the place of a pair whose row is row i of subtable o
pub record PairOf (pairs : List ℕ) (o i : ℕ) : Type 0 where
  pub place : ℕ
  pub inside : place < length pairs
  pub outer : outers_before pairs (outer_at pairs place) ≡ o
  pub inner : pairs_of (take place pairs) (outer_at pairs place) ≡ i

-- Of a store: every written row is a listed pair's.
pub record NoTrace (s pairs w : List ℕ) : Type 0 where
  pub lean : Lean w
  pub rows : (o i : ℕ) → o < subtable_count w → i < item_count w (subtable_at w o) → PairOf pairs o i

-- a map and a place of the list whose glyph reads row i of subtable o in u
pub record GlyphOf (maps : ℕ) (t es u : List ℕ) (o i : ℕ) : Type 0 where
  pub map : ℕ
  pub place : ℕ
  pub listed : Listed maps t es map place
  pub outer : glyph_outer u map (new_at es place) ≡ o
  pub inner : glyph_inner u map (new_at es place) ≡ i

-- Of a table: every written row is the row of some listed glyph in some map, and none is written twice: glyphs that read one old row read
-- one new row.
pub record NoTraceInTable (maps : ℕ) (t es u : List ℕ) : Type 0 where
  pub lean : Lean (store_of u)
  pub rows : (o i : ℕ) → o < subtable_count (store_of u) → i < item_count (store_of u) (subtable_at (store_of u) o) → GlyphOf maps t es u o i
  pub once : (l j m n : ℕ) → Listed maps t es l j → Listed maps t es m n
      → OneRow t l (old_at es j) m (old_at es n) → OneRow u l (new_at es j) m (new_at es n)

-- Demand 2 for HVAR and VVAR: each listed glyph reads through each map what it read before. An entry of the list is new × 65,536 + old.
use Rattle.std.specs.Prelude.{ℕ, ◌/◌, ◌%◌, ◌<◌, ◌≡◌, true, false, List, length, get_or, ℤ}
use Rattle.opentype.specs.Store.{subtable_count, axis_count}
use Rattle.opentype.specs.Table.{store_at, map_at, store_of, gives_pairs, glyph_outer, glyph_inner}
use Rattle.rules.specs.Open.{bad_header, bad_map}
use Rattle.demands.specs.Reading.{Readable, weighted}
use Rattle.demands.specs.Rows.{KeptColumns, KeptRow}

-- map m gives the glyph at place n of the list a row
pub record Listed (maps : ℕ) (t es : List ℕ) (m n : ℕ) : Type 0 where
  pub known : m < maps
  pub gives : gives_pairs t m ≡ true
  pub inside : n < length es

-- the ids of the glyph at place n
abbrev pub new_at : List ℕ → ℕ → ℕ
new_at es n = get_or es n 0 / 65536

abbrev pub old_at : List ℕ → ℕ → ℕ
old_at es n = get_or es n 0 % 65536

-- Through map m the glyph `new` of the written table u reads what the glyph `old` of the table t reads: the map is there and sound, and the
-- row that it names has, column by column and record by record, the deltas of the row that the old glyph's pair names.
pub record KeptGlyph (t u : List ℕ) (m old new : ℕ) : Type 0 where
  pub there : map_at u m ≡ 0 → ⊥
  pub sound : bad_map u (map_at u m) ≡ false
  pub inside : glyph_outer u m new < subtable_count (store_of u)
  pub from : List ℕ
  pub columns : KeptColumns (store_of t) (glyph_outer t m old) (store_of u) (glyph_outer u m new) from
  pub row : KeptRow (store_of t) (glyph_outer t m old) (glyph_inner t m old) (store_of u) (glyph_outer u m new) (glyph_inner u m new) from

-- The written table u: its header, its store and the store's region list are there and can be read, regions have as many axes; each
-- listed glyph reads in every map that gave it a pair what it read; a map that was absent, but for the advance map, is absent.
pub record KeptTable (maps : ℕ) (t es u : List ℕ) : Type 0 where
  pub header : bad_header maps u ≡ false
  pub store : store_at u ≡ 0 → ⊥
  pub readable : Readable (store_of u)
  pub axes : axis_count (store_of u) ≡ axis_count (store_of t)
  pub glyphs : (m n : ℕ) → Listed maps t es m n → KeptGlyph t u m (old_at es n) (new_at es n)
  pub others : (m : ℕ) → m < maps → gives_pairs t m ≡ false → map_at u m ≡ 0

-- And so no instance of the font moves a width, a bearing or an origin of a listed glyph.
unfoldable pub KeptGlyphSums : ℕ → List ℕ → List ℕ → List ℕ → Type 0
KeptGlyphSums maps t es u =
    (weigh : List ℕ → ℤ) (m n : ℕ) → Listed maps t es m n
    → weighted weigh (store_of u) (glyph_outer u m (new_at es n)) (glyph_inner u m (new_at es n))
    ≡ weighted weigh (store_of t) (glyph_outer t m (old_at es n)) (glyph_inner t m (old_at es n))

-- glyph g in map l and glyph h in map m of a table read one row
abbrev pub OneRow : List ℕ → ℕ → ℕ → ℕ → ℕ → Type 0
OneRow t l g m h = (glyph_outer t l g ≡ glyph_outer t m h) × (glyph_inner t l g ≡ glyph_inner t m h)

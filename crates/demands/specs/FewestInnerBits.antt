-- Demand 3, maps: the inner bits of a written map hold all its inner numbers, are at least 1, and no smaller number of at least 1 holds them.
use Rattle.std.specs.Prelude.{ℕ, ◌^◌, ◌≤◌, ◌<◌, ◌≡◌, true, false, List, length}
use Rattle.opentype.specs.Map.{inner_bits}
use Rattle.opentype.specs.Table.{map_at, gives_pairs, glyph_inner}
use Rattle.rules.specs.Open.{bad_map}
use Rattle.demands.specs.KeepsGlyphs.{Listed, old_at, new_at, OneRow}

-- The written map m is there and sound, and fewer inner bits would not hold the inner numbers that the listed glyphs read in it.
pub record FewestBits (es u : List ℕ) (m : ℕ) : Type 0 where
  pub there : map_at u m ≡ 0 → ⊥
  pub sound : bad_map u (map_at u m) ≡ false
  pub fewest : (bits : ℕ) → 1 ≤ bits → ((n : ℕ) → n < length es → glyph_inner u m (new_at es n) < 2 ^ bits) → inner_bits u (map_at u m) ≤ bits

-- So each map that gives pairs is written, where the list isn't empty. The bits hold every inner number: glyphs that read one new row read one old
-- row. (A null region list is no exception.)
pub record FewestInnerBits (maps : ℕ) (t es u : List ℕ) : Type 0 where
  pub bits : (m : ℕ) → m < maps → gives_pairs t m ≡ true → 0 < length es → FewestBits es u m
  pub hold : (l j m n : ℕ) → Listed maps t es l j → Listed maps t es m n
      → OneRow u l (new_at es j) m (new_at es n) → OneRow t l (old_at es j) m (old_at es n)

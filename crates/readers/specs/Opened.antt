-- What it means that a subtable or a map was opened: its shape is what the bytes say, and all of it lies inside.
use Rattle.std.specs.Prelude.{ℕ, ◌+◌, ◌*◌, ◌≤◌, ◌≡◌, List, length}
use Rattle.opentype.specs.Subtable.{item_count, word_count, column_count, row_length, rows_at}
use Rattle.opentype.specs.Subtable.{long as is_long}
use Rattle.opentype.specs.Map.{inner_bits, entry_bytes, map_head, map_count}
use Rattle.readers.specs.declared.subtable.Shape.{Shape}
use Rattle.readers.specs.declared.map.MapShape.{MapShape}

pub record Opened (s : List ℕ) (t : Shape) : Type 0 where
  pub items : t.items ≡ item_count s t.at
  pub words : t.words ≡ word_count s t.at
  pub columns : t.columns ≡ column_count s t.at
  pub long : t.long ≡ is_long s t.at
  pub row : t.row ≡ row_length s t.at
  pub rows : t.rows ≡ rows_at s t.at
  pub order : t.words ≤ t.columns
  pub few : t.columns ≤ 4096
  pub many : t.items ≤ 65535
  pub short : t.row ≤ 16384
  pub head : t.at + 6 + 2 * t.columns ≤ t.rows
  pub inside : t.rows + t.items * t.row ≤ length s

-- 12
pub record OpenedMap (s : List ℕ) (m : MapShape) : Type 0 where
  pub entries : m.entries ≡ m.at + map_head s m.at
  pub count : m.count ≡ map_count s m.at
  pub size : m.size ≡ entry_bytes s m.at
  pub bits : m.bits ≡ inner_bits s m.at
  pub some : 1 ≤ m.count
  pub one : 1 ≤ m.size
  pub short : m.size ≤ 4
  pub few : m.bits ≤ 16
  pub fits : m.bits ≤ 8 * m.size
  pub inside : m.entries + m.count * m.size ≤ length s

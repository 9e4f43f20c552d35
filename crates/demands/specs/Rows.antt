-- A row that was kept: o and i are its outer and inner in the source s, o' and i' in the written store w.
use Rattle.std.specs.Prelude.{ℕ, ◌<◌, ◌≡◌, List, length, get_or, pos}
use Rattle.opentype.specs.Store.{subtable_at}
use Rattle.opentype.specs.Subtable.{item_count}
use Rattle.demands.specs.Reading.{delta_in, columns_in, record_in}

-- Each column of subtable o' comes from one column of subtable o, which `old` names; no two come from the same; and both name a
-- region record with the same bytes.
pub record KeptColumns (s : List ℕ) (o : ℕ) (w : List ℕ) (o' : ℕ) (old : List ℕ) : Type 0 where
  pub columns : columns_in w o' ≡ length old
  pub inside : (c : ℕ) → c < length old → get_or old c 0 < columns_in s o
  pub once : (c d : ℕ) → c < length old → d < length old → get_or old c 0 ≡ get_or old d 0 → c ≡ d
  pub records : (c : ℕ) → c < length old → record_in w o' c ≡ record_in s o (get_or old c 0)

-- The new row is there, and has in each column the old row's delta in the column that it comes from. In an old column that has
-- no new place the old row reads 0. (An old row past the item count reads 0 everywhere, and so does the new one.)
pub record KeptRow (s : List ℕ) (o i : ℕ) (w : List ℕ) (o' i' : ℕ) (old : List ℕ) : Type 0 where
  pub there : i' < item_count w (subtable_at w o')
  pub deltas : (c : ℕ) → c < length old → delta_in w o' i' c ≡ delta_in s o i (get_or old c 0)
  pub dropped : (b : ℕ) → b < columns_in s o → ((c : ℕ) → c < length old → get_or old c 0 ≡ b → ⊥) → delta_in s o i b ≡ pos 0

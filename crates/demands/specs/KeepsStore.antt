-- Demand 2 for stores: a cut keeps every listed row, under the same regions. A pair of the list is outer × 65,536 + inner.
use Rattle.std.specs.Prelude.{ℕ, ◌/◌, ◌%◌, ◌<◌, ◌≡◌, Bool, List, length, get_or, take, ℤ, eqb}
use Rattle.lists.specs.Gather.{keep, rank}
use Rattle.lists.specs.Search.{any}
use Rattle.opentype.specs.Store.{subtable_at, subtable_count, axis_count}
use Rattle.opentype.specs.Subtable.{item_count}
use Rattle.demands.specs.Reading.{Readable, weighted}
use Rattle.demands.specs.Rows.{KeptColumns, KeptRow}

-- the outer and inner of the pair at place k
abbrev pub outer_at : List ℕ → ℕ → ℕ
outer_at pairs k = get_or pairs k 0 / 65536

abbrev pub inner_at : List ℕ → ℕ → ℕ
inner_at pairs k = get_or pairs k 0 % 65536

-- some pair of the list has outer o
unfoldable pub has_outer : List ℕ → ℕ → Bool
has_outer pairs o = any (λ p. eqb o (p / 65536)) pairs

-- how many different outers of the list stand before o: its new number
unfoldable pub outers_before : List ℕ → ℕ → ℕ
outers_before pairs o = rank (λ p. has_outer pairs p) o

-- how many pairs of a list have outer o
unfoldable pub pairs_of : List ℕ → ℕ → ℕ
pairs_of pairs o = length (keep (λ p. eqb o (p / 65536)) pairs)

-- Of outer o: one row for each of its pairs. The pair at place k has as many rows before its own as earlier pairs have its outer.
-- All rows share their columns: one that was dropped reads 0 in each of them.
pub record KeptSubtable (s pairs w : List ℕ) (o : ℕ) : Type 0 where
  pub old : List ℕ
  pub items : item_count w (subtable_at w (outers_before pairs o)) ≡ pairs_of pairs o
  pub columns : KeptColumns s o w (outers_before pairs o) old
  pub rows : (k : ℕ) → k < length pairs → outer_at pairs k ≡ o
      → KeptRow s o (inner_at pairs k) w (outers_before pairs o) (pairs_of (take k pairs) o) old

-- The written store w can be read, its regions have as many axes, and it has one subtable for each outer of the list.
pub record KeptStore (s pairs w : List ℕ) : Type 0 where
  pub readable : Readable w
  pub axes : axis_count w ≡ axis_count s
  pub count : subtable_count w ≡ outers_before pairs (subtable_count s)
  pub subtables : (k : ℕ) → k < length pairs → KeptSubtable s pairs w (outer_at pairs k)

-- And so, for every weighting of region records by integers, the weighted sum of each listed row is what it was.
unfoldable pub KeptSums : List ℕ → List ℕ → List ℕ → Type 0
KeptSums s pairs w =
    (weigh : List ℕ → ℤ) (k : ℕ) → k < length pairs
    → weighted weigh w (outers_before pairs (outer_at pairs k)) (pairs_of (take k pairs) (outer_at pairs k))
    ≡ weighted weigh s (outer_at pairs k) (inner_at pairs k)

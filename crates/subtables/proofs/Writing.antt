-- Laws of the writers, each for its part of the output: cells, a row, rows, region indexes, the header.
use Prim.Native.Nat.{ℕ, ◌+◌, ◌*◌, ◌≤◌, ◌<◌}
use mathlib.Core.Path.{◌≡◌, ap, ◌∙◌}
use mathlib.Core.Bool.{true}
use mathlib.Core.List.{List, ◌++◌}
use native.Mathlib.Omega.{arith}
use lib.ListN.{length, get_or, length-append}
use mir.Val.{of_z}
use mir.Syntax.{w32}
use Rattle.lists.specs.Gather.{tab, flat, gather, rank}
use Rattle.lists.proofs.Parts.{sets_all}
use Rattle.lists.proofs.Pieces.{length-tab, gather-length}
use Rattle.lists.proofs.Tabs.{gather-tab}
use Rattle.lists.proofs.Fronts.{Fronted, fronted_inside, fronted_all}
use Rattle.lists.proofs.Places.{place-select}
use Rattle.lists.proofs.Laid.{Laid}
use Rattle.lists.proofs.Evenly.{even_room, even_more, even_all}
use Rattle.cells.specs.Be.{be_bytes, Wrote}
use Rattle.cells.specs.Sign.{signed_bytes}
use Rattle.cells.proofs.Cells.{length-be_bytes, wrote_cat}
use Rattle.bits.specs.Bits.{has}
use Rattle.opentype.specs.Store.{region_count}
use Rattle.opentype.specs.Subtable.{word_size, rest_size, region_index, delta}
use Rattle.rules.specs.Lists.{inner}
use Rattle.rules.specs.Regions.{new_region}
use Rattle.rules.specs.Rewrite.{row_bytes}
use Rattle.laws.specs.Lengths.{length_cells as lengths}
use Rattle.rows.specs.declared.Counts.{Counts}
use Rattle.rows.specs.Area.{items, column_in, columns_in, used_in, used_of}
use Rattle.subtables.specs.Kept.{Named}
use Rattle.rows.specs.Length.{row_of}
use Rattle.subtables.specs.Written.{columns_from, plan_in, cells_of, indexes_of}
use Rattle.subtables.proofs.Plans.{items_tab}

-- ---- the header: three cells of 2 bytes

pub three_laid : {l m o n xs ys zs : List ℕ} → Wrote l 0 xs m → Wrote m 2 ys o → Wrote o 4 zs n → length xs ≡ 2 → length ys ≡ 2 → length zs ≡ 2
    → length l ≡ 6 → n ≡ xs ++ ys ++ zs
three_laid {l} {xs = xs} {ys} {zs} p q r a b c h =
    let w = wrote_cat (wrote_cat p q (omega arith)) r (rw length-append (omega arith)) in
    w.is ∙ sets_all (xs ++ ys ++ zs) l (rw (length-append, length-append) (omega arith))

-- ---- the cells of an item in some kept columns

module _ (s : List ℕ) (at item size : ℕ) (w : List ℕ) (wide first : ℕ) where
  abbrev pub cell_in : ℕ → List ℕ
  cell_in j = signed_bytes size (delta s at item (column_in w wide (first + j)))

  abbrev cell : ℕ → List ℕ
  cell c = signed_bytes size (delta s at item c)

  abbrev column : ℕ → ℕ
  column j = column_in w wide (first + j)

  length-cell : (c : ℕ) → length (cell c) ≡ size
  length-cell c = length-be_bytes size (of_z w32 (delta s at item c))

  pub cells_room : {old out : List ℕ} {k pos : ℕ} (n : ℕ) → Laid cell_in old k pos out → k < n → length old ≡ n * size → pos + size ≤ length old
  cells_room n = even_room cell size length-cell column n

  -- v has the low bytes of the delta in the next column, c
  pub cells_more : {old out out' : List ℕ} {k c : ℕ} (v : ℕ) → Laid cell_in old k (k * size) out → k * size + size ≤ length old
      → Wrote out (k * size) (be_bytes size v) out' → be_bytes size v ≡ signed_bytes size (delta s at item c) → c ≡ column_in w wide (first + k)
      → Laid cell_in old (k + 1) ((k + 1) * size) out'
  cells_more {k = k} v l h p e q =
      let next : (k + 1) * size ≡ k * size + size = omega arith in
      rw next (even_more cell size length-cell column l h (p.is ∙ rw (e, q)))

  pub cells_all : {old out : List ℕ} {k pos : ℕ} (n : ℕ) → Laid cell_in old k pos out → k ≡ n → length old ≡ n * size
      → out ≡ cells_of s at item size (columns_from w wide first n)
  unfolding columns_from
  cells_all n = even_all cell size length-cell column n

  pub length_cells : (n : ℕ) → length (cells_of s at item size (columns_from w wide first n)) ≡ n * size
  unfolding columns_from
  length_cells n = lengths s at item size (tab column n) ∙ rw length-tab

-- ---- a row: the wide part, then the narrow part

module _ (s : List ℕ) (at item : ℕ) (w : List ℕ) (p : Counts) where
  pub length-row : length (row_bytes s at (plan_in w p) item) ≡ row_of p
  unfolding row_bytes plan_in
  length-row =
      rw (
        length-append,
        length_cells s at item (word_size p.long) w p.wide 0 p.wide,
        length_cells s at item (rest_size p.long) w p.wide p.wide p.narrow,
      )

  -- the two groups, one behind the other
  pub row_laid : {word rest : ℕ} {a b : List ℕ} → word ≡ word_size p.long → rest ≡ rest_size p.long
      → a ≡ cells_of s at item word (columns_from w p.wide 0 p.wide) → b ≡ cells_of s at item rest (columns_from w p.wide p.wide p.narrow)
      → a ++ b ≡ row_bytes s at (plan_in w p) item
  unfolding row_bytes plan_in
  row_laid d e q r = rw (q, r, d, e)

-- ---- the rows of the kept items

module _ (s : List ℕ) (at : ℕ) (w : List ℕ) (p : Counts) (ps : List ℕ) where
  abbrev pub row_in : ℕ → List ℕ
  row_in k = row_bytes s at (plan_in w p) (inner (get_or ps k 0))

  abbrev row : ℕ → List ℕ
  row i = row_bytes s at (plan_in w p) i

  abbrev item : ℕ → ℕ
  item k = inner (get_or ps k 0)

  length_item : (i : ℕ) → length (row i) ≡ row_of p
  length_item i = length-row s at i w p

  pub rows_room : {old out : List ℕ} {k pos : ℕ} → Laid row_in old k pos out → k < length ps → length old ≡ length ps * row_of p → pos + row_of p ≤ length old
  rows_room = even_room row (row_of p) length_item item (length ps)

  pub rows_all : {old out : List ℕ} {k pos : ℕ} → Laid row_in old k pos out → k ≡ length ps → length old ≡ length ps * row_of p
      → out ≡ flat (λ i. row_bytes s at (plan_in w p) i) (items ps)
  rows_all l e h = even_all row (row_of p) length_item item (length ps) l e h ∙ ap (flat row) (items_tab ps)

  -- the same, where a turn may spoil what lies behind its row
  rows_length : (n : ℕ) → length (gather row_in n) ≡ n * row_of p
  rows_length = gather-length row_in (row_of p) (λ k. length_item (item k))

  pub front_room : {old out : List ℕ} {k pos : ℕ} → Fronted row_in old k pos out → k < length ps → length old ≡ length ps * row_of p → pos + row_of p ≤ length old
  front_room {k = k} l h e = omega (arith, rows_length (length ps), length_item (item k), fronted_inside (length ps) l h (omega (arith, rows_length (length ps))))

  pub front_all : {old out : List ℕ} {k pos : ℕ} → Fronted row_in old k pos out → k ≡ length ps → length old ≡ length ps * row_of p
      → out ≡ flat (λ i. row_bytes s at (plan_in w p) i) (items ps)
  front_all l e h = fronted_all (length ps) l e (omega (arith, rows_length (length ps))) ∙ gather-tab row item (length ps) ∙ ap (flat row) (items_tab ps)

-- ---- the new region indexes of the kept columns

module _ (s : List ℕ) (at : ℕ) (w : List ℕ) (wide : ℕ) where
  abbrev pub index_in : ℕ → List ℕ
  index_in j = be_bytes 2 (new_region (used_of s w) (region_index s at (column_in w wide j)))

  abbrev index : ℕ → List ℕ
  index c = be_bytes 2 (new_region (used_of s w) (region_index s at c))

  abbrev place : ℕ → ℕ
  place j = column_in w wide j

  length_index : (c : ℕ) → length (index c) ≡ 2
  length_index c = length-be_bytes 2 (new_region (used_of s w) (region_index s at c))

  pub indexes_room : {old out : List ℕ} {j pos : ℕ} (n : ℕ) → Laid index_in old j pos out → j < n → length old ≡ 2 * n → pos + 2 ≤ length old
  indexes_room n l h e = even_room index 2 length_index place n l h (omega arith)

  -- the next column, c, names region r, of which v used ones are below
  pub indexes_more : {old out out' : List ℕ} {j c r : ℕ} (v : ℕ) → Laid index_in old j (2 * j) out → 2 * j + 2 ≤ length old
      → Wrote out (2 * j) (be_bytes 2 v) out' → v ≡ rank (has (used_in w)) r → r ≡ region_index s at c → c ≡ column_in w wide j
      → r < region_count s → has (used_in w) r ≡ true → Laid index_in old (j + 1) (2 * (j + 1)) out'
  unfolding new_region
  indexes_more {j = j} {r = r} v l h p e f g a b =
      let q : r ≡ region_index s at (column_in w wide j) = f ∙ ap (region_index s at) g in
      let next : 2 * (j + 1) ≡ 2 * j + 2 = omega arith in
      rw next (even_more index 2 length_index place l h (p.is ∙ rw (e, ← q, place-select (has (used_in w)) r (region_count s) a b)))

  pub indexes_all : {old out : List ℕ} {j pos : ℕ} (narrow : ℕ) → Laid index_in old j pos out → j ≡ wide + narrow → length old ≡ 2 * (wide + narrow)
      → out ≡ indexes_of s at (used_of s w) (columns_in w wide narrow)
  unfolding columns_in
  indexes_all narrow l e h = even_all index 2 length_index place (wide + narrow) l e (omega arith)

-- a kept column, c, names a region that is there and marked
pub names : {s : List ℕ} {at : ℕ} {w : List ℕ} {p : Counts} {j c r : ℕ} → Named s at w p → j < p.wide + p.narrow → c ≡ column_in w p.wide j
    → r ≡ region_index s at c → (r < region_count s) × (has (used_in w) r ≡ true)
names {j = j} n h e f = rw (f, e) (n.there j h, n.marked j h)

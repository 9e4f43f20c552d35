-- A row that is kept whole: its new cells, each of its old size and one behind the other, are the source's bytes.
use Prim.Native.Nat.{ℕ, zero, suc, ◌+◌, ◌*◌, ◌-◌, ◌≤◌, ◌<◌}
use mathlib.Core.Path.{◌≡◌, refl, sym, ◌∙◌}
use mathlib.Core.Bool.{Bool}
use mathlib.Core.List.{List, [], ◌∷◌, append-nil}
use native.Mathlib.Omega.{arith}
use native.Mathlib.Nat.{zero-add, suc-mul, zero-mul, add-sub_cancel_left}
use lib.ListN.{length, get_or, take, drop, length-drop}
use lib.Seq.{take-add, drop-drop, take_all, length-take-le}
use borrow.Author.Tests.{lt-ltb, le-ltb, lt-leb}
use Rattle.lists.specs.Gather.{tab, flat}
use Rattle.lists.proofs.Pieces.{flat_append}
use Rattle.lists.proofs.Tabs.{tab_ext}
use Rattle.cells.proofs.Cells.{read_written}
use Rattle.cells.specs.Sign.{signed_at, signed_bytes, Size}
use Rattle.opentype.specs.Subtable.{word_size, rest_size, length_of_row, row_length, row_at, row, cell_at, cell_size, cell, delta}
use Rattle.laws.specs.Rows.{row-cell, cell_has_size, cell_inside}
use Rattle.rules.specs.Rewrite.{row_bytes}
use Rattle.readers.specs.declared.subtable.Shape.{Shape}
use Rattle.readers.specs.Opened.{Opened}
use Rattle.readers.proofs.Subtables.{row_ends}
use Rattle.rows.specs.declared.Counts.{Counts}
use Rattle.subtables.specs.Kept.{KeptWhole}
use Rattle.rows.specs.Length.{row_of}
use Rattle.subtables.specs.Written.{columns_from, plan_in}
use Rattle.subtables.proofs.Lows.{last_bytes}

-- the row of an item that is there is as long as its subtable's rows
length-row : {s : List ℕ} {t : Shape} → Opened s t → (item : ℕ) → item < t.items → length (row s t.at item) ≡ t.row
unfolding row row_at
length-row {s} {t} o item there =
    rw (← o.row, ← o.rows) (length-take-le t.row (drop (t.rows + item * t.row) s) (rw length-drop (omega (arith, row_ends o item there))))

module _ {s : List ℕ} {t : Shape} (o : Opened s t) (item : ℕ) (there : item < t.items) (small : (i : ℕ) → get_or (row s t.at item) i 0 < 256) where
  -- one cell
  cell_own : (size column : ℕ) → column < t.columns → cell_size t.long t.words column ≡ size
      → signed_bytes size (delta s t.at item column) ≡ take size (drop (cell_at t.long t.words column) (row s t.at item))
  unfolding delta row_length
  cell_own size column k e =
      let q : t.row ≡ length_of_row t.long t.words t.columns = o.row ∙ rw (o.long, o.words, o.columns) in
      let a : cell_at t.long t.words column + (size - size) ≡ cell_at t.long t.words column = omega arith in
      let at = cell_at t.long t.words column in
      let c = row-cell s t.at item column (omega (arith, o.words, o.columns, o.order)) (omega (arith, o.columns)) in
      let d : signed_at size (row s t.at item) at ≡ cell s t.at item column = rw (← o.long, ← o.words, e) at c in
      let z : Size size = rw (← e) (cell_has_size t.long t.words column) in
      let n : at + size ≤ length (row s t.at item) = omega (arith, length-row o item there, q, cell_inside t.long t.words t.columns column o.order k) in
      let f = last_bytes size size (row s t.at item) at z (omega arith) small in
      rw (← o.items, lt-leb _ _ there, ← o.columns, lt-leb _ _ k, ← d, f, a) (read_written size (row s t.at item) at small n)

  -- n cells of one size from a place on
  cells_own : (size first place n : ℕ) → ((k : ℕ) → k < n → (first + k < t.columns) × (cell_size t.long t.words (first + k) ≡ size)
      × (cell_at t.long t.words (first + k) ≡ place + k * size))
      → flat (λ c. signed_bytes size (delta s t.at item c)) (tab (λ k. first + k) n) ≡ take (n * size) (drop place (row s t.at item))
  unfolding tab flat
  cells_own size first place zero h = rw zero-mul
  cells_own size first place (suc n) h =
      let l = h n (omega arith) in
      rw (flat_append, cells_own size first place n (λ k m. h k (omega arith)), append-nil, cell_own size (first + n) l.0 l.1, l.2, suc-mul, take-add, drop-drop)

-- where a column's cell stands, and its size
word_cell : (is_long : Bool) (words c : ℕ) → c < words → (cell_size is_long words c ≡ word_size is_long) × (cell_at is_long words c ≡ c * word_size is_long)
unfolding cell_size cell_at
word_cell is_long words c h = rw (lt-ltb c words h) (refl, refl)

rest_cell : (is_long : Bool) (words k : ℕ) → (cell_size is_long words (words + k) ≡ rest_size is_long) × (cell_at is_long words (words + k) ≡ words * word_size is_long + k * rest_size is_long)
unfolding cell_size cell_at
rest_cell is_long words k = rw (le-ltb (words + k) words (omega arith), add-sub_cancel_left) (refl, refl)

module _ {s : List ℕ} {t : Shape} {w : List ℕ} {p : Counts} (o : Opened s t) (h : KeptWhole t w p) where
  pub whole_row : t.row ≡ row_of p
  unfolding row_length length_of_row
  whole_row =
      let n : t.columns - t.words ≡ p.narrow = omega (arith, h.wide, h.all) in
      o.row ∙ rw (← o.long, ← o.words, ← o.columns, n, h.long, h.wide)

  own_columns : (first n : ℕ) → first + n ≤ t.columns → columns_from w p.wide first n ≡ tab (λ k. first + k) n
  unfolding columns_from
  own_columns first n l = tab_ext _ _ n (λ k m. h.own.each (first + k) (omega arith))

  module _ (item : ℕ) (there : item < t.items) (small : (i : ℕ) → get_or (row s t.at item) i 0 < 256) where
    wides_own : flat (λ c. signed_bytes (word_size p.long) (delta s t.at item c)) (tab (λ k. 0 + k) p.wide)
        ≡ take (p.wide * word_size p.long) (drop 0 (row s t.at item))
    wides_own = cells_own o item there small (word_size p.long) 0 0 p.wide each
      where
        each : (k : ℕ) → k < p.wide → (0 + k < t.columns) × (cell_size t.long t.words (0 + k) ≡ word_size p.long)
            × (cell_at t.long t.words (0 + k) ≡ 0 + k * word_size p.long)
        each k l =
            let e = word_cell t.long t.words k (omega (arith, h.wide)) in
            rw (zero-add, h.long, e.0, e.1) (omega (arith, h.all), refl, omega arith)

    narrows_own : flat (λ c. signed_bytes (rest_size p.long) (delta s t.at item c)) (tab (λ k. p.wide + k) p.narrow)
        ≡ take (p.narrow * rest_size p.long) (drop (p.wide * word_size p.long) (row s t.at item))
    narrows_own = cells_own o item there small (rest_size p.long) p.wide (p.wide * word_size p.long) p.narrow each
      where
        each : (k : ℕ) → k < p.narrow → (p.wide + k < t.columns) × (cell_size t.long t.words (p.wide + k) ≡ rest_size p.long)
            × (cell_at t.long t.words (p.wide + k) ≡ p.wide * word_size p.long + k * rest_size p.long)
        each k l =
            let e = rest_cell t.long t.words k in
            rw (h.long, h.wide, e.0, e.1) (omega (arith, h.all, h.wide), refl, refl)

    pub whole_written : row s t.at item ≡ row_bytes s t.at (plan_in w p) item
    unfolding row_bytes plan_in
    whole_written =
        let a = take-add (p.wide * word_size p.long) (p.narrow * rest_size p.long) (row s t.at item) in
        let l = take_all (row_of p) (row s t.at item) (omega (arith, length-row o item there, whole_row)) in
        rw (own_columns 0 p.wide (omega (arith, h.all)), own_columns p.wide p.narrow (omega (arith, h.all)), wides_own, narrows_own) (sym l ∙ a)

-- a row that was copied to the front of bytes holds bytes
small_take : (n : ℕ) (xs : List ℕ) → ((i : ℕ) → get_or xs i 0 < 256) → (i : ℕ) → get_or (take n xs) i 0 < 256
small_take zero xs h i = omega arith
small_take (suc n) [] h i = omega arith
small_take (suc n) (x ∷ xs) h zero = h 0
small_take (suc n) (x ∷ xs) h (suc i) = small_take n xs (λ j. h (suc j)) i

pub small_front : {r : List ℕ} (n : ℕ) (out : List ℕ) → ((i : ℕ) → get_or out i 0 < 256) → take n out ≡ r → (i : ℕ) → get_or r i 0 < 256
small_front n out h e i = rw (← e) (small_take n out h i)

-- A written subtable, read again: its counts, its region indexes and its deltas. For any plan whose deltas fit their cells.
-- s is the source, at the subtable's place in it, is the kept items, w the written bytes, to the place there.
use Prim.Native.Nat.{ℕ, ◌+◌, ◌*◌, ◌-◌, ◌/◌, ◌%◌, ◌^◌, ◌<◌, ◌≤◌}
use mathlib.Core.Path.{◌≡◌, ap, ◌∙◌}
use mathlib.Core.Bool.{Bool, true, false}
use mathlib.Core.List.{List, ◌++◌}
use native.Mathlib.Omega.{arith}
use native.Mathlib.Decide.{dec_lt}
use native.Mathlib.Nat.{zero-add, add-mod_left, mod-eq_of_lt, add_assoc}
use lib.ListN.{length, get_or, length-append, get_or-append}
use lib.Seq.{get_or-append-add}
use lib.Dec.{leb}
use lib.Signed.{mag}
use mir.Val.{of_z}
use mir.Syntax.{w32}
use borrow.Author.Tests.{lt-ltb, le-ltb, le-leb, lt-leb}
use Rattle.lists.specs.Pick.{pick}
use Rattle.lists.specs.Gather.{flat}
use Rattle.lists.proofs.Stands.{Stands, stands_at, stands_left, stands_right, stands_piece, length-flat}
use Rattle.cells.specs.Be.{be_bytes}
use Rattle.cells.specs.Sign.{signed_at, signed_bytes, Size}
use Rattle.opentype.specs.Subtable.{item_count, word_field, long, word_count, column_count, region_index, word_size, rest_size, length_of_row, row_length, rows_at, row_at, cell_at, cell_size, cell, delta}
use Rattle.rules.specs.Columns.{Plan, order}
use Rattle.rules.specs.Regions.{new_region}
use Rattle.rules.specs.Rewrite.{row_bytes, new_word_field, planned_bytes}
use Rattle.laws.specs.Lengths.{plan_length, length_cells, length-row}
use Rattle.laid.proofs.Cells.{length-be_bytes, be_back, signed_back}

-- The deltas of item i fit the cells that a plan gives them.
pub record Fits (s : List ℕ) (at : ℕ) (p : Plan) (i : ℕ) : Type 0 where
  pub wide : (c : ℕ) → c < length p.wide → mag (delta s at i (get_or p.wide c 0)) < 256 ^ word_size p.is_long / 2
  pub narrow : (c : ℕ) → c < length p.narrow → mag (delta s at i (get_or p.narrow c 0)) < 256 ^ rest_size p.is_long / 2

word_size_lem : (l : Bool) → Size (word_size l)
word_size_lem true = omega arith
word_size_lem false = omega arith

rest_size_lem : (l : Bool) → Size (rest_size l)
rest_size_lem true = omega arith
rest_size_lem false = omega arith

-- a cell among those of one size
cell_stands : {w : List ℕ} {r : ℕ} (s : List ℕ) (at i n : ℕ) (cs : List ℕ) (c : ℕ) → Size n → c < length cs → mag (delta s at i (get_or cs c 0)) < 256 ^ n / 2
    → Stands w r (flat (λ c. signed_bytes n (delta s at i c)) cs) → signed_at n w (r + c * n) ≡ delta s at i (get_or cs c 0)
cell_stands s at i n cs c size h fits st =
    signed_back n (delta s at i (get_or cs c 0)) size fits
    (stands_piece (λ c. signed_bytes n (delta s at i c)) 0 cs n c (λ k l. length-be_bytes n (of_z w32 (delta s at i (get_or cs k 0)))) st h)

-- the cell of a new column in a row
row-cell : {w : List ℕ} {r : ℕ} (s : List ℕ) (at : ℕ) (p : Plan) (i c : ℕ) → c < length (order p) → Fits s at p i → Stands w r (row_bytes s at p i)
    → signed_at (cell_size p.is_long (length p.wide) c) w (r + cell_at p.is_long (length p.wide) c) ≡ delta s at i (get_or (order p) c 0)
unfolding row_bytes cell_size cell_at
row-cell {w} {r} s at p i c h fits st =
    let wide = flat (λ c. signed_bytes (word_size p.is_long) (delta s at i c)) p.wide in
    let narrow = flat (λ c. signed_bytes (rest_size p.is_long) (delta s at i c)) p.narrow in
    let m = length p.wide in
    let t = length-append p.wide p.narrow in
    elim (dec_lt c m) [
      | yes l ↦ rw (lt-ltb c m l, get_or-append p.wide p.narrow 0 c l)
          (cell_stands s at i (word_size p.is_long) p.wide c (word_size_lem p.is_long) l (fits.wide c l) (stands_left wide narrow st))
      | no l ↦ (let g : m ≤ c = omega arith in
          let d : c - m < length p.narrow = omega arith in
          let e : get_or (order p) c 0 ≡ get_or p.narrow (c - m) 0
          = ap (λ (k : ℕ). get_or (order p) k 0) (omega arith) ∙ get_or-append-add p.wide p.narrow (c - m) 0 in
          rw (le-ltb c m g, e, ← add_assoc r (m * word_size p.is_long) ((c - m) * rest_size p.is_long), ← length_cells s at i (word_size p.is_long) p.wide)
          (cell_stands s at i (rest_size p.is_long) p.narrow (c - m) (rest_size_lem p.is_long) d (fits.narrow (c - m) d) (stands_right wide narrow st)))
    ]

-- the word field gives back the flag and the count
word_field_lem : (l : Bool) (n : ℕ) → n < 0x8000 → (leb 0x8000 (pick l 0x8000 0 + n) ≡ l) × ((pick l 0x8000 0 + n) % 0x8000 ≡ n) × (pick l 0x8000 0 + n < 256 ^ 2)
word_field_lem true n h = (le-leb 0x8000 (0x8000 + n) (omega arith), add-mod_left 0x8000 n ∙ mod-eq_of_lt h, omega arith)
word_field_lem false n h = rw (zero-add n) (lt-leb 0x8000 n h, mod-eq_of_lt h, omega arith)

-- the delta of an item and a column that are there, by the row's place r
delta_there : {l : Bool} {n m items r : ℕ} (w : List ℕ) (to j c : ℕ) → item_count w to ≡ items → j < items → column_count w to ≡ n → c < n
    → long w to ≡ l → word_count w to ≡ m → row_at w to j ≡ r → delta w to j c ≡ signed_at (cell_size l m c) w (r + cell_at l m c)
unfolding delta cell
delta_there {n = n} {items = items} w to j c e h f g is_long words place = rw (e, lt-leb items j h, f, lt-leb n c g, is_long, words, place)

-- What is read of a subtable that stands at the place to of w.
pub record LaidSubtable (s : List ℕ) (at : ℕ) (used is : List ℕ) (p : Plan) (w : List ℕ) (to : ℕ) : Type 0 where
  pub head : to + 6 ≤ length w
  pub items : item_count w to ≡ length is
  pub words : word_count w to ≡ length p.wide
  pub columns : column_count w to ≡ length (order p)
  pub rows : row_length w to ≡ plan_length p
  pub inside : rows_at w to + item_count w to * row_length w to ≤ length w
  pub indexes : (c : ℕ) → c < length (order p) → region_index w to c ≡ new_region used (region_index s at (get_or (order p) c 0))
  pub deltas : (j c : ℕ) → j < length is → c < length (order p) → delta w to j c ≡ delta s at (get_or is j 0) (get_or (order p) c 0)

pub laid_subtable : {w : List ℕ} {to : ℕ} (s : List ℕ) (at : ℕ) (used is : List ℕ) (p : Plan)
    → length is < 256 ^ 2 → length (order p) < 0x8000
    → ((c : ℕ) → c < length (order p) → new_region used (region_index s at (get_or (order p) c 0)) < 256 ^ 2)
    → ((j : ℕ) → j < length is → Fits s at p (get_or is j 0))
    → Stands w to (planned_bytes s at used is p) → LaidSubtable s at used is p w to
unfolding planned_bytes new_word_field item_count word_field long word_count column_count region_index length_of_row row_length rows_at row_at
laid_subtable {w} {to} s at used is p few narrow small fits st =
    let n = length (order p) in
    let m = length p.wide in
    let len = plan_length p in
    let a = be_bytes 2 (length is) in
    let b = be_bytes 2 (new_word_field p) in
    let c = be_bytes 2 n in
    let index : ℕ → List ℕ = λ c. be_bytes 2 (new_region used (region_index s at c)) in
    let row : ℕ → List ℕ = λ i. row_bytes s at p i in
    let t = length-append p.wide p.narrow in
    let field = word_field_lem p.is_long m (omega arith) in
    let s1 = stands_left (a ++ b ++ c ++ flat index (order p)) (flat row is) st in
    let s2 = stands_left (a ++ b ++ c) (flat index (order p)) s1 in
    let s3 = stands_left (a ++ b) c s2 in
    let sizes : (k : ℕ) → k < n → length (index (get_or (order p) k 0)) ≡ 2 = λ k h. length-be_bytes 2 (new_region used (region_index s at (get_or (order p) k 0))) in
    let indexes : Stands w (to + 6) (flat index (order p)) = stands_at (simp (length-append, length-be_bytes)) (stands_right (a ++ b ++ c) (flat index (order p)) s1) in
    let rows : Stands w (to + 6 + 2 * n) (flat row is)
    = stands_at (simp (length-append, length-be_bytes, length-flat index 0 (order p) 2 sizes) (omega arith)) (stands_right (a ++ b ++ c ++ flat index (order p)) (flat row is) st) in
    let items : item_count w to ≡ length is = be_back 2 (length is) few (stands_left a b s3) in
    let word : word_field w to ≡ pick p.is_long 0x8000 0 + m = be_back 2 (new_word_field p) field.2 (stands_at (rw length-be_bytes) (stands_right a b s3)) in
    let columns : column_count w to ≡ n = be_back 2 n (omega arith) (stands_at (simp (length-append, length-be_bytes)) (stands_right (a ++ b) c s2)) in
    let is_long : long w to ≡ p.is_long = rw word field.0 in
    let words : word_count w to ≡ m = rw word field.1 in
    let d : n - m ≡ length p.narrow = omega arith in
    let row_len : row_length w to ≡ len = rw (is_long, words, columns, d) in
    let total = length-flat row 0 is len (λ k h. length-row s at p (get_or is k 0)) in
    record {
      head = omega (arith, indexes.inside);
      items = items;
      words = words;
      columns = columns;
      rows = row_len;
      inside = rw (items, row_len, columns) (omega (arith, rows.inside));
      indexes = λ k h. be_back 2 _ (small k h) (stands_at (omega arith) (stands_piece index 0 (order p) 2 k sizes indexes h));
      deltas = λ j k h l.
          delta_there w to j k items h columns l is_long words (rw (row_len, columns))
          ∙ row-cell s at p (get_or is j 0) k l (fits j h) (stands_piece row 0 is len j (λ i g. length-row s at p (get_or is i 0)) rows h);
    }

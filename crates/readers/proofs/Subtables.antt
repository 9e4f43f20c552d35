-- Laws of an opened subtable.
use Prim.Native.Nat.{ℕ, ◌+◌, ◌*◌, ◌%◌, ◌<◌, ◌≤◌}
use mathlib.Core.Path.{◌≡◌, refl, ap, ◌∙◌}
use mathlib.Core.Bool.{Bool, true, false, false≢true}
use mathlib.Core.List.{List}
use native.Mathlib.Omega.{arith}
use borrow.Author.Tests.{le-leb, lt-leb, ne_eqb}
use lib.ListN.{length}
use lib.Dec.{leb}
use lib.IntN.{ℤ, pos}
use Rattle.cells.specs.Be.{Cell}
use Rattle.cells.specs.Sign.{signed_at}
use Rattle.opentype.specs.Subtable.{item_count, word_field, word_count, column_count, length_of_row, row_length, rows_at, row_at}
use Rattle.opentype.specs.Subtable.{long as is_long, cell_at, cell_size, cell, delta}
use Rattle.opentype.specs.Store.{subtable_count, subtable_at}
use Rattle.rules.specs.Open.{bad_store, absent_subtable, bad_subtable}
use Rattle.rules.specs.declared.Refusal.TheVariants.{AbsentSubtable, BadSubtable}
use Rattle.rules.specs.declared.Refusal.{Refusal}
use Rattle.lists.specs.Pick.{pick}
use Rattle.laws.specs.Inside.{store_inside, subtable_inside}
use Rattle.laws.specs.Usable.{in_array}
use Rattle.laws.specs.Rows.{row_inside, row_short, cell_inside}
use Rattle.readers.specs.declared.subtable.Shape.{Shape}
use Rattle.readers.specs.Opened.{Opened}
use Rattle.readers.specs.Opening.{Whole, Usable, Unusable}

-- the fields of a subtable that 6 lets through
module _ (s : List ℕ) (at : ℕ) (good : bad_subtable s at ≡ false) where
  pub head_inside : at + 6 ≤ length s
  head_inside = (subtable_inside s at good).head

  module _ {field columns : ℕ} (f : Cell 2 s (at + 2) field) (c : Cell 2 s (at + 4) columns) where
    pub columns_few : (field % 0x8000 ≤ columns) × (columns ≤ 4096)
    unfolding word_count word_field column_count
    columns_few = rw (f.is, c.is) ((subtable_inside s at good).order, (subtable_inside s at good).few)

    pub whole : {items row : ℕ} → Cell 2 s at items → row ≡ length_of_row (leb 0x8000 field) (field % 0x8000) columns
        → Whole s at (record { at = at; items = items; words = field % 0x8000; columns = columns; long = leb 0x8000 field; row = row; rows = at + 6 + 2 * columns })
    unfolding item_count word_field word_count column_count is_long row_length rows_at
    whole {items} {row} i r =
        let n : at + 6 + 2 * columns + items * row ≤ length s = rw (r, f.is, c.is, i.is) (subtable_inside s at good).inside in
        let b = row_short (leb 0x8000 field) (field % 0x8000) columns columns_few.0 in
        record {
          good = good;
          place = refl;
          opened = record {
            items = i.is;
            words = rw (← f.is);
            columns = c.is;
            long = rw (← f.is);
            row = rw (← f.is, ← c.is) r;
            rows = rw (← c.is);
            order = columns_few.0;
            few = columns_few.1;
            many = omega (arith, i.small);
            short = omega (arith, columns_few.1);
            head = omega arith;
            inside = n;
          };
        }

-- the offset of an outer that is in the array lies inside
pub offset_inside : (s : List ℕ) (o : ℕ) → bad_store s ≡ false → absent_subtable s o ≡ false → 8 + 4 * o + 4 ≤ length s
offset_inside s o b a = omega (arith, (store_inside s b).inside, in_array s o a)

-- an outer whose offset is r, in a store of n subtables
pub absent_past : (s : List ℕ) (o : ℕ) {n : ℕ} → n ≡ subtable_count s → n ≤ o → Unusable s o AbsentSubtable
unfolding absent_subtable
absent_past s o e h = record { is = rw (← e, le-leb _ _ h); why = rw (← e, le-leb _ _ h) }

pub absent_zero : (s : List ℕ) (o : ℕ) {n r : ℕ} → n ≡ subtable_count s → o < n → r ≡ subtable_at s o → r ≡ 0
    → Unusable s o AbsentSubtable
unfolding absent_subtable
absent_zero s o e h f z = record { is = rw (← e, lt-leb _ _ h, ← f, z); why = rw (← e, lt-leb _ _ h, ← f, z) }

module _ (s : List ℕ) (o : ℕ) {n r : ℕ} (e : n ≡ subtable_count s) (h : o < n) (f : r ≡ subtable_at s o) (z : r ≡ 0 → ⊥) where
  pub bad_there : bad_subtable s r ≡ true → Unusable s o BadSubtable
  unfolding absent_subtable
  bad_there b = record { is = rw (← e, lt-leb _ _ h, ← f, ne_eqb r 0 z); why = rw (← e, lt-leb _ _ h, ← f, ne_eqb r 0 z) b }

  pub usable_there : {t : Shape} → Whole s r t → Usable s o t
  unfolding absent_subtable
  usable_there w = record { there = rw (← e, lt-leb _ _ h, ← f, ne_eqb r 0 z); whole = rw (← f) w }

-- the opening's answer is that of the chain 5, 6: whatever a call makes of a refusal, and goes on to
pub unusable_is : {A : Type 0} {s : List ℕ} {o : ℕ} {r : Refusal} → Unusable s o r → (refuse : Refusal → A) (next : A)
    → refuse r ≡ pick (absent_subtable s o) (refuse AbsentSubtable) (pick (bad_subtable s (subtable_at s o)) (refuse BadSubtable) next)
unusable_is {A} {s} {o} {r} u refuse next = one (absent_subtable s o) (bad_subtable s (subtable_at s o)) u.is u.why
  where
    one : (a b : Bool) → r ≡ pick a AbsentSubtable BadSubtable → pick a true b ≡ true
        → refuse r ≡ pick a (refuse AbsentSubtable) (pick b (refuse BadSubtable) next)
    one true b e w = ap refuse e
    one false true e w = ap refuse e
    one false false e w = absurd (false≢true w)

pub usable_is : {A : Type 0} {s : List ℕ} {o : ℕ} {t : Shape} → Usable s o t → (absent bad next : A)
    → next ≡ pick (absent_subtable s o) absent (pick (bad_subtable s (subtable_at s o)) bad next)
usable_is u absent bad next = rw (u.there, u.whole.good)

module _ {s : List ℕ} {t : Shape} (o : Opened s t) where
  -- a cell of a row that is there ends inside the store
  pub cell_ends : (item column : ℕ) → item < t.items → column < t.columns
      → t.rows + item * t.row + cell_at t.long t.words column + cell_size t.long t.words column ≤ length s
  unfolding row_length
  cell_ends item column h k =
      let e : t.row ≡ length_of_row t.long t.words t.columns = o.row ∙ rw (o.long, o.words, o.columns) in
      omega (arith, row_inside item t.items t.row h, cell_inside t.long t.words t.columns column o.order k)

  pub delta_there : (item column : ℕ) {z : ℤ} → item < t.items → column < t.columns
      → z ≡ signed_at (cell_size t.long t.words column) s (t.rows + item * t.row + cell_at t.long t.words column)
      → z ≡ delta s t.at item column
  unfolding delta cell row_at
  delta_there item column h k e =
      rw (← o.items, ← o.columns, ← o.long, ← o.words, ← o.rows, ← o.row, lt-leb _ _ h, lt-leb _ _ k) e

  pub delta_no_item : (item column : ℕ) → t.items ≤ item → pos 0 ≡ delta s t.at item column
  unfolding delta
  delta_no_item item column h = rw (← o.items, le-leb _ _ h)

  pub delta_no_column : (item column : ℕ) → item < t.items → t.columns ≤ column → pos 0 ≡ delta s t.at item column
  unfolding delta
  delta_no_column item column h k = rw (← o.items, ← o.columns, lt-leb _ _ h, le-leb _ _ k)

-- a row ends inside
pub row_ends : {s : List ℕ} {t : Shape} → Opened s t → (item : ℕ) → item < t.items → t.rows + item * t.row + t.row ≤ length s
row_ends {t = t} o item h = omega (arith, row_inside item t.items t.row h, o.inside)

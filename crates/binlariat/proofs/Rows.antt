-- A row as a place and a length.
use Prim.Native.Nat.{ℕ, ◌+◌, ◌*◌, ◌-◌, ◌<◌}
use mathlib.Core.Path.{◌≡◌, sym, ◌∙◌}
use mathlib.Core.Bool.{false}
use mathlib.Core.List.{List, []}
use native.Mathlib.Omega.{arith}
use native.Mathlib.Nat.{add-sub_cancel_left}
use borrow.Author.Tests.{ne_eqb}
use lib.ListN.{length, take, drop, length-take, length-drop}
use Rattle.opentype.specs.Subtable.{row_at}
use Rattle.rules.specs.Open.{bad_store}
use Rattle.rules.specs.Readers.{row_of}
use Rattle.readers.specs.declared.subtable.Shape.{Shape}
use Rattle.readers.specs.Opening.{Usable}
use Rattle.readers.proofs.Answers.{row_ends, row_found, parts}
use Rattle.binlariat.specs.Exported.{RowGiven}

module _ (s : List ℕ) (o i : ℕ) where
  -- an empty row stands at 0
  pub no_row_lem : {n : ℕ} → record { number = n; part = [] } ≡ row_of s o i → RowGiven s o i n 0 0
  no_row_lem e = let q = parts e in record { numbers = q.0; lengths = rw (← q.1); starts = rw (← q.1) }

  row-long : {t : Shape} → Usable s o t → i < t.items
      → length (take (t.rows + i * t.row + t.row - (t.rows + i * t.row)) (drop (t.rows + i * t.row) s)) ≡ t.row
  row-long {t} u h =
      let f = row_ends u h in simp (add-sub_cancel_left, length-take, length-drop) (omega arith)

  pub row_short : {t : Shape} → bad_store s ≡ false → Usable s o t → i < t.items → t.row ≡ 0 → RowGiven s o i 0 0 0
  row_short b u h z =
      let q = parts (sym (row_found s o i b u h)) in
      let l = row-long u h ∙ z in
      record { numbers = q.0; lengths = rw (← q.1, l); starts = rw (← q.1, l) }

  pub row_placed : {t : Shape} → bad_store s ≡ false → Usable s o t → i < t.items → (t.row ≡ 0 → ⊥)
      → RowGiven s o i 0 (t.rows + i * t.row) t.row
  unfolding row_at
  row_placed {t} b u h z =
      let q = parts (sym (row_found s o i b u h)) in
      let w = u.whole.opened in
      record {
        numbers = q.0;
        lengths = rw (← q.1) (sym (row-long u h));
        starts = rw (← q.1, row-long u h, ne_eqb t.row 0 z, ← u.whole.place, ← w.rows, ← w.row);
      }

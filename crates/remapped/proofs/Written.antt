-- A written table, read again: every map that counts is there, and names for each listed glyph the row that its pair went to.
use Prim.Native.Nat.{ℕ, ◌<◌, ◌≤◌}
use mathlib.Core.Path.{◌≡◌, ap, ◌∙◌}
use mathlib.Core.Bool.{true, false}
use mathlib.Core.List.{List, []}
use native.Mathlib.Omega.{arith}
use native.Mathlib.Nat.{mul-le-mul, mul-le-mul_right}
use lib.ListN.{length, get_or}
use lib.Dec.{eqb}
use borrow.Author.Tests.{not-true, eqb-false}
use Rattle.lists.specs.Pick.{differ, differ_yes}
use Rattle.lists.specs.Gather.{tab}
use Rattle.lists.proofs.Pieces.{length-tab}
use Rattle.lists.proofs.Choices.{decided, both_of}
use Rattle.lists.proofs.Each.{both_hold}
use Rattle.lists.proofs.Stands.{Stands}
use Rattle.lists.proofs.Gathered.{flat_tab_short}
use Rattle.lists.proofs.Tabs.{get_d_tab}
use Rattle.opentype.specs.Table.{header_length, store_at, map_at, store_of}
use Rattle.opentype.specs.Map.{outer_of, inner_of}
use Rattle.rules.specs.Lists.{Run, runs, new_id, old_id}
use Rattle.rules.specs.Open.{bad_header}
use Rattle.rules.specs.Numbering.{present, counts, pair_of, kept_pairs, new_outer, new_inner}
use Rattle.rules.specs.Maps.{is_written, map_plan, planned_map, map_bytes}
use Rattle.demands.specs.Reading.{Bytes}
use Rattle.laws.specs.Packed.{Packed, all_kept, packed, map-length}
use Rattle.laid.proofs.Map.{LaidMap, laid_map, map_glyph}
use Rattle.laid.proofs.Table.{LaidTable, laid_table}
use Rattle.remapped.proofs.Cut.{Cut}
use Rattle.remapped.proofs.Short.{room_left}

-- Map m of the written table u, read at its offset; and the numbers that each listed glyph has there.
pub record ReadMap (t : List ℕ) (rs : List Run) (es u : List ℕ) (m : ℕ) : Type 0 where
  pub there : present u m ≡ true
  pub laid : LaidMap t rs es m (map_plan t rs es m) u (map_at u m)
  pub outers : (n : ℕ) → n < length es → outer_of u (map_at u m) (new_id (get_or es n 0)) ≡ new_outer rs (pair_of t m (old_id (get_or es n 0)))
  pub inners : (n : ℕ) → n < length es → inner_of u (map_at u m) (new_id (get_or es n 0)) ≡ new_inner rs (pair_of t m (old_id (get_or es n 0)))

pub record ReadTable (maps : ℕ) (t es u st : List ℕ) : Type 0 where
  pub header : bad_header maps u ≡ false
  pub store : store_at u ≡ 0 → ⊥
  pub stands : Stands (store_of u) 0 st
  pub map : (m : ℕ) → m < maps → counts t m ≡ true → 0 < length es → ReadMap t (runs (kept_pairs maps t es)) es u m
  pub absent : (m : ℕ) → m < maps → counts t m ≡ false → present u m ≡ false

module _ (maps : ℕ) (t es u : List ℕ) (few : 0 < maps) (most : maps ≤ 4) (bytes : Bytes t) (done : Cut maps t es u) where
  abbrev rows : List Run
  rows = runs (kept_pairs maps t es)

  fits : (m : ℕ) → m < maps → counts t m ≡ true → 0 < length es → Packed t rows es m (map_plan t rows es m)
  fits m h c l = packed (all_kept maps t es m few most done.glyphs h c) bytes.byte done.glyphs l (done.maps_good m h)

  is_written_lem : (m : ℕ) → is_written t es m ≡ true → (counts t m ≡ true) × (0 < length es)
  unfolding is_written
  is_written_lem m e =
      let p = both_hold (counts t m) (differ (length es) 0) e in
      let n = eqb-false (length es) 0 (not-true (eqb (length es) 0) p.1) in
      (p.0, omega arith)

  map_short : (m : ℕ) → m < maps → length (map_bytes t rows es m) ≤ 262144
  unfolding map_bytes
  map_short m h = decided (is_written t es m) (λ e. there e) (λ e. rw e (omega arith))
    where
      there : is_written t es m ≡ true → length (map_bytes t rows es m) ≤ 262144
      there e =
          let w = is_written_lem m e in
          let size = mul-le-mul (fits m h w.0 w.1).few_entries (done.narrow m h e) in
          rw (e, map-length t rows es m (map_plan t rows es m)) (omega arith)

  part : (m : ℕ) → m < maps → get_or (tab (λ k. map_bytes t rows es k) maps) m [] ≡ map_bytes t rows es m
  part m h = get_d_tab (λ k. map_bytes t rows es k) [] maps m h

  table : LaidTable maps done.store (tab (λ m. map_bytes t rows es m) maps) u
  unfolding header_length
  table =
      let short = room_left maps t es u few most bytes done in
      let all = flat_tab_short (λ m. map_bytes t rows es m) 262144 maps (λ m h. map_short m h) in
      let room = mul-le-mul_right 262144 most in
      rw done.is (laid_table maps t done.store (tab (λ m. map_bytes t rows es m) maps) done.header (length-tab _ maps) (omega arith))

  map_read : (m : ℕ) → m < maps → counts t m ≡ true → 0 < length es → ReadMap t rows es u m
  unfolding map_bytes is_written
  map_read m h c l =
      let p = map_plan t rows es m in
      let w : is_written t es m ≡ true = both_of (counts t m) (differ (length es) 0) c (differ_yes (length es) 0 (λ e. omega arith)) in
      let is : get_or (tab (λ k. map_bytes t rows es k) maps) m [] ≡ planned_map t rows es m p = part m h ∙ rw w in
      let at = table.map m h (rw (is, map-length t rows es m p) (omega arith)) in
      let own = fits m h c l in
      let laid = laid_map t rows es m p own (done.narrow m h w) (rw is at at.1) in
      record {
        there = at.0;
        laid = laid;
        outers = λ n k. (map_glyph t rows es m done.glyphs own laid n k).0;
        inners = λ n k. (map_glyph t rows es m done.glyphs own laid n k).1;
      }

  pub table_read : ReadTable maps t es u done.store
  unfolding map_bytes is_written
  table_read =
      let laid = table in
      record {
        header = laid.header;
        store = laid.there;
        stands = laid.store;
        map = map_read;
        absent = λ m h c. laid.absent m h (ap (λ (xs : List ℕ). length xs) (part m h) ∙ rw c);
      }

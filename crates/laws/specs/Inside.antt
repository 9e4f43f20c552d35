-- What rows 3, 4, 6, 11 and 12 let through lies inside the bytes.
use Rattle.std.specs.Prelude.{ℕ, ◌+◌, ◌*◌, ◌≤◌, ◌≡◌, false, List, length, ltb, eqb}
use Rattle.std.proofs.Common.{arith, ltb-false, eqb-true}
use Rattle.std.proofs.lemmas.Bool.{eqb-false, not-false}
use Rattle.lists.specs.Pick.{differ}
use Rattle.lists.proofs.Chains.{none}
use Rattle.opentype.specs.Store.{store_format, regions_at, subtable_count, region_count, record_length}
use Rattle.opentype.specs.Subtable.{item_count, word_count, column_count, row_length, rows_at}
use Rattle.opentype.specs.Map.{map_format, inner_bits, entry_bytes, map_head, map_count}
use Rattle.opentype.specs.Table.{major_version, header_length}
use Rattle.rules.specs.Open.{bad_store, bad_regions, bad_subtable, bad_header, bad_map}

same : (m n : ℕ) → differ m n ≡ false → m ≡ n
same m n e = eqb-true m n (not-false (eqb m n) e)

-- 3
pub record StoreInside (s : List ℕ) : Type 0 where
  pub head : 8 ≤ length s
  pub format : store_format s ≡ 1
  pub few : subtable_count s ≤ 256
  pub inside : 8 + 4 * subtable_count s ≤ length s

pub store_inside : (s : List ℕ) → bad_store s ≡ false → StoreInside s
unfolding bad_store
store_inside s e =
    let a = none (ltb (length s) 8) _ e in
    let b = none (differ (store_format s) 1) _ a.1 in
    let c = none (ltb 256 (subtable_count s)) _ b.1 in
    record { head = ltb-false _ _ a.0; format = same _ _ b.0; few = ltb-false _ _ c.0; inside = ltb-false _ _ c.1 }

-- 4
pub record RegionsInside (s : List ℕ) : Type 0 where
  pub head : regions_at s + 4 ≤ length s
  pub few : region_count s ≤ 4096
  pub inside : regions_at s + 4 + region_count s * record_length s ≤ length s

pub regions_inside : (s : List ℕ) → bad_regions s ≡ false → RegionsInside s
unfolding bad_regions
regions_inside s e =
    let a = none (ltb (length s) (regions_at s + 4)) _ e in
    let b = none (ltb 4096 (region_count s)) _ a.1 in
    record { head = ltb-false _ _ a.0; few = ltb-false _ _ b.0; inside = ltb-false _ _ b.1 }

-- 6
pub record SubtableInside (s : List ℕ) (at : ℕ) : Type 0 where
  pub head : at + 6 ≤ length s
  pub order : word_count s at ≤ column_count s at
  pub few : column_count s at ≤ 4096
  pub inside : rows_at s at + item_count s at * row_length s at ≤ length s

pub subtable_inside : (s : List ℕ) (at : ℕ) → bad_subtable s at ≡ false → SubtableInside s at
unfolding bad_subtable
subtable_inside s at e =
    let a = none (ltb (length s) (at + 6)) _ e in
    let b = none (ltb (column_count s at) (word_count s at)) _ a.1 in
    let c = none (ltb 4096 (column_count s at)) _ b.1 in
    record { head = ltb-false _ _ a.0; order = ltb-false _ _ b.0; few = ltb-false _ _ c.0; inside = ltb-false _ _ c.1 }

-- 11
pub record HeaderInside (maps : ℕ) (t : List ℕ) : Type 0 where
  pub head : 8 + 4 * maps ≤ length t
  pub major : major_version t ≡ 1

pub header_inside : (maps : ℕ) (t : List ℕ) → bad_header maps t ≡ false → HeaderInside maps t
unfolding bad_header header_length
header_inside maps t e =
    let a = none (ltb (length t) (8 + 4 * maps)) _ e in record { head = ltb-false _ _ a.0; major = same _ _ a.1 }

-- 12
pub record MapInside (t : List ℕ) (at : ℕ) : Type 0 where
  pub head : at + 2 ≤ length t
  pub format : map_format t at ≤ 1
  pub bits : inner_bits t at ≤ 8 * entry_bytes t at
  pub entries : at + map_head t at ≤ length t
  pub some : 1 ≤ map_count t at
  pub inside : at + map_head t at + map_count t at * entry_bytes t at ≤ length t

pub map_inside : (t : List ℕ) (at : ℕ) → bad_map t at ≡ false → MapInside t at
unfolding bad_map
map_inside t at e =
    let a = none (ltb (length t) (at + 2)) _ e in
    let b = none (ltb 1 (map_format t at)) _ a.1 in
    let c = none (ltb (8 * entry_bytes t at) (inner_bits t at)) _ b.1 in
    let d = none (ltb (length t) (at + map_head t at)) _ c.1 in
    let f = none (eqb (map_count t at) 0) _ d.1 in
    let z = eqb-false (map_count t at) 0 f.0 in
    record {
      head = ltb-false _ _ a.0;
      format = ltb-false _ _ b.0;
      bits = ltb-false _ _ c.0;
      entries = ltb-false _ _ d.0;
      some = omega (arith, z);
      inside = ltb-false _ _ f.1;
    }

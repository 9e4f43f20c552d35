-- A laid store, read again: its header, and where its objects stand. For any region list and any subtables whose sizes fit.
use Prim.Native.Nat.{ℕ, zero, suc, ◌+◌, ◌*◌, ◌^◌, ◌<◌, ◌≤◌}
use mathlib.Core.Path.{◌≡◌, refl, sym}
use mathlib.Core.List.{List, [], ◌∷◌, ◌++◌}
use native.Mathlib.Omega.{arith}
use native.Mathlib.Nat.{zero-add, not-suc-le-zero}
use lib.ListN.{length, get_or, length-append}
use Rattle.lists.specs.Gather.{flat}
use Rattle.lists.proofs.Stands.{Stands, stands_at, stands_left, stands_right}
use Rattle.cells.specs.Be.{be, be_bytes}
use Rattle.opentype.specs.Store.{store_format, regions_at, subtable_count, subtable_at}
use Rattle.rules.specs.StoreCut.{offsets, lay_store}
use Rattle.laid.proofs.Cells.{length-be_bytes, be_back}

pub length-offsets : (at : ℕ) (parts : List (List ℕ)) → length (offsets at parts) ≡ 4 * length parts
unfolding offsets
length-offsets at [] = refl
length-offsets at (part ∷ parts) = rw (length-append, length-be_bytes, length-offsets (at + length part) parts) (omega arith)

pub length-lay_store : (region_list : List ℕ) (parts : List (List ℕ))
    → length (lay_store region_list parts) ≡ 8 + 4 * length parts + length region_list + length (flat (λ part. part) parts)
unfolding lay_store
length-lay_store region_list parts = simp (length-append, length-be_bytes, length-offsets) (omega arith)

-- Parts laid one after the other from a place, and their offsets laid elsewhere: offset k names the place of part k.
pub record Part (w : List ℕ) (cell from to : ℕ) (part : List ℕ) : Type 0 where
  pub place : ℕ
  pub offset : Stands w cell (be_bytes 4 place)
  pub stands : Stands w place part
  pub from_on : from ≤ place
  pub up_to : place + length part ≤ to

part_stands : {w : List ℕ} (cell from : ℕ) (parts : List (List ℕ)) (k : ℕ) → k < length parts
    → Stands w cell (offsets from parts) → Stands w from (flat (λ part. part) parts)
    → Part w (cell + 4 * k) from (from + length (flat (λ part. part) parts)) (get_or parts k [])
unfolding offsets flat
part_stands cell from [] k h o s = absurd (not-suc-le-zero h)
part_stands cell from (part ∷ parts) zero h o s =
    let n = length-append part (flat (λ part. part) parts) in
    let e : cell + 4 * 0 ≡ cell = omega arith in
    record {
      place = from;
      offset = rw e (stands_left (be_bytes 4 from) (offsets (from + length part) parts) o);
      stands = stands_left part (flat (λ part. part) parts) s;
      from_on = omega arith;
      up_to = omega arith;
    }
part_stands {w} cell from (part ∷ parts) (suc k) h o s =
    let n = length-append part (flat (λ part. part) parts) in
    let b = length-be_bytes 4 from in
    let i = part_stands (cell + length (be_bytes 4 from)) (from + length part) parts k (omega arith)
    (stands_right (be_bytes 4 from) (offsets (from + length part) parts) o) (stands_right part (flat (λ part. part) parts) s) in
    let e : cell + 4 * suc k ≡ cell + length (be_bytes 4 from) + 4 * k = omega arith in
    record {
      place = i.place;
      offset = rw e i.offset;
      stands = i.stands;
      from_on = omega (arith, i.from_on);
      up_to = omega (arith, i.up_to);
    }

-- the offset fits its cell, so the part stands where the cell says
part_read : {w : List ℕ} {cell from to : ℕ} {part : List ℕ} → Part w cell from to part → to < 256 ^ 4 → Stands w (be 4 w cell) part × (from ≤ be 4 w cell)
part_read {w} {cell} p h =
    let e : be 4 w cell ≡ p.place = be_back 4 p.place (omega (arith, p.up_to)) p.offset in
    (rw e p.stands, rw e p.from_on)

-- What is read of a store that stands at the start of w.
pub record LaidStore (w region_list : List ℕ) (parts : List (List ℕ)) : Type 0 where
  pub format : store_format w ≡ 1
  pub count : subtable_count w ≡ length parts
  pub array : 8 + 4 * length parts ≤ length w
  pub list : regions_at w ≡ 0 → ⊥
  pub regions : Stands w (regions_at w) region_list
  pub subtable : (k : ℕ) → k < length parts → Stands w (subtable_at w k) (get_or parts k [])
  pub behind : (k : ℕ) → k < length parts → 8 ≤ subtable_at w k

pub laid_store : {w : List ℕ} (region_list : List ℕ) (parts : List (List ℕ)) → length parts < 256 ^ 2 → length (lay_store region_list parts) < 256 ^ 4
    → Stands w 0 (lay_store region_list parts) → LaidStore w region_list parts
unfolding lay_store store_format subtable_count regions_at subtable_at
laid_store {w} region_list parts few small s =
    let n = length parts in
    let head = 8 + 4 * n in
    let format = be_bytes 2 1 in
    let regions = be_bytes 4 head in
    let count = be_bytes 2 n in
    let array = offsets (head + length region_list) parts in
    let all = flat (λ part. part) parts in
    let total : 8 + 4 * n + length region_list + length all < 256 ^ 4 = rw (← length-lay_store region_list parts) small in
    let s1 = stands_left (format ++ regions ++ count ++ array ++ region_list) all s in
    let s2 = stands_left (format ++ regions ++ count ++ array) region_list s1 in
    let s3 = stands_left (format ++ regions ++ count) array s2 in
    let at4 : 0 + length (format ++ regions ++ count) ≡ 8 = simp (length-append, length-be_bytes) in
    let at5 : 0 + length (format ++ regions ++ count ++ array) ≡ head = simp (length-append, length-be_bytes, length-offsets, zero-add) in
    let at6 : 0 + length (format ++ regions ++ count ++ array ++ region_list) ≡ head + length region_list
    = simp (length-append, length-be_bytes, length-offsets, zero-add) in
    let offset : (k : ℕ) → k < n → Part w (8 + 4 * k) (head + length region_list) (head + length region_list + length all) (get_or parts k [])
    = λ k h. part_stands 8 (head + length region_list) parts k h
    (stands_at at4 (stands_right (format ++ regions ++ count) array s2))
    (stands_at at6 (stands_right (format ++ regions ++ count ++ array ++ region_list) all s)) in
    let list : be 4 w 2 ≡ head = be_back 4 head (omega arith) (stands_at (rw length-be_bytes) (stands_right format regions (stands_left (format ++ regions) count s3))) in
    record {
      format = be_back 2 1 (omega arith) (stands_left format regions (stands_left (format ++ regions) count s3));
      count = be_back 2 n few (stands_at (simp (length-append, length-be_bytes)) (stands_right (format ++ regions) count s3));
      array = omega (arith, s2.inside, at5);
      list = λ e. omega (arith, list, e);
      regions = stands_at (sym list) (stands_at at5 (stands_right (format ++ regions ++ count ++ array) region_list s1));
      subtable = λ k h. (part_read (offset k h) (omega arith)).0;
      behind = λ k h. let p = (part_read (offset k h) (omega arith)).1 in omega arith;
    }

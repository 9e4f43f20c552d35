-- A laid table, read again: its header, where its store stands, and where its maps stand. For any store and any maps whose sizes fit.
use Prim.Native.Nat.{ℕ, zero, suc, ◌+◌, ◌*◌, ◌^◌, ◌<◌, ◌≤◌}
use mathlib.Core.Path.{◌≡◌, refl, sym, ap, ◌∙◌}
use mathlib.Core.Bool.{true, false}
use mathlib.Core.List.{List, [], ◌∷◌, ◌++◌}
use native.Mathlib.Omega.{arith}
use native.Mathlib.Nat.{zero-add, not-suc-le-zero}
use lib.ListN.{length, get_or, take, length-append}
use lib.Seq.{length-take-le}
use lib.Dec.{ltb, eqb}
use borrow.Author.Tests.{le-ltb, ltb-false, eq-eqb, ne_eqb}
use Rattle.lists.specs.Pick.{pick, differ, differ_yes, differ_no}
use Rattle.lists.specs.Gather.{flat}
use Rattle.lists.proofs.Each.{neither}
use Rattle.lists.proofs.Choices.{neither_of}
use Rattle.lists.proofs.Stands.{Stands, stands_at, stands_left, stands_right, stands_all, stands_drop}
use Rattle.cells.specs.Be.{be, be_bytes}
use Rattle.cells.proofs.Cells.{length-be_bytes, be_ext, be-take}
use Rattle.opentype.specs.Table.{major_version, store_at, map_at, header_length, store_of}
use Rattle.rules.specs.Open.{bad_header}
use Rattle.rules.specs.Numbering.{present}
use Rattle.rules.specs.TableCut.{map_offsets, lay_table}
use Rattle.laid.proofs.Cells.{be_back}

length-map_offsets : (at : ℕ) (parts : List (List ℕ)) → length (map_offsets at parts) ≡ 4 * length parts
unfolding map_offsets
length-map_offsets at [] = refl
length-map_offsets at (part ∷ parts) = rw (length-append, length-be_bytes, length-map_offsets (at + length part) parts) (omega arith)

-- Maps laid one after the other from a place, and their offsets laid elsewhere: offset k names the place of map k, or is 0 where it has no bytes.
record Part (u : List ℕ) (cell from to : ℕ) (part : List ℕ) : Type 0 where
  place : ℕ
  offset : Stands u cell (be_bytes 4 (pick (eqb (length part) 0) 0 place))
  stands : Stands u place part
  from_on : from ≤ place
  up_to : place + length part ≤ to

part_stands : {u : List ℕ} (cell from : ℕ) (parts : List (List ℕ)) (k : ℕ) → k < length parts
    → Stands u cell (map_offsets from parts) → Stands u from (flat (λ part. part) parts)
    → Part u (cell + 4 * k) from (from + length (flat (λ part. part) parts)) (get_or parts k [])
unfolding map_offsets flat
part_stands cell from [] k h o s = absurd (not-suc-le-zero h)
part_stands cell from (part ∷ parts) zero h o s =
    let n = length-append part (flat (λ part. part) parts) in
    let e : cell ≡ cell + 4 * 0 = omega arith in
    record {
      place = from;
      offset = stands_at e (stands_left (be_bytes 4 (pick (eqb (length part) 0) 0 from)) (map_offsets (from + length part) parts) o);
      stands = stands_left part (flat (λ part. part) parts) s;
      from_on = omega arith;
      up_to = omega arith;
    }
part_stands {u} cell from (part ∷ parts) (suc k) h o s =
    let n = length-append part (flat (λ part. part) parts) in
    let first = be_bytes 4 (pick (eqb (length part) 0) 0 from) in
    let b = length-be_bytes 4 (pick (eqb (length part) 0) 0 from) in
    let i = part_stands (cell + length first) (from + length part) parts k (omega arith)
    (stands_right first (map_offsets (from + length part) parts) o) (stands_right part (flat (λ part. part) parts) s) in
    let e : cell + length first + 4 * k ≡ cell + 4 * suc k = omega arith in
    record {
      place = i.place;
      offset = stands_at e i.offset;
      stands = i.stands;
      from_on = omega (arith, i.from_on);
      up_to = omega (arith, i.up_to);
    }

-- the offset fits its cell
part_there : {u : List ℕ} {cell from to : ℕ} {part : List ℕ} → Part u cell from to part → to < 256 ^ 4 → 0 < length part
    → Stands u (be 4 u cell) part × (from ≤ be 4 u cell)
part_there {u} {cell} {part = part} p h l =
    let o = rw (ne_eqb (length part) 0 (λ q. omega arith)) at p.offset in
    let e : be 4 u cell ≡ p.place = be_back 4 p.place (omega (arith, p.up_to)) o in
    (rw e p.stands, rw e p.from_on)

part_absent : {u : List ℕ} {cell from to : ℕ} {part : List ℕ} → Part u cell from to part → length part ≡ 0 → be 4 u cell ≡ 0
part_absent {u} {cell} {part = part} p l = be_back 4 0 (omega arith) (rw (eq-eqb (length part) 0 l) at p.offset)

-- a number inside of what stands at the start
be_within : {u xs : List ℕ} (n k : ℕ) → Stands u 0 xs → k + n ≤ length xs → be n u k ≡ be n xs k
be_within {u} {xs} n k s h =
    be_ext n u xs k k (λ i l. ap (λ (j : ℕ). get_or u j 0) (sym (zero-add (k + i))) ∙ s.each (k + i) (omega arith))

pub record LaidTable (maps : ℕ) (st : List ℕ) (parts : List (List ℕ)) (u : List ℕ) : Type 0 where
  pub header : bad_header maps u ≡ false
  pub there : store_at u ≡ 0 → ⊥
  pub store : Stands (store_of u) 0 st
  pub map : (m : ℕ) → m < maps → 0 < length (get_or parts m []) → (present u m ≡ true) × Stands u (map_at u m) (get_or parts m [])
  pub absent : (m : ℕ) → m < maps → length (get_or parts m []) ≡ 0 → present u m ≡ false

pub laid_table : (maps : ℕ) (t st : List ℕ) (parts : List (List ℕ)) → bad_header maps t ≡ false → length parts ≡ maps
    → header_length maps + length st + length (flat (λ part. part) parts) < 256 ^ 4
    → LaidTable maps st parts (lay_table maps t st parts)
unfolding lay_table bad_header major_version store_at store_of map_at present header_length
laid_table maps t st parts good n small =
    let u = lay_table maps t st parts in
    let head = header_length maps in
    let checks = neither (ltb (length t) head) _ good in
    let long : head ≤ length t = ltb-false (length t) head checks.0 in
    let version = take 4 t in
    let place = be_bytes 4 head in
    let array = map_offsets (head + length st) parts in
    let all = flat (λ part. part) parts in
    let four : length version ≡ 4 = length-take-le 4 t (omega arith) in
    let size : length array ≡ 4 * maps = length-map_offsets (head + length st) parts ∙ ap (λ (k : ℕ). 4 * k) n in
    let s0 = stands_all u in
    let s1 = stands_left (version ++ place ++ array ++ st) all s0 in
    let s2 = stands_left (version ++ place ++ array) st s1 in
    let s3 = stands_left (version ++ place) array s2 in
    let at4 : 0 + length version ≡ 4 = omega arith in
    let at8 : 0 + length (version ++ place) ≡ 8 = simp (length-append, length-be_bytes, four) in
    let at_store : 0 + length (version ++ place ++ array) ≡ head = simp (length-append, length-be_bytes, four, size) (omega arith) in
    let at_maps : 0 + length (version ++ place ++ array ++ st) ≡ head + length st = simp (length-append, length-be_bytes, four, size) (omega arith) in
    let part : (m : ℕ) → m < maps → Part u (8 + 4 * m) (head + length st) (head + length st + length all) (get_or parts m [])
    = λ m h. part_stands 8 (head + length st) parts m (omega arith)
    (stands_at at8 (stands_right (version ++ place) array s2)) (stands_at at_maps (stands_right (version ++ place ++ array ++ st) all s0)) in
    let major : be 2 u 0 ≡ be 2 t 0 = be_within 2 0 (stands_left version place s3) (omega arith) ∙ be-take 2 4 t 0 (omega arith) in
    let there : be 4 u 4 ≡ head = be_back 4 head (omega arith) (stands_at at4 (stands_right version place s3)) in
    record {
      header = neither_of (ltb (length u) head) (differ (be 2 u 0) 1) (le-ltb (length u) head (omega (arith, s2.inside, at_store)))
          (ap (λ (k : ℕ). differ k 1) major ∙ checks.1);
      there = λ e. omega (arith, there, e);
      store = rw there (stands_drop (stands_at at_store (stands_right (version ++ place ++ array) st s1)));
      map = λ m h l. let p = part_there (part m h) small l in (differ_yes (be 4 u (8 + 4 * m)) 0 (λ e. omega (arith, p.1)), p.0);
      absent = λ m h l. differ_no (be 4 u (8 + 4 * m)) 0 (part_absent (part m h) l);
    }

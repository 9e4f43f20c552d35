-- How long the written objects are.
use Prim.Native.Nat.{ℕ, zero, suc, ◌+◌, ◌*◌, ◌≤◌, ◌<◌}
use Rattle.std.specs.Prelude.{◌≡◌, refl, Bool, List, [], ◌∷◌, map, get_or, drop}
use Rattle.std.proofs.Math.Path.{sym}
use Rattle.std.proofs.Common.{◌∙◌, append-nil, zero-mul, suc-mul, mul-le-mul_right, of_z}
use Rattle.std.proofs.Math.Bool.{true, false}
use native.Mathlib.Omega.{arith}
use Rattle.std.proofs.Math.ListN.{length, length-append, length-drop}
use Rattle.std.proofs.Math.Seq.{length-take-le}
use Rattle.std.specs.Int.{w32}
use Rattle.lists.specs.Pick.{pick}
use Rattle.lists.specs.Gather.{flat, select, rank}
use Rattle.lists.proofs.Pieces.{flat_append}
use Rattle.lists.proofs.Members.{length-map}
use Rattle.lists.proofs.Stands.{length-flat}
use Rattle.cells.specs.Be.{be_bytes}
use Rattle.cells.specs.Sign.{signed_bytes}
use Rattle.cells.proofs.Cells.{length-be_bytes}
use Rattle.opentype.specs.Store.{subtable_at, regions_at, region_count, record_length, region_record}
use Rattle.opentype.specs.Subtable.{word_size, rest_size, region_index, delta}
use Rattle.rules.specs.Lists.{Run}
use Rattle.rules.specs.Columns.{Plan, plan_of, order}
use Rattle.rules.specs.Regions.{is_used, used_regions, new_region, region_list_bytes}
use Rattle.rules.specs.Rewrite.{row_bytes, planned_bytes, subtable_bytes}
use Rattle.rules.specs.StoreCut.{offsets, lay_store, store_bytes, null_store}

unfoldable pub sum : List ℕ → ℕ
sum [] = 0
sum (x ∷ xs) = x + sum xs

-- ---- a subtable

-- the length of a plan's rows
abbrev pub plan_length : Plan → ℕ
plan_length p = length p.wide * word_size p.is_long + length p.narrow * rest_size p.is_long

-- cells of one size
pub length_cells : (s : List ℕ) (at i n : ℕ) (cs : List ℕ) → length (flat (λ c. signed_bytes n (delta s at i c)) cs) ≡ length cs * n
length_cells s at i n cs = length-flat (λ c. signed_bytes n (delta s at i c)) 0 cs n (λ k h. length-be_bytes n (of_z w32 (delta s at i (get_or cs k 0))))

pub length-row : (s : List ℕ) (at : ℕ) (p : Plan) (i : ℕ) → length (row_bytes s at p i) ≡ plan_length p
unfolding row_bytes
length-row s at p i = rw (length-append, length_cells s at i (word_size p.is_long) p.wide, length_cells s at i (rest_size p.is_long) p.narrow)

pub length_planned : (s : List ℕ) (at : ℕ) (used is : List ℕ) (p : Plan) → length (planned_bytes s at used is p) ≡ 6 + 2 * length (order p) + length is * plan_length p
unfolding planned_bytes
length_planned s at used is p =
    let indexes = length-flat (λ c. be_bytes 2 (new_region used (region_index s at c))) 0 (order p) 2
    (λ k h. length-be_bytes 2 (new_region used (region_index s at (get_or (order p) k 0)))) in
    let rows = length-flat (λ i. row_bytes s at p i) 0 is (plan_length p) (λ k h. length-row s at p (get_or is k 0)) in
    simp (length-append, length-be_bytes, indexes, rows) (omega arith)

-- the bytes of a written subtable: they don't turn on the regions' new numbers
unfoldable pub size_at : List ℕ → ℕ → List ℕ → ℕ
size_at s at is = length (planned_bytes s at [] is (plan_of s at is))

unfoldable pub sizes : List ℕ → List Run → List ℕ
sizes s rs = map (λ run. size_at s (subtable_at s run.outer) run.inners) rs

pub planned_size : (s : List ℕ) (at : ℕ) (used is : List ℕ) → length (planned_bytes s at used is (plan_of s at is)) ≡ size_at s at is
unfolding size_at
planned_size s at used is = length_planned s at used is (plan_of s at is) ∙ sym (length_planned s at [] is (plan_of s at is))

-- ---- the store

pub length-offsets : (at : ℕ) (parts : List (List ℕ)) → length (offsets at parts) ≡ 4 * length parts
unfolding offsets
length-offsets at [] = refl
length-offsets at (part ∷ parts) = rw (length-append, length-be_bytes, length-offsets (at + length part) parts) (omega arith)

length_parts : (parts : List (List ℕ)) → length (flat (λ part. part) parts) ≡ sum (map (λ part. length part) parts)
unfolding flat sum
length_parts [] = refl
length_parts (part ∷ parts) = rw (length-append, length_parts parts)

pub length_store : (list : List ℕ) (parts : List (List ℕ)) → length (lay_store list parts) ≡ 8 + 4 * length parts + length list + sum (map (λ part. length part) parts)
unfolding lay_store
length_store list parts =
    simp (length-append, length-be_bytes, length-offsets, length_parts) (omega arith)

pub length_null : length null_store ≡ 8
unfolding null_store
length_null = simp (length-append, length-be_bytes)

-- the lengths of the written subtables, whatever the used regions
pub subtable_sizes : (s used : List ℕ) (rs : List Run) → map (λ part. length part) (map (λ run. subtable_bytes s used run) rs) ≡ sizes s rs
unfolding sizes subtable_bytes
subtable_sizes s used [] = refl
subtable_sizes s used (run ∷ rs) = rw (planned_size s (subtable_at s run.outer) used run.inners, subtable_sizes s used rs)

-- ---- the region list

module _ (s : List ℕ) (inside : regions_at s + 4 + region_count s * record_length s ≤ length s) where
  pub record_ends : (r : ℕ) → r < region_count s → regions_at s + 4 + r * record_length s + record_length s ≤ length s
  record_ends r h = omega (arith, mul-le-mul_right {m = suc r} {n = region_count s} (record_length s) h, suc-mul r (record_length s))

  pub length_record : (r : ℕ) → r < region_count s → length (region_record s r) ≡ record_length s
  unfolding region_record
  length_record r h = length-take-le (record_length s) (drop (regions_at s + 4 + r * record_length s) s) (rw length-drop (omega (arith, record_ends r h)))

  pub length_records : (f : ℕ → Bool) (n : ℕ) → n ≤ region_count s → length (flat (λ r. region_record s r) (select f n)) ≡ rank f n * record_length s
  unfolding select rank flat
  length_records f zero h = sym (zero-mul (record_length s))
  length_records f (suc n) h =
      rw (flat_append, length-append, length_records f n (omega arith)) (one (f n) (length_record n h))
    where
      one : (b : Bool) → length (region_record s n) ≡ record_length s
          → rank f n * record_length s + length (flat (λ r. region_record s r) (pick b (n ∷ []) [])) ≡ (rank f n + pick b 1 0) * record_length s
      one true e = simp (append-nil, e) (omega arith)
      one false e = omega arith

  pub length_list : (rs : List Run) → length (region_list_bytes s (used_regions s rs)) ≡ 4 + rank (λ r. is_used s rs r) (region_count s) * record_length s
  unfolding region_list_bytes used_regions
  length_list rs = simp (length-append, length-be_bytes, length_records (λ r. is_used s rs r) (region_count s) (omega arith)) (omega arith)

  pub length_bytes : (rs : List Run)
      → length (store_bytes s rs) ≡ 8 + 4 * length rs + (4 + rank (λ r. is_used s rs r) (region_count s) * record_length s) + sum (sizes s rs)
  unfolding store_bytes
  length_bytes rs =
      length_store (region_list_bytes s (used_regions s rs)) (map (λ run. subtable_bytes s (used_regions s rs) run) rs)
      ∙ rw (subtable_sizes s (used_regions s rs) rs, length-map (λ run. subtable_bytes s (used_regions s rs) run) rs, length_list rs)

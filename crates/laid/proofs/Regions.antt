-- The written region list, read again: the new record n is the old record of the n-th used region.
use Prim.Native.Nat.{ℕ, suc, ◌+◌, ◌*◌, ◌^◌, ◌<◌, ◌≤◌}
use mathlib.Core.Path.{◌≡◌, sym, ap, ◌∙◌}
use mathlib.Core.List.{List, ◌++◌}
use native.Mathlib.Omega.{arith}
use native.Mathlib.Nat.{mul-le-mul_right}
use lib.ListN.{length, get_or, take, drop, length-append, length-drop}
use lib.Seq.{length-take-le}
use Rattle.lists.specs.Gather.{flat}
use Rattle.lists.proofs.Stands.{Stands, stands_at, stands_left, stands_right, stands_take, stands_piece, length-flat}
use Rattle.cells.specs.Be.{be_bytes}
use Rattle.opentype.specs.Store.{regions_at, axis_count, region_count, record_length, region_record}
use Rattle.rules.specs.Regions.{region_list_bytes}
use Rattle.laid.proofs.Cells.{length-be_bytes, be_back}

-- a region that is there has all its bytes
pub length_record : (s : List ℕ) (r : ℕ) → regions_at s + 4 + region_count s * record_length s ≤ length s → r < region_count s
    → length (region_record s r) ≡ record_length s
unfolding region_record
length_record s r h l =
    let n = record_length s in
    let m : suc r * n ≤ region_count s * n = mul-le-mul_right n l in
    let d = length-drop (regions_at s + 4 + r * n) s in
    length-take-le n (drop (regions_at s + 4 + r * n) s) (omega arith)

pub length_region_list : (s used : List ℕ) → ((n : ℕ) → n < length used → length (region_record s (get_or used n 0)) ≡ record_length s)
    → length (region_list_bytes s used) ≡ 4 + length used * record_length s
unfolding region_list_bytes
length_region_list s used h = simp (length-append, length-be_bytes, length-flat (λ r. region_record s r) 0 used (record_length s) h)

-- What is read of a region list that stands where the header of w says.
pub record LaidRegions (s used w : List ℕ) : Type 0 where
  pub axes : axis_count w ≡ axis_count s
  pub count : region_count w ≡ length used
  pub inside : regions_at w + 4 + region_count w * record_length w ≤ length w
  pub same : (n : ℕ) → n < length used → region_record w n ≡ region_record s (get_or used n 0)

pub laid_regions : {w : List ℕ} (s used : List ℕ) → axis_count s < 256 ^ 2 → length used < 256 ^ 2
    → ((n : ℕ) → n < length used → length (region_record s (get_or used n 0)) ≡ record_length s)
    → Stands w (regions_at w) (region_list_bytes s used) → LaidRegions s used w
unfolding region_list_bytes axis_count region_count record_length region_record
laid_regions {w} s used axes few whole st =
    let at = regions_at w in
    let a = be_bytes 2 (axis_count s) in
    let b = be_bytes 2 (length used) in
    let all = flat (λ r. region_record s r) used in
    let n = record_length s in
    let head = stands_left (a ++ b) all st in
    let rest : Stands w (at + 4) all = stands_at (simp (length-append, length-be_bytes)) (stands_right (a ++ b) all st) in
    let count : region_count w ≡ length used = be_back 2 (length used) few (stands_at (rw length-be_bytes) (stands_right a b head)) in
    let same : axis_count w ≡ axis_count s = be_back 2 (axis_count s) axes (stands_left a b head) in
    let size : record_length w ≡ n = ap (λ (k : ℕ). 6 * k) same in
    let total = length-flat (λ r. region_record s r) 0 used n whole in
    record {
      axes = same;
      count = count;
      inside = rw (count, size) (omega (arith, rest.inside));
      same = λ k h. rw size (
          ap (λ (m : ℕ). take m (drop (at + 4 + k * n) w)) (sym (whole k h))
          ∙ stands_take (stands_piece (λ r. region_record s r) 0 used n k whole rest h)
          );
    }

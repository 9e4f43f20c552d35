-- Under the limits every count fits 2 bytes and every offset 4: a written store has fewer than 2 ^ 31 bytes.
use Prim.Native.Nat.{ℕ, ◌+◌, ◌*◌, ◌^◌, ◌<◌, ◌≤◌}
use mathlib.Core.Path.{◌≡◌}
use mathlib.Core.Bool.{Bool, true, false}
use mathlib.Core.List.{List, map}
use native.Mathlib.Omega.{arith}
use native.Mathlib.Nat.{le_trans, mul-le-mul, mul-le-mul_left}
use lib.ListN.{length, length-append, length-map}
use Rattle.lists.specs.Gather.{flat}
use Rattle.opentype.specs.Store.{subtable_at, axis_count, regions_at, record_length}
use Rattle.opentype.specs.Subtable.{column_count, word_size, rest_size}
use Rattle.rules.specs.Lists.{Run, runs, inner, most_pairs}
use Rattle.rules.specs.Open.{most_subtables, most_regions, most_columns}
use Rattle.rules.specs.Columns.{Plan, plan_of, order}
use Rattle.rules.specs.Regions.{used_regions, region_list_bytes}
use Rattle.rules.specs.Rewrite.{subtable_bytes}
use Rattle.rules.specs.StoreCut.{store_bytes}
use Rattle.laws.specs.Inside.{store_inside, regions_inside, subtable_inside}
use Rattle.laws.specs.Runs.{run_at}
use Rattle.laws.specs.Usable.{in_array}
use Rattle.cells.proofs.Cells.{be_lt}
use Rattle.reread.proofs.Accepted.{Accepted}
use Rattle.reread.proofs.Columns.{order_few}
use Rattle.reread.proofs.Runs.{few_runs, runs-items, piece_short, pieces_short}
use Rattle.laid.proofs.Store.{length-lay_store}
use Rattle.laid.proofs.Regions.{length_region_list}
use Rattle.laws.specs.Lengths.{plan_length, length_planned}
use Rattle.reread.proofs.Used.{few_used, used_record}

-- 4 bytes a column at most
row_short : (p : Plan) → plan_length p ≤ 4 * length (order p)
row_short p = by p.is_long (length-append p.wide p.narrow)
  where
    by : (l : Bool) → length (order p) ≡ length p.wide + length p.narrow
        → length p.wide * word_size l + length p.narrow * rest_size l ≤ 4 * length (order p)
    by true t = omega arith
    by false t = omega arith

-- 6 bytes, 2 a column, and the rows
subtable_short : (s used : List ℕ) (run : Run) → column_count s (subtable_at s run.outer) ≤ most_columns
    → length (subtable_bytes s used run) ≤ 8198 + length run.inners * 16384
unfolding subtable_bytes
subtable_short s used run h =
    let at = subtable_at s run.outer in
    let p = plan_of s at run.inners in
    let few = order_few s at run.inners in
    let row = mul-le-mul_left (length run.inners) (row_short p) in
    let all : length run.inners * (4 * length (order p)) ≤ length run.inners * 16384 = mul-le-mul_left (length run.inners) (omega arith) in
    rw (length_planned s at used run.inners p) (omega arith)

module _ {s pairs st : List ℕ} (ok : Accepted s pairs st) where
  pub axes_small : axis_count s < 256 ^ 2
  unfolding axis_count
  axes_small = be_lt 2 s (regions_at s) ok.bytes.byte

  pub runs_256 : length (runs pairs) ≤ most_subtables
  runs_256 =
      few_runs pairs most_subtables ok.rise
      (λ k h. let a = in_array s (run_at (runs pairs) k).outer (ok.there k h) in omega (arith, (store_inside s ok.store).few))

  all-items : length (flat (λ run. run.inners) (runs pairs)) ≤ most_pairs
  all-items = rw (runs-items pairs, length-map pairs (λ p. inner p)) ok.most

  pub items_8192 : (k : ℕ) → k < length (runs pairs) → length (run_at (runs pairs) k).inners ≤ most_pairs
  items_8192 k h = le_trans (piece_short (λ run. run.inners) _ (runs pairs) k h) all-items

  pub columns_4096 : (k : ℕ) → k < length (runs pairs) → column_count s (subtable_at s (run_at (runs pairs) k).outer) ≤ most_columns
  columns_4096 k h = (subtable_inside s _ (ok.whole k h)).few

  pub used_4096 : length (used_regions s (runs pairs)) ≤ most_regions
  used_4096 = le_trans (few_used s (runs pairs)) (regions_inside s ok.regions).few

  -- room is left below 2 ^ 32 for the maps that follow a table's store
  pub store_short : length (store_bytes s (runs pairs)) < 2 ^ 31
  unfolding store_bytes record_length
  store_short =
      let rs = runs pairs in
      let used = used_regions s rs in
      let axes = axes_small in
      let size : record_length s ≤ 393210 = omega arith in
      let records = mul-le-mul used_4096 size in
      let list = length_region_list s used (used_record s rs (regions_inside s ok.regions).inside) in
      let all = pieces_short (λ run. subtable_bytes s used run) (λ run. run.inners) _ 8198 16384 rs
      (λ k h. subtable_short s used (run_at rs k) (columns_4096 k h)) in
      let items = all-items in
      let count = runs_256 in
      rw (length-lay_store (region_list_bytes s used) (map (λ run. subtable_bytes s used run) rs), list, length-map rs (λ run. subtable_bytes s used run)) (omega arith)

-- A written store, read again: its header, its region list, and each subtable by the plan of the one that it comes from.
-- s is the source, pairs the kept pairs, st the written store, w any bytes that begin with it.
use Prim.Native.Nat.{ℕ, ◌^◌, ◌<◌}
use mathlib.Core.Path.{◌≡◌}
use mathlib.Core.List.{List, [], map}
use native.Mathlib.Omega.{arith}
use native.Mathlib.Nat.{le_trans}
use lib.ListN.{length, get_or, length-map}
use Rattle.lists.proofs.Each.{get_d_map}
use Rattle.lists.proofs.Stands.{Stands}
use Rattle.opentype.specs.Store.{subtable_at}
use Rattle.opentype.specs.Subtable.{row_length}
use Rattle.rules.specs.Lists.{Run, runs}
use Rattle.rules.specs.Columns.{Plan, plan_of}
use Rattle.rules.specs.Regions.{used_regions, region_list_bytes}
use Rattle.rules.specs.Rewrite.{subtable_bytes}
use Rattle.rules.specs.StoreCut.{store_bytes, middle_width}
use Rattle.laws.specs.Inside.{regions_inside}
use Rattle.laws.specs.Runs.{run_at}
use Rattle.reread.proofs.Accepted.{Accepted}
use Rattle.reread.proofs.Open.{no_column}
use Rattle.reread.proofs.Columns.{order_few}
use Rattle.laid.proofs.Store.{LaidStore, laid_store}
use Rattle.laid.proofs.Regions.{LaidRegions, laid_regions}
use Rattle.laws.specs.Lengths.{plan_length}
use Rattle.laid.proofs.Subtable.{LaidSubtable, laid_subtable}
use Rattle.reread.proofs.Fit.{plan_fits}
use Rattle.reread.proofs.Used.{used_record, column_region}
use Rattle.reread.proofs.Bounds.{axes_small, runs_256, items_8192, columns_4096, used_4096, store_short}

-- the place of a run's subtable in the source, and its plan
abbrev pub place_of : List ℕ → Run → ℕ
place_of s run = subtable_at s run.outer

abbrev pub plan_for : List ℕ → Run → Plan
plan_for s run = plan_of s (place_of s run) run.inners

abbrev pub parts_of : List ℕ → List Run → List (List ℕ)
parts_of s rs = map (λ run. subtable_bytes s (used_regions s rs) run) rs

pub parts_count : (s : List ℕ) (rs : List Run) → length (parts_of s rs) ≡ length rs
parts_count s rs = length-map rs (λ run. subtable_bytes s (used_regions s rs) run)

part_at_lem : (s : List ℕ) (rs : List Run) (k : ℕ) → k < length rs → get_or (parts_of s rs) k [] ≡ subtable_bytes s (used_regions s rs) (run_at rs k)
part_at_lem s rs k h = get_d_map (λ run. subtable_bytes s (used_regions s rs) run) _ [] rs k h

module _ {s pairs st w : List ℕ} (ok : Accepted s pairs st) (laid : Stands w 0 st) where
  pub store_again : LaidStore w (region_list_bytes s (used_regions s (runs pairs))) (parts_of s (runs pairs))
  unfolding store_bytes
  store_again =
      let rs = runs pairs in
      let few = runs_256 ok in
      let short : length (store_bytes s rs) < 2 ^ 31 = store_short ok in
      laid_store (region_list_bytes s (used_regions s rs)) (parts_of s rs) (rw (parts_count s rs) (omega arith)) (omega arith) (rw ok.is at laid)

  pub regions_again : LaidRegions s (used_regions s (runs pairs)) w
  regions_again =
      let few = used_4096 ok in
      laid_regions s (used_regions s (runs pairs)) (axes_small ok) (omega arith)
      (used_record s (runs pairs) (regions_inside s ok.regions).inside) store_again.regions

  pub subtable_again : (k : ℕ) → k < length (runs pairs) → let run = run_at (runs pairs) k in
      LaidSubtable s (place_of s run) (used_regions s (runs pairs)) run.inners (plan_for s run) w (subtable_at w k)
  unfolding subtable_bytes middle_width
  subtable_again k h =
      let rs = runs pairs in
      let run = run_at rs k in
      let at = place_of s run in
      let items = items_8192 ok k h in
      let columns = le_trans (order_few s at run.inners) (columns_4096 ok k h) in
      let few = used_4096 ok in
      let part = store_again.subtable k (rw (parts_count s rs) h) in
      laid_subtable s at (used_regions s rs) run.inners (plan_for s run) (omega arith) (omega arith)
      (λ c l. let q = (column_region s rs k c ok.indexes h l).0 in omega arith)
      (plan_fits s at run.inners (λ c l. no_column s rs _ k c ok.widths h l))
      (rw (part_at_lem s rs k h) at part)

  -- the length of a written row is the plan's
  pub row_length_written : (k : ℕ) → k < length (runs pairs) → row_length w (subtable_at w k) ≡ plan_length (plan_for s (run_at (runs pairs) k))
  row_length_written k h = (subtable_again k h).rows

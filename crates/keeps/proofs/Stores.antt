-- Demand 2 for stores: a cut keeps every listed row, under the same regions.
use Prim.Native.Nat.{ℕ, ◌<◌}
use mathlib.Core.Path.{◌≡◌, refl, sym, ◌∙◌}
use mathlib.Core.List.{List}
use lib.ListN.{length}
use Rattle.lists.proofs.Stands.{Stands, stands_all}
use Rattle.opentype.specs.Store.{subtable_count}
use Rattle.rules.specs.Lists.{runs}
use Rattle.rules.specs.Columns.{order}
use Rattle.laws.specs.Runs.{run_at}
use Rattle.laws.specs.Outers.{accepted_climbs}
use Rattle.demands.specs.KeepsStore.{KeptSubtable, KeptStore, KeptSums, outers_before, outer_at}
use Rattle.demands.specs.Calls.{OfStoreCuts}
use Rattle.reread.proofs.Accepted.{Accepted, store_accepted}
use Rattle.reread.proofs.Written.{plan_for}
use Rattle.reread.proofs.Places.{has_at, runs_count, run_of}
use Rattle.reread.proofs.Keeps.{outers_inside, runs_kept, row_as, columns_as}
use Rattle.keeps.proofs.Follows.{sums_kept}

module _ {s pairs st w : List ℕ} (ok : Accepted s pairs st) (laid : Stands w 0 st) where
  kept_subtable : (k : ℕ) → k < length pairs → KeptSubtable s pairs w (outer_at pairs k)
  kept_subtable k h =
      let o = outer_at pairs k in
      let run = run_of pairs (accepted_climbs pairs ok.rise) (subtable_count s) (outers_inside ok) o (has_at pairs k h) in
      let kept = (runs_kept ok laid).each (outers_before pairs o) run.inside in
      let is = sym run.outers in
      record {
        old = order (plan_for s (run_at (runs pairs) (outers_before pairs o)));
        items = kept.items ∙ run.items;
        columns = columns_as is refl kept.columns;
        rows = λ j l e. let row = run.rows j l e in row_as is (sym row.1) refl refl (kept.rows _ row.0);
      }

  pub kept_store : KeptStore s pairs w
  kept_store =
      let kept = runs_kept ok laid in
      record {
        readable = kept.readable;
        axes = kept.axes;
        count = kept.count ∙ runs_count pairs (accepted_climbs pairs ok.rise) (subtable_count s) (outers_inside ok);
        subtables = kept_subtable;
      }

pub keeps_store : OfStoreCuts KeptStore
unfolding OfStoreCuts
keeps_store s pairs w keep_empty bytes has cut = kept_store (store_accepted s pairs w keep_empty bytes cut has.regions) (stands_all w)

pub keeps_sums : OfStoreCuts KeptSums
unfolding OfStoreCuts KeptSums
keeps_sums s pairs w keep_empty bytes has cut weigh k h =
    let kept = (keeps_store s pairs w keep_empty bytes has cut).subtables k h in
    sums_kept kept.columns (kept.rows k h refl) weigh

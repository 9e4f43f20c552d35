-- What an accepted cut of a store wrote, read again: the kept items of each run, under the same regions.
use Prim.Native.Nat.{ℕ, ◌+◌, ◌*◌, ◌<◌, ◌≤◌}
use mathlib.Core.Path.{◌≡◌, sym, ap, ◌∙◌}
use mathlib.Core.Bool.{true, false≢true}
use mathlib.Core.List.{List}
use native.Mathlib.Omega.{arith}
use native.Mathlib.Nat.{le_trans}
use lib.ListN.{length, get_or, length-append}
use lib.IntN.{ℤ, pos, negsuc}
use borrow.Author.Tests.{eqb-true}
use Rattle.lists.specs.Search.{all}
use Rattle.lists.proofs.Each.{all_at}
use Rattle.lists.proofs.Stands.{Stands}
use Rattle.cells.specs.Sign.{nil}
use Rattle.opentype.specs.Store.{subtable_at, subtable_count, axis_count, region_record}
use Rattle.opentype.specs.Subtable.{item_count, delta}
use Rattle.rules.specs.Lists.{Run, runs}
use Rattle.rules.specs.Columns.{order, kept_deltas}
use Rattle.laws.specs.Runs.{run_at}
use Rattle.laws.specs.Usable.{in_array}
use Rattle.demands.specs.Reading.{Readable}
use Rattle.demands.specs.Rows.{KeptColumns, KeptRow}
use Rattle.demands.specs.KeepsStore.{has_outer}
use Rattle.reread.proofs.Accepted.{Accepted}
use Rattle.reread.proofs.Open.{good_store, good_regions, good_offset, good_subtable}
use Rattle.reread.proofs.Columns.{order_few, order_inside, order_once, order_out}
use Rattle.reread.proofs.Fit.{kept_at, length_kept}
use Rattle.reread.proofs.Used.{column_region}
use Rattle.reread.proofs.Places.{has-run}
use Rattle.reread.proofs.Bounds.{runs_256, columns_4096, used_4096}
use Rattle.reread.proofs.Written.{place_of, plan_for, parts_count, store_again, regions_again, subtable_again}

is_zero : (z : ℤ) → nil z ≡ true → z ≡ pos 0
is_zero (pos n) e = ap pos (eqb-true n 0 e)
is_zero (negsuc n) e = absurd (false≢true e)

-- a dropped column's kept deltas are 0
zero_at : (s : List ℕ) (at : ℕ) (is : List ℕ) (b j : ℕ) → all (λ z. nil z) (kept_deltas s at is b) ≡ true → j < length is → delta s at (get_or is j 0) b ≡ pos 0
zero_at s at is b j e h =
    sym (kept_at s at is b j h) ∙ is_zero _ (all_at (λ z. nil z) (pos 0) (kept_deltas s at is b) j e (rw (length_kept s at is b) h))

-- Subtable k of the written store w holds the kept items of a run, in their order.
pub record RunKept (s : List ℕ) (run : Run) (w : List ℕ) (k : ℕ) : Type 0 where
  pub items : item_count w (subtable_at w k) ≡ length run.inners
  pub columns : KeptColumns s run.outer w k (order (plan_for s run))
  pub rows : (j : ℕ) → j < length run.inners → KeptRow s run.outer (get_or run.inners j 0) w k j (order (plan_for s run))

-- The written store w can be read, and has one subtable for each run of the kept pairs, in turn.
pub record RunsKept (s pairs w : List ℕ) : Type 0 where
  pub readable : Readable w
  pub axes : axis_count w ≡ axis_count s
  pub count : subtable_count w ≡ length (runs pairs)
  pub each : (k : ℕ) → k < length (runs pairs) → RunKept s (run_at (runs pairs) k) w k

-- the same row, or the same columns, by other numbers
pub row_as : {s w old : List ℕ} {o i o' i' q j q' j' : ℕ} → q ≡ o → j ≡ i → q' ≡ o' → j' ≡ i' → KeptRow s o i w o' i' old → KeptRow s q j w q' j' old
row_as a b c d row = rw (a, b, c, d) row

pub columns_as : {s w old : List ℕ} {o o' q q' : ℕ} → q ≡ o → q' ≡ o' → KeptColumns s o w o' old → KeptColumns s q w q' old
columns_as a c columns = rw (a, c) columns

-- the outers of the list are in the source's array
pub outers_inside : {s pairs st : List ℕ} → Accepted s pairs st → (o : ℕ) → has_outer pairs o ≡ true → o < subtable_count s
outers_inside {s} {pairs} ok o h =
    let r = has-run pairs o h in
    rw r.2 at (in_array s (run_at (runs pairs) r.0).outer (ok.there r.0 r.1))

module _ {s pairs st w : List ℕ} (ok : Accepted s pairs st) (laid : Stands w 0 st) where
  kept_run : (k : ℕ) → k < length (runs pairs) → RunKept s (run_at (runs pairs) k) w k
  kept_run k h =
      let rs = runs pairs in
      let run = run_at rs k in
      let at = place_of s run in
      let is = run.inners in
      let new = subtable_again ok laid k h in
      record {
        items = new.items;
        columns = record {
          columns = new.columns;
          inside = order_inside s at is;
          once = order_once s at is;
          records = λ c l.
              let r = column_region s rs k c ok.indexes h l in
              ap (λ (n : ℕ). region_record w n) (new.indexes c l) ∙ ((regions_again ok laid).same _ r.0 ∙ ap (λ (n : ℕ). region_record s n) r.1);
        };
        rows = λ j m. record {
          there = rw new.items m;
          deltas = λ c l. new.deltas j c m l;
          dropped = λ b l out. zero_at s at is b j (order_out s at is b l out) m;
        };
      }

  count : subtable_count w ≡ length (runs pairs)
  count = (store_again ok laid).count ∙ parts_count s (runs pairs)

  readable : Readable w
  readable =
      let rs = runs pairs in
      let store = store_again ok laid in
      let regions = regions_again ok laid in
      let array : 8 + 4 * subtable_count w ≤ length w = rw store.count store.array in
      let run : (k : ℕ) → k < subtable_count w → k < length rs = λ k h. rw count at h in
      record {
        header = good_store w store.format (rw count (runs_256 ok)) (omega arith) array;
        list = store.list;
        regions = good_regions w (omega (arith, regions.inside)) (rw regions.count (used_4096 ok)) regions.inside;
        there = λ k h. good_offset w k h (λ e. omega (arith, store.behind k (rw (parts_count s rs) (run k h))));
        whole = λ k h.
            let new = subtable_again ok laid k (run k h) in
            let p = plan_for s (run_at rs k) in
            let t = length-append p.wide p.narrow in
            let few = le_trans (order_few s (place_of s (run_at rs k)) (run_at rs k).inners) (columns_4096 ok k (run k h)) in
            good_subtable w (subtable_at w k) new.head (rw (new.words, new.columns) (omega arith)) (rw new.columns few) new.inside;
        named = λ k c h l.
            let new = subtable_again ok laid k (run k h) in
            let g : c < length (order (plan_for s (run_at rs k))) = rw new.columns at l in
            rw (new.indexes c g, regions.count) (column_region s rs k c ok.indexes (run k h) g).0;
      }

  -- w may be longer than the store: a table's store runs to the table's end
  pub runs_kept : RunsKept s pairs w
  runs_kept = record { readable = readable; axes = (regions_again ok laid).axes; count = count; each = kept_run }

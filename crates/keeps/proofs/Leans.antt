-- A written store holds nothing that stands for nothing: no empty subtable, no column of zeros, no region that no column names.
use Prim.Native.Nat.{ℕ, ◌<◌}
use mathlib.Core.Path.{◌≡◌, refl, sym, ap, ◌∙◌}
use mathlib.Core.Bool.{true, false, not, true≢false}
use mathlib.Core.List.{List}
use lib.ListN.{length, get_or}
use lib.IntN.{pos, ℤ}
use lib.Dec.{eqb}
use borrow.Author.Tests.{eqb-true, eq-eqb, not-true}
use Rattle.lists.specs.Pick.{both}
use Rattle.lists.specs.Gather.{select}
use Rattle.lists.specs.Search.{all}
use Rattle.lists.proofs.Choices.{both_of}
use Rattle.lists.proofs.Each.{both_hold}
use Rattle.lists.proofs.Tests.{some_at}
use Rattle.lists.proofs.Found.{some_found, any_found, all_failed}
use Rattle.lists.proofs.Selected.{select_sound}
use Rattle.lists.proofs.Ascending.{rises_select}
use Rattle.lists.proofs.Stands.{Stands}
use Rattle.cells.specs.Sign.{nil}
use Rattle.opentype.specs.Store.{subtable_at, subtable_count, region_count}
use Rattle.opentype.specs.Subtable.{column_count, region_index}
use Rattle.rules.specs.Lists.{Run, runs}
use Rattle.rules.specs.Columns.{live, kept_deltas, plan_of, order}
use Rattle.rules.specs.Regions.{uses_region, is_used, used_regions, new_region}
use Rattle.laws.specs.Runs.{run_at}
use Rattle.laws.specs.Live.{any_order}
use Rattle.laws.specs.Kept.{once_rising}
use Rattle.laws.specs.Once.{only_place}
use Rattle.demands.specs.Reading.{columns_in}
use Rattle.demands.specs.NoTrace.{LiveRow, Naming, Lean}
use Rattle.reread.proofs.Accepted.{Accepted}
use Rattle.reread.proofs.Columns.{order-live}
use Rattle.reread.proofs.Fit.{kept_at, length_kept}
use Rattle.reread.proofs.Runs.{runs-some}
use Rattle.reread.proofs.Written.{plan_for, regions_again, subtable_again}
use Rattle.reread.proofs.Keeps.{runs_kept}

-- a live column has an item that isn't 0 there
live_item : (s : List ℕ) (at : ℕ) (is : List ℕ) (c : ℕ) → live s at is c ≡ true
    → (j : ℕ) × (j < length is) × (nil (get_or (kept_deltas s at is c) j (pos 0)) ≡ false)
unfolding live
live_item s at is c h =
    let f = all_failed (λ z. nil z) (pos 0) (kept_deltas s at is c) (not-true (all (λ z. nil z) (kept_deltas s at is c)) h) in
    (f.0, rw (length_kept s at is c) at f.1, f.2)

-- a live column is kept
live_kept : (s : List ℕ) (at : ℕ) (is : List ℕ) (b : ℕ) → b < column_count s at → live s at is b ≡ true
    → (c : ℕ) × (c < length (order (plan_of s at is))) × (get_or (order (plan_of s at is)) c 0 ≡ b)
live_kept s at is b h v =
    let here = some_at (λ c. both (eqb b c) (live s at is c)) b (column_count s at) h (both_of (eqb b b) (live s at is b) (eq-eqb b b refl) v) in
    let f = any_found (λ c. eqb b c) 0 (order (plan_of s at is)) (any_order s at is (λ c. eqb b c) ∙ here) in
    (f.0, f.1, sym (eqb-true b _ f.2))

-- a used region is named by a live column of a run
record Using (s : List ℕ) (rs : List Run) (r : ℕ) : Type 0 where
  run : ℕ
  column : ℕ
  inside : run < length rs
  there : column < column_count s (subtable_at s (run_at rs run).outer)
  names : region_index s (subtable_at s (run_at rs run).outer) column ≡ r
  is_live : live s (subtable_at s (run_at rs run).outer) (run_at rs run).inners column ≡ true

used_by : (s : List ℕ) (rs : List Run) (r : ℕ) → is_used s rs r ≡ true → Using s rs r
unfolding is_used uses_region
used_by s rs r h =
    let a = any_found _ _ rs h in
    let at = subtable_at s (run_at rs a.0).outer in
    let is = (run_at rs a.0).inners in
    let b = some_found (λ c. both (eqb (region_index s at c) r) (live s at is c)) (column_count s at) a.2 in
    let c = both_hold (eqb (region_index s at b.0) r) (live s at is b.0) b.2 in
    record { run = a.0; column = b.0; inside = a.1; there = b.1; names = eqb-true _ r c.0; is_live = c.1 }

-- region n of the used ones has n as its new number
new_number : (s : List ℕ) (rs : List Run) (n : ℕ) → n < length (used_regions s rs)
    → (is_used s rs (get_or (used_regions s rs) n 0) ≡ true) × (new_region (used_regions s rs) (get_or (used_regions s rs) n 0) ≡ n)
unfolding used_regions new_region
new_number s rs n h = (
  (select_sound (λ r. is_used s rs r) (region_count s) n h).1,
  sym (only_place _ n (used_regions s rs) (once_rising 0 (used_regions s rs) (rises_select (λ r. is_used s rs r) (region_count s))) h refl),
)

module _ {s pairs st w : List ℕ} (ok : Accepted s pairs st) (laid : Stands w 0 st) where
  is_run : (o : ℕ) → o < subtable_count w → o < length (runs pairs)
  is_run o h = rw (runs_kept ok laid).count at h

  live-row : (o c : ℕ) → o < subtable_count w → c < columns_in w o → LiveRow w o c
  live-row o c h l =
      let run = run_at (runs pairs) o in
      let at = subtable_at s run.outer in
      let kept = (runs_kept ok laid).each o (is_run o h) in
      let old = get_or (order (plan_for s run)) c 0 in
      let inside : c < length (order (plan_for s run)) = rw kept.columns.columns at l in
      let item = live_item s at run.inners old (order-live s at run.inners c inside) in
      let same = (kept.rows item.0 item.1).deltas c inside ∙ sym (kept_at s at run.inners old item.0 item.1) in
      record {
        row = item.0;
        inside = rw kept.items item.1;
        live = λ e. true≢false (ap (λ (z : ℤ). nil z) (sym e ∙ same) ∙ item.2);
      }

  naming : (r : ℕ) → r < region_count w → Naming w r
  naming r h =
      let rs = runs pairs in
      let number = new_number s rs r (rw (regions_again ok laid).count at h) in
      let by = used_by s rs (get_or (used_regions s rs) r 0) number.0 in
      let run = run_at rs by.run in
      let at = subtable_at s run.outer in
      let c = live_kept s at run.inners by.column by.there by.is_live in
      let new = subtable_again ok laid by.run by.inside in
      record {
        outer = by.run;
        column = c.0;
        there = rw (runs_kept ok laid).count by.inside;
        inside = rw new.columns c.1;
        names = new.indexes c.0 c.1 ∙ (ap (λ (b : ℕ). new_region (used_regions s rs) (region_index s at b)) c.2 ∙ (rw by.names number.1));
      }

  pub lean : Lean w
  lean = record {
    subtables = λ o h. rw ((runs_kept ok laid).each o (is_run o h)).items (runs-some pairs o (is_run o h));
    columns = live-row;
    regions = naming;
  }

-- What an accepted cut says of its source and its list: no check of document 01 applied, and the bytes are those of `store_bytes`.
use Prim.Native.Nat.{ℕ, zero, suc, ◌<◌, ◌≤◌}
use mathlib.Core.Path.{◌≡◌, sym}
use mathlib.Core.Bool.{Bool, false, not}
use mathlib.Core.List.{List, [], ◌∷◌}
use native.Mathlib.Omega.{arith}
use native.Mathlib.Nat.{not-suc-le-zero}
use lib.ListN.{length}
use lib.Dec.{ltb}
use borrow.Author.Tests.{ltb-false, ne_eqb}
use Rattle.lists.specs.Pick.{pick, both}
use Rattle.lists.proofs.Each.{neither}
use Rattle.opentype.specs.Store.{regions_at, subtable_at}
use Rattle.rules.specs.declared.Refusal.TheVariants.{BadList, BadStore, BadRegions, AbsentSubtable, BadSubtable, NothingKept, BadRegionIndex, MiddleWidth}
use Rattle.rules.specs.Numbers.{Outcome, refused, written}
use Rattle.rules.specs.Lists.{Run, runs, outers_fall, twice, bad_pairs, most_pairs}
use Rattle.rules.specs.Open.{bad_store, bad_regions, absent_subtable, bad_subtable}
use Rattle.rules.specs.StoreCut.{some_delta, bad_region_index, middle_width, store_bytes, store_written, subtables_or, checked_cut, cut_opened, cut_store}
use Rattle.laws.specs.Passed.{passed, same_bytes}
use Rattle.laws.specs.Runs.{run_at}
use Rattle.demands.specs.Reading.{Bytes}

-- The cut of the store s to the kept pairs wrote st.
pub record Accepted (s pairs st : List ℕ) : Type 0 where
  pub bytes : Bytes s
  pub most : length pairs ≤ most_pairs
  pub rise : outers_fall pairs ≡ false
  pub store : bad_store s ≡ false
  pub regions : bad_regions s ≡ false
  pub there : (k : ℕ) → k < length (runs pairs) → absent_subtable s (run_at (runs pairs) k).outer ≡ false
  pub whole : (k : ℕ) → k < length (runs pairs) → bad_subtable s (subtable_at s (run_at (runs pairs) k).outer) ≡ false
  pub indexes : bad_region_index s (runs pairs) ≡ false
  pub widths : middle_width s (runs pairs) ≡ false
  pub is : st ≡ store_bytes s (runs pairs)

subtables_passed : (s : List ℕ) (rs : List Run) (next : Outcome) (st : List ℕ) → subtables_or s rs next ≡ written st
    → ((k : ℕ) → k < length rs → (absent_subtable s (run_at rs k).outer ≡ false) × (bad_subtable s (subtable_at s (run_at rs k).outer) ≡ false))
    × (next ≡ written st)
unfolding subtables_or
subtables_passed s [] next st e = (λ k h. absurd (not-suc-le-zero h), e)
subtables_passed s (run ∷ rs) next st e =
    let p = passed (absent_subtable s run.outer) AbsentSubtable _ st e in
    let q = passed (bad_subtable s (subtable_at s run.outer)) BadSubtable (subtables_or s rs next) st p.1 in
    let i = subtables_passed s rs next st q.1 in
    (at p.0 q.0 i.0, i.1)
  where
    at : absent_subtable s run.outer ≡ false → bad_subtable s (subtable_at s run.outer) ≡ false
        → ((k : ℕ) → k < length rs → (absent_subtable s (run_at rs k).outer ≡ false) × (bad_subtable s (subtable_at s (run_at rs k).outer) ≡ false))
        → (k : ℕ) → k < length (run ∷ rs)
        → (absent_subtable s (run_at (run ∷ rs) k).outer ≡ false) × (bad_subtable s (subtable_at s (run_at (run ∷ rs) k).outer) ≡ false)
    at a b i zero h = (a, b)
    at a b i (suc k) h = i k (omega arith)

-- after check 3, so for a table's store too
pub opened_accepted : (s pairs st : List ℕ) (keep_empty : Bool) → Bytes s → bad_store s ≡ false → length pairs ≤ most_pairs → outers_fall pairs ≡ false
    → cut_opened s pairs keep_empty ≡ written st → (regions_at s ≡ 0 → ⊥) → Accepted s pairs st
unfolding cut_opened checked_cut store_written
opened_accepted s pairs st keep_empty bytes store most rise cut here =
    let rs = runs pairs in
    let o : pick (bad_regions s) (refused BadRegions) (subtables_or s rs (checked_cut s rs keep_empty)) ≡ written st = rw (ne_eqb (regions_at s) 0 here) at cut in
    let r = passed (bad_regions s) BadRegions _ st o in
    let t = subtables_passed s rs (checked_cut s rs keep_empty) st r.1 in
    let n = passed (both (not keep_empty) (not (some_delta s rs))) NothingKept _ st t.1 in
    let i = passed (bad_region_index s rs) BadRegionIndex _ st n.1 in
    let m = passed (middle_width s rs) MiddleWidth (written (store_bytes s rs)) st i.1 in
    record {
      bytes = bytes;
      most = most;
      rise = rise;
      store = store;
      regions = r.0;
      there = λ k h. (t.0 k h).0;
      whole = λ k h. (t.0 k h).1;
      indexes = i.0;
      widths = m.0;
      is = sym (same_bytes (store_bytes s rs) st m.1);
    }

pub store_accepted : (s pairs st : List ℕ) (keep_empty : Bool) → Bytes s → cut_store s pairs keep_empty ≡ written st → (regions_at s ≡ 0 → ⊥) → Accepted s pairs st
unfolding cut_store bad_pairs
store_accepted s pairs st keep_empty bytes cut here =
    let a = passed (bad_pairs pairs) BadList _ st cut in
    let b = passed (bad_store s) BadStore (cut_opened s pairs keep_empty) st a.1 in
    let l = neither (ltb most_pairs (length pairs)) _ a.0 in
    let f = neither (outers_fall pairs) (twice pairs) l.1 in
    opened_accepted s pairs st keep_empty bytes b.0 (ltb-false most_pairs (length pairs) l.0) f.0 b.1 here

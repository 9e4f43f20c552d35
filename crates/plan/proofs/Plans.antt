-- From what the first pass found to the plan.
use Prim.Native.Nat.{ℕ, ◌+◌, ◌*◌, ◌≤◌}
use mathlib.Core.Path.{◌≡◌, sym, ◌∙◌, refl}
use mathlib.Core.Bool.{Bool, true, false, not}
use mathlib.Core.List.{List, []}
use native.Mathlib.Omega.{arith}
use lib.ListN.{length}
use borrow.Author.Tests.{eq-eqb, ne_eqb}
use Rattle.lists.specs.Pick.{both}
use Rattle.lists.specs.Gather.{rank}
use Rattle.lists.proofs.Selects.{rank_ext}
use Rattle.bits.specs.Bits.{has}
use Rattle.std.specs.Prelude.{Result}
use Rattle.opentype.specs.Store.{regions_at, region_count, record_length}
use Rattle.rules.specs.declared.Refusal.{Refusal}
use Rattle.rules.specs.declared.Refusal.TheVariants.{BadRegions, NothingKept, BadRegionIndex, MiddleWidth}
use Rattle.rules.specs.Numbers.{refused, written}
use Rattle.rules.specs.Lists.{Run, outers_fall, runs}
use Rattle.rules.specs.Open.{bad_regions}
use Rattle.rules.specs.Regions.{is_used}
use Rattle.rules.specs.StoreCut.{store_bytes, store_written, null_store, checked_cut, cut_opened}
use Rattle.laws.specs.Inside.{regions_inside}
use Rattle.laws.specs.Lengths.{length_bytes}
use Rattle.laws.specs.Usable.{all_usable}
use Rattle.readers.specs.declared.store.Regions.{Regions}
use Rattle.rows.specs.Area.{used_in}
use Rattle.measure.specs.declared.Measure.{Measure}
use Rattle.measure.specs.Measured.{Whole}
use Rattle.plan.specs.declared.Layout.{Layout}
use Rattle.plan.specs.Layout.{Ready, cut_runs, LaidAs}

-- ---- 7, 8, 9

module _ {s : List ℕ} {rs : List Run} {w : List ℕ} {m : Measure} (h : Whole s rs w m) (keep : Bool) where
  pub gives_7 : both (not keep) (not m.live) ≡ true → checked_cut s rs keep ≡ refused NothingKept
  unfolding checked_cut
  gives_7 e = rw (← h.live, e)

  pub gives_8 : both (not keep) (not m.live) ≡ false → m.index ≡ true → checked_cut s rs keep ≡ refused BadRegionIndex
  unfolding checked_cut
  gives_8 e i = rw (← h.live, e, ← h.index, i)

  pub gives_9 : both (not keep) (not m.live) ≡ false → m.index ≡ false → m.middle ≡ true → checked_cut s rs keep ≡ refused MiddleWidth
  unfolding checked_cut
  gives_9 e i d = rw (← h.live, e, ← h.index, i, ← h.middle, d)

  pub gives_bytes : both (not keep) (not m.live) ≡ false → m.index ≡ false → m.middle ≡ false → checked_cut s rs keep ≡ written (store_bytes s rs)
  unfolding checked_cut store_written
  gives_bytes e i d = rw (← h.live, e, ← h.index, i, ← h.middle, d)

-- ---- the layout

pub ready_of : (r : Regions) (pairs : List ℕ) {w : List ℕ} {m : Measure} {used list : ℕ} → length pairs ≤ 8192 → outers_fall pairs ≡ false
    → Whole r.store.bytes.now (runs pairs) w m → m.index ≡ false → used ≡ rank (has (used_in w)) r.count → used ≤ r.count
    → list ≡ 4 + used * (6 * r.axes) → list ≤ 1610588164
    → Ready r.store.bytes.now pairs w (record { regions = r; count = m.count; used = used; length = 8 + 4 * m.count + list + m.length })
unfolding record_length
ready_of r pairs {w} {m} {used} {list} p f h i eu fu el small =
    let s = r.store.bytes.now in
    let rs = runs pairs in
    let inside = regions_inside s r.sound in
    let k : used ≡ rank (λ q. is_used s rs q) (region_count s)
    = eu ∙ rw r.region_count (rank_ext (has (used_in w)) (λ q. is_used s rs q) (region_count s) (λ q l. h.used q l)) in
    record {
      source = refl;
      passed = record {
        pairs_fit = p;
        climb = f;
        list = r.sound;
        usable = all_usable s rs [] (h.subtables (written []));
        named = sym h.index ∙ i;
        used = h.used;
      };
      few = h.few;
      count = h.count;
      noted = h.noted;
      used_fit = omega (arith, inside.few, r.region_count);
      number = k;
      whole = rw (h.count, h.total, el, k, r.axis_count) (sym (length_bytes s inside.inside rs));
      small = omega (arith, h.few, h.small);
    }

-- 5 and 6 let all runs pass
pub plan_whole : {s : List ℕ} (pairs : List ℕ) {w : List ℕ} {m : Measure} (keep : Bool) (v : List ℕ) (r : Result Layout Refusal) → Whole s (runs pairs) w m
    → LaidAs (checked_cut s (runs pairs) keep) s pairs v r → LaidAs (cut_runs s (runs pairs) keep) s pairs v r
plan_whole {s} pairs keep v r h p = rw (h.subtables (checked_cut s (runs pairs) keep)) p

-- ---- a null region list, 4, and the rest

module _ (s pairs : List ℕ) (keep : Bool) where
  pub opens_null : regions_at s ≡ 0 → keep ≡ true → cut_opened s pairs keep ≡ written null_store
  unfolding cut_opened
  opens_null z k = rw (eq-eqb (regions_at s) 0 z, k)

  pub opens_7 : regions_at s ≡ 0 → keep ≡ false → cut_opened s pairs keep ≡ refused NothingKept
  unfolding cut_opened
  opens_7 z k = rw (eq-eqb (regions_at s) 0 z, k)

  pub opens_4 : (regions_at s ≡ 0 → ⊥) → bad_regions s ≡ true → cut_opened s pairs keep ≡ refused BadRegions
  unfolding cut_opened
  opens_4 z b = rw (ne_eqb (regions_at s) 0 z, b)

  pub opens_runs : (regions_at s ≡ 0 → ⊥) → bad_regions s ≡ false → cut_opened s pairs keep ≡ cut_runs s (runs pairs) keep
  unfolding cut_opened
  opens_runs z b = rw (ne_eqb (regions_at s) 0 z, b)

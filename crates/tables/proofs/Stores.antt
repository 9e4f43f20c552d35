-- The store that is planned, and the kept pairs in the work area.
use Prim.Native.Nat.{ℕ, ◌<◌, ◌≤◌, ◌^◌}
use mathlib.Core.Path.{◌≡◌, sym, ap, ◌∙◌}
use mathlib.Core.Bool.{true, false}
use mathlib.Core.List.{List}
use native.Mathlib.Omega.{arith}
use lib.ListN.{length, take}
use Rattle.std.specs.Prelude.{Ok, Option, Some, None}
use Rattle.rules.specs.Numbers.{written}
use Rattle.rules.specs.Lists.{runs}
use Rattle.rules.specs.Numbering.{named_pairs, bad_outer, kept_pairs}
use Rattle.rules.specs.StoreCut.{store_bytes, cut_opened}
use Rattle.plan.specs.declared.Layout.{Layout}
use Rattle.plan.specs.Layout.{Ready, StorePlanned}
use Rattle.plan.specs.Layout.{Passed as PlanPassed}
use Rattle.bits.specs.Bits.{has}
use Rattle.lists.proofs.Cuts.{part_same}
use Rattle.laws.specs.Lengths.{length_null}
use Rattle.numbering.proofs.Kept.{pairs_kept, numbered_kept}
use Rattle.laws.specs.Glyphs.{good_glyphs}
use Rattle.numbering.specs.Numbered.{Checked, Numbered}
use Rattle.maps.proofs.Plans.{ready}
use Rattle.frame.specs.Plans.{Collected}
use Rattle.tables.specs.Cut.{Passed, store_kept, length_kept, StoreKept}

-- ---- the layout of the store

module _ (pairs w : List ℕ) where
  pub kept_length : (layout : Option Layout) → StoreKept pairs w layout → length_kept layout ≡ length (store_kept pairs layout)
  kept_length None k = sym length_null
  kept_length (Some l) k = k.whole

  pub kept_small : (layout : Option Layout) → StoreKept pairs w layout → length_kept layout < 2 ^ 31
  kept_small None k = omega arith
  kept_small (Some l) k = k.small

-- what the layout of the store s gives
pub outcome_planned : (s pairs w : List ℕ) {found : List ℕ} → found ≡ pairs → (layout : Option Layout) → StorePlanned s found true w (Ok layout)
    → cut_opened s pairs true ≡ written (store_kept pairs layout)
outcome_planned s pairs w same None p = rw (← same) p
outcome_planned s pairs w same (Some l) p = (rw same at p.0) ∙ ap (λ (x : List ℕ). written (store_bytes x (runs pairs))) (sym p.1.source)

-- what is known of the store's layout stands in the first 9,088 numbers
module _ (pairs w v : List ℕ) (same : take 9088 v ≡ take 9088 w) where
  still_passed : {s : List ℕ} → PlanPassed s pairs w → PlanPassed s pairs v
  still_passed p = record {
    pairs_fit = p.pairs_fit;
    climb = p.climb;
    list = p.list;
    usable = p.usable;
    named = p.named;
    used = λ q h. ap (λ (ws : List ℕ). has ws q) (part_same v w 9088 same 8704 128 (omega arith)) ∙ p.used q h;
  }

  still_ready : {s : List ℕ} {l : Layout} → Ready s pairs w l → Ready s pairs v l
  still_ready {l = l} r = record {
    source = r.source;
    passed = still_passed r.passed;
    few = r.few;
    count = r.count;
    noted = part_same v w 9088 same 8832 l.count (omega (arith, r.few)) ∙ r.noted;
    used_fit = r.used_fit;
    number = r.number;
    whole = r.whole;
    small = r.small;
  }

  pub still_kept : (layout : Option Layout) → StoreKept pairs w layout → StoreKept pairs v layout
  still_kept None k = k
  still_kept (Some l) k = still_ready k

-- ---- the kept pairs in the work area

pub checked : {maps count : ℕ} {t es : List ℕ} → Passed maps t es → count ≤ 256 → bad_outer count (named_pairs maps t es) ≡ false
    → Checked maps count t es
checked p few named = record {
  some = p.one;
  most = p.four;
  short = (good_glyphs _ p.glyphs).few;
  few = few;
  named = named;
}

pub collected : {maps : ℕ} {t es : List ℕ} {n : ℕ} {w : List ℕ} → Passed maps t es → take n w ≡ kept_pairs maps t es → Numbered w n
    → Collected maps t es n w
collected p e d = record { four = p.four; pairs = e; numbered = d; ready = λ m h. ready p.glyphs e h }

-- it stays

pub still_collected : {maps : ℕ} {t es : List ℕ} {n : ℕ} {w : List ℕ} {v : List ℕ} → Collected maps t es n w → take 8704 v ≡ take 8704 w → length v ≡ length w
    → Collected maps t es n v
still_collected {v = v} c e l =
    let same = pairs_kept c.numbered v e in
    let numbered = numbered_kept c.numbered v e l in
    record {
      four = c.four;
      pairs = same ∙ c.pairs;
      numbered = numbered;
      ready = λ m h. let r = c.ready m h in record { glyphs = r.glyphs; kept = λ counted k g. rw same (r.kept counted k g) };
    }

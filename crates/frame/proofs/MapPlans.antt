-- The plans of a table's maps, one map after the other.
use Prim.Native.Nat.{ℕ, ◌+◌, ◌<◌, ◌≤◌}
use mathlib.Core.Path.{◌≡◌, refl, sym, ◌∙◌}
use mathlib.Core.Bool.{Bool, true, false}
use mathlib.Core.List.{List, [], ◌∷◌, ◌++◌, append-nil}
use native.Mathlib.Omega.{arith}
use native.Mathlib.Nat.{not-suc-le-zero, add-zero}
use native.Mathlib.Decide.{dec_lt}
use lib.ListN.{length, take, length-append, get_or-append}
use lib.Seq.{get_or-append_seam}
use lib.Dec.{ltb}
use borrow.Author.Tests.{ltb-false}
use Rattle.std.specs.Prelude.{Option}
use Rattle.lists.specs.Pick.{pick}
use Rattle.lists.specs.Search.{some}
use Rattle.lists.proofs.Each.{some-not}
use Rattle.lists.proofs.Tests.{some_none, some_at}
use Rattle.lists.proofs.Tabs.{some_turn}
use Rattle.lists.proofs.Pieces.{gather_none, gather_more, gather_length_more}
use Rattle.lists.proofs.Laid.{Laid}
use Rattle.rules.specs.Lists.{runs}
use Rattle.rules.specs.Maps.{wide_entry, map_bytes}
use Rattle.maps.specs.declared.plan.MapPlan.{MapPlan}
use Rattle.maps.specs.Plans.{MapPlanned, size_of, length_of}
use Rattle.maps.proofs.Bytes.{plan_length_lem, plan_wide}
use Rattle.frame.specs.Plans.{Collected, kept_runs, part_at, plan_at, MapsPlanned}

-- ---- the kept pairs as they stand in the work area, and by the rules

module _ {maps : ℕ} {t es : List ℕ} {n : ℕ} {w : List ℕ} (c : Collected maps t es n w) where
  pub by_rules : (m : ℕ) (plan : Option MapPlan) → MapPlanned t (runs (take n w)) es m plan → MapPlanned t (kept_runs maps t es) es m plan
  by_rules m plan h = rw c.pairs at h

  pub same-part : (m : ℕ) → map_bytes t (runs (take n w)) es m ≡ part_at maps t es m
  same-part m = rw c.pairs

  -- 14 of one map is 14 of the table
  pub wide_found : (m : ℕ) → m < maps → wide_entry t (runs (take n w)) es m ≡ true → some (λ k. wide_entry t (kept_runs maps t es) es k) maps ≡ true
  wide_found m l h = some_at (λ k. wide_entry t (kept_runs maps t es) es k) m maps l (rw c.pairs at h)

-- ---- the loop that plans them

pub planned_none : (maps : ℕ) (t es : List ℕ) → MapsPlanned maps t es [] false 0 0
planned_none maps t es = record {
  count = refl;
  each = λ m h. absurd (not-suc-le-zero h);
  entries = rw some_none;
  bytes = rw gather_none;
  short = omega arith;
}

module _ {maps : ℕ} {t es : List ℕ} {plans : List (Option MapPlan)} {wide : Bool} {total k : ℕ} (done : MapsPlanned maps t es plans wide total k) where
  -- one more map, of n bytes
  pub planned_more : {n : ℕ} {wide' : Bool} (plan : Option MapPlan) → MapPlanned t (kept_runs maps t es) es k plan → wide' ≡ pick (ltb 4 (size_of plan)) true wide
      → n ≡ length_of plan → n ≤ 393214 → MapsPlanned maps t es (plans ++ plan ∷ []) wide' (total + n) (k + 1)
  planned_more plan this w l small =
      let part : ℕ → List ℕ = λ m. part_at maps t es m in
      let size = plan_length_lem t (kept_runs maps t es) es k plan this in
      record {
        count = rw length-append (omega (arith, done.count));
        each = at;
        entries = w ∙ rw (plan_wide t (kept_runs maps t es) es k plan this, done.entries) (sym (some_turn (λ m. wide_entry t (kept_runs maps t es) es m) k refl));
        bytes = rw gather_length_more (omega (arith, done.bytes));
        short = omega (arith, done.short);
      }
    where
      at : (m : ℕ) → m < k + 1 → MapPlanned t (kept_runs maps t es) es m (plan_at (plans ++ plan ∷ []) m)
      at m l =
          elim (dec_lt m k) [
            | yes b ↦ (let i : m < length plans = omega (arith, done.count) in rw get_or-append (done.each m b))
            | no b ↦ (let e : m ≡ k = omega arith in rw (e, ← done.count, get_or-append_seam plans plan []) (rw done.count this))
          ]

  pub part_length : (m : ℕ) → m < k → length_of (plan_at plans m) ≡ length (part_at maps t es m)
  part_length m l = plan_length_lem t (kept_runs maps t es) es m (plan_at plans m) (done.each m l)

-- where 14 is not given, an entry has at most 4 bytes
pub narrow : {maps : ℕ} {t es : List ℕ} {plans : List (Option MapPlan)} {total k : ℕ} → MapsPlanned maps t es plans false total k → (m : ℕ) → m < k
    → size_of (plan_at plans m) ≤ 4
narrow {maps} {t} {es} {plans} {k = k} h m l =
    ltb-false 4 (size_of (plan_at plans m))
    (plan_wide t (kept_runs maps t es) es m (plan_at plans m) (h.each m l) ∙ some-not (λ j. wide_entry t (kept_runs maps t es) es j) k m (sym h.entries) l)

-- a map with no bytes, behind those that are laid
pub laid_skip : {f : ℕ → List ℕ} {old : List ℕ} {k at : ℕ} {out : List ℕ} {n : ℕ} → Laid f old k at out → f k ≡ [] → n ≡ length (f k) → Laid f old (k + 1) (at + n) out
laid_skip l e z = record {
  up_to = rw gather_length_more (omega (arith, l.up_to));
  same = l.same;
  is = rw (gather_more, e, append-nil, z, e, add-zero) l.is;
}

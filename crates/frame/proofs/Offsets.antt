-- The offsets of the maps: what the loop has written so far, and that it is what the rules say.
use Prim.Native.Nat.{ℕ, zero, suc, ◌+◌, ◌*◌, ◌≤◌, ◌<◌}
use mathlib.Core.Path.{◌≡◌, refl, sym, ◌∙◌}
use mathlib.Core.Bool.{Bool, false}
use mathlib.Core.List.{List, [], ◌∷◌, ◌++◌, append_assoc, append-nil}
use native.Mathlib.Omega.{arith}
use native.Mathlib.Numerals.{add-one}
use native.Mathlib.Nat.{add-zero}
use lib.ListN.{length, length-append}
use lib.Dec.{eqb}
use borrow.Author.Tests.{ne_eqb}
use Rattle.lists.specs.Pick.{pick}
use Rattle.lists.specs.Gather.{gather, flat, tab}
use Rattle.lists.proofs.Pieces.{gather_none, gather_more, gather-length}
use Rattle.lists.proofs.Tabs.{gather-tab}
use Rattle.lists.proofs.Parts.{all_laid}
use Rattle.cells.specs.Be.{be_bytes, Wrote}
use Rattle.cells.proofs.Cells.{length-be_bytes, wrote_cat, wrote_all}
use Rattle.rules.specs.TableCut.{map_offsets}
use Rattle.std.specs.Prelude.{Option, Some, None}
use Rattle.maps.specs.declared.plan.MapPlan.{MapPlan}
use Rattle.maps.specs.Plans.{MapPlanned, size_of, length_of}
use Rattle.maps.proofs.Bytes.{plan_none, plan_length_lem, length_narrow}
use Rattle.frame.specs.Plans.{kept_runs, plan_at, lengths, place_of, offset_at, part_at, MapsPlanned}
use Rattle.frame.proofs.MapPlans.{part_length, narrow}

length-offsets : (plans : List (Option MapPlan)) (first k : ℕ) → length (gather (λ m. offset_at plans first m) k) ≡ k * 4
length-offsets plans first k = gather-length (λ m. offset_at plans first m) 4 (λ m. length-be_bytes 4 _) k

-- of maps with at most 4 bytes an entry, each has at most 4 + 65,535 × 4
pub lengths_narrow : (plans : List (Option MapPlan)) (k : ℕ) → ((m : ℕ) → m < k → size_of (plan_at plans m) ≤ 4) → lengths plans k ≤ 262144 * k
unfolding lengths
lengths_narrow plans zero few = omega arith
lengths_narrow plans (suc k) few =
    let before = lengths_narrow plans k (λ m l. few m (omega arith)) in
    omega (arith, before, length_narrow (plan_at plans k) (few k (omega arith)))

-- ---- the loop

-- the offsets of the first k maps are written over old, and the next map is at a place
pub record Offsets (plans : List (Option MapPlan)) (first : ℕ) (old : List ℕ) (k at : ℕ) (out : List ℕ) : Type 0 where
  pub place : at ≡ first + lengths plans k
  pub short : lengths plans k ≤ 393214 * k
  pub wrote : Wrote old 0 (gather (λ m. offset_at plans first m) k) out

pub offsets_none : (plans : List (Option MapPlan)) (first : ℕ) (old : List ℕ) → Offsets plans first old 0 first old
unfolding lengths
offsets_none plans first old = record { place = omega arith; short = omega arith; wrote = record { is = rw gather_none } }

pub offsets_more : {plans : List (Option MapPlan)} {first : ℕ} {old : List ℕ} {k at : ℕ} {out out' : List ℕ} {v n : ℕ} → Offsets plans first old k at out
    → Wrote out (4 * k) (be_bytes 4 v) out' → v ≡ place_of (plan_at plans k) at → n ≡ length_of (plan_at plans k) → n ≤ 393214
    → Offsets plans first old (k + 1) (at + n) out'
unfolding lengths
offsets_more {plans} {first} {k = k} done w v l small =
    let e = length-offsets plans first k in
    record {
      place = rw add-one (omega (arith, done.place));
      short = rw add-one (omega (arith, done.short));
      wrote = rw gather_more (wrote_cat done.wrote (rw (v, done.place) at w) (omega arith));
    }

pub offsets_end : {plans : List (Option MapPlan)} {first : ℕ} {old : List ℕ} {k at : ℕ} {out : List ℕ} (maps : ℕ) → Offsets plans first old k at out → k ≡ maps
    → length old ≡ 4 * maps → out ≡ gather (λ m. offset_at plans first m) maps
offsets_end {plans} {first} {old} maps done e l =
    let bytes = gather (λ m. offset_at plans first m) maps in
    let n : length bytes ≡ maps * 4 = length-offsets plans first maps in
    wrote_all (rw e at done.wrote) (omega arith) ∙ all_laid bytes old (length bytes) (omega arith)

-- ---- the rules

-- a map that is not written has the offset 0
plan_offset : (maps : ℕ) (t es : List ℕ) (m : ℕ) (plan : Option MapPlan) → MapPlanned t (kept_runs maps t es) es m plan → (at : ℕ)
    → pick (eqb (length (part_at maps t es m)) 0) 0 at ≡ place_of plan at
plan_offset maps t es m None off at = rw (plan_none t (kept_runs maps t es) es m off)
plan_offset maps t es m (Some p) on at = rw (← plan_length_lem t (kept_runs maps t es) es m (Some p) on, ne_eqb (4 + p.count * p.size) 0 (λ e. omega arith))

-- one more map, behind the others
offsets_behind : (at : ℕ) (parts : List (List ℕ)) (part : List ℕ)
    → map_offsets at (parts ++ part ∷ []) ≡ map_offsets at parts ++ be_bytes 4 (pick (eqb (length part) 0) 0 (at + length (flat (λ p. p) parts)))
unfolding map_offsets flat
offsets_behind at [] part = simp (append-nil, add-zero)
offsets_behind at (x ∷ xs) part =
    let e : at + length x + length (flat (λ p. p) xs) ≡ at + length (x ++ flat (λ p. p) xs) = rw length-append (omega arith) in
    rw (offsets_behind (at + length x) xs part, append_assoc, e)

module _ {maps : ℕ} {t es : List ℕ} {plans : List (Option MapPlan)} {wide : Bool} {total n : ℕ} (h : MapsPlanned maps t es plans wide total n) where
  lengths_are : (k : ℕ) → k ≤ n → lengths plans k ≡ length (gather (λ m. part_at maps t es m) k)
  unfolding lengths gather
  lengths_are zero l = refl
  lengths_are (suc k) l = rw (length-append, lengths_are k (omega arith), part_length h k l)

  pub offsets_up_to : (first k : ℕ) → k ≤ n → gather (λ m. offset_at plans first m) k ≡ map_offsets first (tab (λ m. part_at maps t es m) k)
  unfolding gather tab map_offsets
  offsets_up_to first zero l = refl
  offsets_up_to first (suc k) l =
      rw (offsets_up_to first k (omega arith), ← plan_offset maps t es k (plan_at plans k) (h.each k l), lengths_are k (omega arith), gather-tab (λ part. part) (λ m. part_at maps t es m))
      (sym (offsets_behind first (tab (λ m. part_at maps t es m) k) (part_at maps t es k)))

-- where 14 is not given, each of a table's maps has at most 4 + 65,535 × 4 bytes
pub total_narrow : {maps : ℕ} {t es : List ℕ} {plans : List (Option MapPlan)} {total k : ℕ} → MapsPlanned maps t es plans false total k → total ≤ 262144 * k
total_narrow {plans = plans} {k = k} h = omega (arith, h.bytes, lengths_are h k (omega arith), lengths_narrow plans k (narrow h))

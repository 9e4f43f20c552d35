-- What the openers give.
use Rattle.std.specs.Prelude.{ℕ, ◌≡◌, true, false, List, Result, Ok, Err, Option, Some, None}
use Rattle.lists.specs.Pick.{pick}
use Rattle.opentype.specs.Store.{regions_at, subtable_at}
use Rattle.rules.specs.Open.{bad_regions, absent_subtable, bad_subtable}
use Rattle.rules.specs.declared.Refusal.{Refusal}
use Rattle.rules.specs.declared.Refusal.TheVariants.{BadRegions, AbsentSubtable, BadSubtable}
use Rattle.readers.specs.declared.store.Regions.{Regions}
use Rattle.readers.specs.declared.subtable.Shape.{Shape}
use Rattle.readers.specs.declared.subtable.Subtable.{Subtable}
use Rattle.readers.specs.Opened.{Opened}

-- 4: the region list of a store, where it has one
abbrev pub RegionsOpening : List ℕ → Result (Option Regions) Refusal → Type 0
RegionsOpening s (Ok None) = regions_at s ≡ 0
RegionsOpening s (Ok (Some r)) = (regions_at s ≡ 0 → ⊥) × (r.store.bytes.now ≡ s)
RegionsOpening s (Err r) = (regions_at s ≡ 0 → ⊥) × (r ≡ BadRegions) × (bad_regions s ≡ true)

-- 6: what the opening of the subtable at a place gives
pub record Whole (s : List ℕ) (at : ℕ) (t : Shape) : Type 0 where
  pub good : bad_subtable s at ≡ false
  pub place : t.at ≡ at
  pub opened : Opened s t

-- 5, then 6: what the opening of an outer's subtable gives
pub record Usable (s : List ℕ) (o : ℕ) (t : Shape) : Type 0 where
  pub there : absent_subtable s o ≡ false
  pub whole : Whole s (subtable_at s o) t

pub record Unusable (s : List ℕ) (o : ℕ) (r : Refusal) : Type 0 where
  pub is : r ≡ pick (absent_subtable s o) AbsentSubtable BadSubtable
  pub why : pick (absent_subtable s o) true (bad_subtable s (subtable_at s o)) ≡ true

abbrev pub Opening : List ℕ → ℕ → Result Subtable Refusal → Type 0
Opening s o (Ok t) = (t.bytes.now ≡ s) × Usable s o t.shape
Opening s o (Err r) = Unusable s o r

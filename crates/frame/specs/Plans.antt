-- The plans of a table's maps, and what stands when they are made and written.
-- maps is how many maps the table t has, es are the glyph entries, n is how many kept pairs stand in the work area w.
use Rattle.std.specs.Prelude.{ℕ, zero, suc, ◌+◌, ◌*◌, ◌<◌, ◌≤◌, ◌≡◌, Bool, List, length, get_or, take, Option, Some, None}
use Rattle.lists.specs.Gather.{gather}
use Rattle.lists.specs.Search.{some}
use Rattle.cells.specs.Be.{be_bytes}
use Rattle.rules.specs.Lists.{Run, runs}
use Rattle.rules.specs.Numbering.{kept_pairs}
use Rattle.rules.specs.Maps.{wide_entry, map_bytes}
use Rattle.numbering.specs.Numbered.{Numbered}
use Rattle.maps.specs.declared.plan.MapPlan.{MapPlan}
use Rattle.maps.specs.Plans.{Ready, MapPlanned, length_of}

-- the kept items of the used subtables
abbrev pub kept_runs : ℕ → List ℕ → List ℕ → List Run
kept_runs maps t es = runs (kept_pairs maps t es)

-- the bytes of map m
abbrev pub part_at : ℕ → List ℕ → List ℕ → ℕ → List ℕ
part_at maps t es m = map_bytes t (kept_runs maps t es) es m

-- past 13: the kept pairs are collected and numbered, and each map can be planned and written
pub record Collected (maps : ℕ) (t es : List ℕ) (n : ℕ) (w : List ℕ) : Type 0 where
  pub four : maps ≤ 4
  pub pairs : take n w ≡ kept_pairs maps t es
  pub numbered : Numbered w n
  pub ready : (m : ℕ) → m < maps → Ready n w t es m

-- the plan of map m
abbrev pub plan_at : List (Option MapPlan) → ℕ → Option MapPlan
plan_at plans m = get_or plans m None

-- the bytes of the maps before map m
unfoldable pub lengths : List (Option MapPlan) → ℕ → ℕ
lengths plans zero = 0
lengths plans (suc m) = lengths plans m + length_of (plan_at plans m)

-- the offset of a map with the plan at a place; 0 for one that is not written
abbrev pub place_of : Option MapPlan → ℕ → ℕ
place_of None at = 0
place_of (Some p) at = at

-- the offset of map m, where the first is at a place
abbrev pub offset_at : List (Option MapPlan) → ℕ → ℕ → List ℕ
offset_at plans first m = be_bytes 4 (place_of (plan_at plans m) (first + lengths plans m))

-- The first k maps are planned: each has its plan, wide says whether one of them needs more than 4 bytes an entry (14), and total is how
-- many bytes they have. A map has at most 4 + 65,535 × 6.
pub record MapsPlanned (maps : ℕ) (t es : List ℕ) (plans : List (Option MapPlan)) (wide : Bool) (total k : ℕ) : Type 0 where
  pub count : length plans ≡ k
  pub each : (m : ℕ) → m < k → MapPlanned t (kept_runs maps t es) es m (plan_at plans m)
  pub entries : wide ≡ some (λ m. wide_entry t (kept_runs maps t es) es m) k
  pub bytes : total ≡ length (gather (λ m. part_at maps t es m) k)
  pub short : total ≤ 393214 * k

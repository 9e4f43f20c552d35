-- What is decided for a store before it is written.
use Rattle.std.specs.Prelude.{ℕ, ◌<◌, ◌≤◌, ◌^◌, ◌≡◌, Bool, false, List, length, take, drop, Result, Ok, Err, Option, Some, None}
use Rattle.lists.specs.Gather.{rank}
use Rattle.lists.specs.Search.{any}
use Rattle.bits.specs.Bits.{has}
use Rattle.opentype.specs.Store.{region_count}
use Rattle.rules.specs.declared.Refusal.{Refusal}
use Rattle.rules.specs.Numbers.{Outcome, refused, written}
use Rattle.rules.specs.Lists.{Run, outers_fall, runs}
use Rattle.rules.specs.Open.{bad_regions}
use Rattle.rules.specs.Regions.{is_used}
use Rattle.rules.specs.StoreCut.{bad_region_index, store_bytes, null_store, subtables_or, checked_cut, cut_opened}
use Rattle.laws.specs.Lengths.{sizes}
use Rattle.laws.specs.Usable.{unusable}
use Rattle.rows.specs.Area.{used_in}
use Rattle.plan.specs.declared.Layout.{Layout}

-- every check has passed, and the work area w holds the used regions
pub record Passed (s pairs w : List ℕ) : Type 0 where
  pub pairs_fit : length pairs ≤ 8192
  pub climb : outers_fall pairs ≡ false
  pub list : bad_regions s ≡ false
  pub usable : any (λ run. unusable s run) (runs pairs) ≡ false
  pub named : bad_region_index s (runs pairs) ≡ false
  pub used : (q : ℕ) → q < region_count s → has (used_in w) q ≡ is_used s (runs pairs) q

-- so, and l is the layout, and w holds the subtables' lengths too
pub record Ready (s pairs w : List ℕ) (l : Layout) : Type 0 where
  pub source : l.regions.store.bytes.now ≡ s
  pub passed : Passed s pairs w
  pub few : l.count ≤ 256
  pub count : l.count ≡ length (runs pairs)
  pub noted : take l.count (drop 8832 w) ≡ sizes s (runs pairs)
  pub used_fit : l.used ≤ 4096
  pub number : l.used ≡ rank (λ q. is_used s (runs pairs) q) (region_count s)
  pub whole : l.length ≡ length (store_bytes s (runs pairs))
  pub small : l.length < 2 ^ 31

-- 5 to 9
abbrev pub cut_runs : List ℕ → List Run → Bool → Outcome
cut_runs s rs keep_empty = subtables_or s rs (checked_cut s rs keep_empty)

-- the layout says what an outcome says
abbrev pub LaidAs : Outcome → List ℕ → List ℕ → List ℕ → Result Layout Refusal → Type 0
LaidAs o s pairs w (Ok l) = (o ≡ written (store_bytes s (runs pairs))) × Ready s pairs w l
LaidAs o s pairs w (Err q) = o ≡ refused q

-- the plan does; the null store has no layout
abbrev pub PlannedAs : Outcome → List ℕ → List ℕ → List ℕ → Result (Option Layout) Refusal → Type 0
PlannedAs o s pairs w (Ok None) = o ≡ written null_store
PlannedAs o s pairs w (Ok (Some l)) = LaidAs o s pairs w (Ok l)
PlannedAs o s pairs w (Err q) = o ≡ refused q

abbrev pub StorePlanned : List ℕ → List ℕ → Bool → List ℕ → Result (Option Layout) Refusal → Type 0
StorePlanned s pairs keep_empty w r = PlannedAs (cut_opened s pairs keep_empty) s pairs w r

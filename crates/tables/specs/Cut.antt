-- What stands between the checks of a table's cut.
use Rattle.std.specs.Prelude.{ℕ, ◌≤◌, ◌<◌, ◌≡◌, false, List, eqb, Option, Some, None}
use Rattle.opentype.specs.Table.{store_at}
use Rattle.rules.specs.Lists.{runs, bad_glyphs}
use Rattle.rules.specs.Open.{bad_header}
use Rattle.rules.specs.StoreCut.{store_bytes, null_store}
use Rattle.rules.specs.Numbers.{Outcome, written}
use Rattle.rules.specs.Numbering.{kept_pairs}
use Rattle.rules.specs.TableCut.{with_store}
use Rattle.frame.specs.Plans.{kept_runs}
use Rattle.plan.specs.declared.Layout.{Layout}
use Rattle.plan.specs.Layout.{Ready}

-- 2 and 11 let a table with one to four maps through, and its store is not null
pub record Passed (maps : ℕ) (t es : List ℕ) : Type 0 where
  pub one : 0 < maps
  pub four : maps ≤ 4
  pub glyphs : bad_glyphs es ≡ false
  pub header : bad_header maps t ≡ false
  pub there : eqb (store_at t) 0 ≡ false

-- the bytes of the store with the layout, for its kept pairs; a null store has none
abbrev pub store_kept : List ℕ → Option Layout → List ℕ
store_kept pairs None = null_store
store_kept pairs (Some l) = store_bytes l.regions.store.bytes.now (runs pairs)

-- how many they are
abbrev pub length_kept : Option Layout → ℕ
length_kept None = 8
length_kept (Some l) = l.length

-- its writer can be called
abbrev pub StoreKept : List ℕ → List ℕ → Option Layout → Type 0
StoreKept pairs w None = Unit {0}
StoreKept pairs w (Some l) = Ready l.regions.store.bytes.now pairs w l

-- the outcome of a table, with the store that is planned
abbrev pub with_planned : ℕ → List ℕ → List ℕ → Option Layout → Outcome
with_planned maps t es layout = with_store maps t (kept_runs maps t es) es (written (store_kept (kept_pairs maps t es) layout))

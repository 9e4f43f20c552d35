-- What a demand is said of: every accepted cut, and every accepted call with the first bytes of its output.
-- `Says` is the demand: of a source, the caller's list and the bytes that were written.
use Rattle.std.specs.Prelude.{ℕ, ◌≤◌, ◌≡◌, Bool, List, take, Ok}
use Rattle.opentype.specs.Store.{regions_at}
use Rattle.opentype.specs.Table.{store_at, store_of, hvar_maps, vvar_maps}
use Rattle.rules.specs.Numbers.{written}
use Rattle.rules.specs.StoreCut.{cut_store}
use Rattle.rules.specs.TableCut.{cut_table, cut_hvar, cut_vvar}
use Rattle.rules.specs.Promise.{Promise}
use Rattle.demands.specs.Reading.{Bytes}

-- the region list offset of a store isn't 0
pub record HasRegions (s : List ℕ) : Type 0 where
  pub regions : regions_at s ≡ 0 → ⊥

-- the store offset of a table isn't 0
pub record HasStore (t : List ℕ) : Type 0 where
  pub store : store_at t ≡ 0 → ⊥

-- and the region list offset of that store isn't either
pub record Varies (t : List ℕ) : Type 0 where
  pub store : store_at t ≡ 0 → ⊥
  pub regions : regions_at (store_of t) ≡ 0 → ⊥

-- every cut of a store that wrote w
unfoldable pub OfStoreCuts : (List ℕ → List ℕ → List ℕ → Type 0) → Type 0
OfStoreCuts Says =
    (s pairs w : List ℕ) (keep_empty : Bool) → Bytes s → HasRegions s
    → cut_store s pairs keep_empty ≡ written w
    → Says s pairs w

-- every call of cut_store that answered n bytes: work, out before it, work', out' after it
unfoldable pub OfStoreCalls : (List ℕ → List ℕ → List ℕ → Type 0) → Type 0
OfStoreCalls Says =
    (s pairs : List ℕ) (keep_empty : Bool) (work out work' out' : List ℕ) (n : ℕ) → Bytes s → HasRegions s
    → Promise (cut_store s pairs keep_empty) work out (Ok n) work' out'
    → Says s pairs (take n out')

-- 3 maps or 4
pub record HvarOrVvar (maps : ℕ) : Type 0 where
  pub low : hvar_maps ≤ maps
  pub high : maps ≤ vvar_maps

-- every cut of a table with so many maps that wrote u; `Needs` is what the table has to have
unfoldable pub OfTableCuts : (List ℕ → Type 0) → (ℕ → List ℕ → List ℕ → List ℕ → Type 0) → Type 0
OfTableCuts Needs Says =
    (maps : ℕ) (t es u : List ℕ) → HvarOrVvar maps → Bytes t → Needs t
    → cut_table maps t es ≡ written u
    → Says maps t es u

-- every call of cut_hvar, and of cut_vvar, that answered n bytes
unfoldable pub OfHvarCalls : (List ℕ → Type 0) → (ℕ → List ℕ → List ℕ → List ℕ → Type 0) → Type 0
OfHvarCalls Needs Says =
    (t es work out work' out' : List ℕ) (n : ℕ) → Bytes t → Needs t
    → Promise (cut_hvar t es) work out (Ok n) work' out'
    → Says hvar_maps t es (take n out')

unfoldable pub OfVvarCalls : (List ℕ → Type 0) → (ℕ → List ℕ → List ℕ → List ℕ → Type 0) → Type 0
OfVvarCalls Needs Says =
    (t es work out work' out' : List ℕ) (n : ℕ) → Bytes t → Needs t
    → Promise (cut_vvar t es) work out (Ok n) work' out'
    → Says vvar_maps t es (take n out')

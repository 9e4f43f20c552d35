-- The store of a written table leaves room for the maps: their offsets fit 32 bits.
use Prim.Native.Nat.{ℕ, ◌^◌, ◌<◌, ◌≤◌}
use mathlib.Core.Path.{◌≡◌}
use mathlib.Core.Bool.{true}
use mathlib.Core.List.{List}
use native.Mathlib.Omega.{arith}
use native.Mathlib.Decide.{ℕ_discrete}
use lib.ListN.{length, length-append}
use lib.Seq.{get_or-drop}
use borrow.Author.Tests.{eq-eqb}
use Rattle.cells.proofs.Cells.{length-be_bytes}
use Rattle.opentype.specs.Store.{regions_at}
use Rattle.opentype.specs.Table.{store_of}
use Rattle.rules.specs.StoreCut.{null_store, cut_opened}
use Rattle.rules.specs.Numbering.{kept_pairs}
use Rattle.laws.specs.Passed.{same_bytes}
use Rattle.laws.specs.Outers.{climbs_not_fall}
use Rattle.laws.specs.Kept.{kept_climbs, kept_few}
use Rattle.demands.specs.Reading.{Bytes}
use Rattle.reread.proofs.Accepted.{Accepted, opened_accepted}
use Rattle.reread.proofs.Bounds.{store_short}
use Rattle.remapped.proofs.Cut.{Cut}

pub store_bytes_lem : (t : List ℕ) → Bytes t → Bytes (store_of t)
unfolding store_of
store_bytes_lem t b = record { byte = λ i. rw (get_or-drop _ t i 0) (b.byte _) }

module _ (maps : ℕ) (t es u : List ℕ) (few : 0 < maps) (most : maps ≤ 4) (bytes : Bytes t) (done : Cut maps t es u) where
  -- the cut of the table's store, for the kept pairs
  pub store_cut : (regions_at (store_of t) ≡ 0 → ⊥) → Accepted (store_of t) (kept_pairs maps t es) done.store
  store_cut here =
      opened_accepted (store_of t) (kept_pairs maps t es) done.store true (store_bytes_lem t bytes) done.opened
      (kept_few maps t es few most done.glyphs.few) (climbs_not_fall 0 (kept_pairs maps t es) (kept_climbs maps t es few)) done.cut here

  pub room_left : length done.store < 2 ^ 31
  unfolding cut_opened null_store
  room_left = elim (ℕ_discrete (regions_at (store_of t)) 0) [
    | yes e ↦ (let n = same_bytes null_store done.store (rw (eq-eqb (regions_at (store_of t)) 0 e) at done.cut) in
        rw (← n) (simp (length-append, length-be_bytes) (omega arith)))
    | no e ↦ (let ok = store_cut e in rw ok.is (store_short ok))
  ]

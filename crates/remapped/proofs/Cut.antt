-- What an accepted cut of a table says: no check of document 01 applied, and what was written.
use Prim.Native.Nat.{ℕ, ◌<◌, ◌≤◌}
use mathlib.Core.Path.{◌≡◌, refl, sym}
use mathlib.Core.Bool.{true, false}
use mathlib.Core.List.{List}
use lib.Dec.{eqb}
use borrow.Author.Tests.{ltb-false, ne_eqb}
use Rattle.lists.specs.Pick.{both}
use Rattle.lists.specs.Gather.{tab}
use Rattle.lists.specs.Search.{some}
use Rattle.lists.proofs.Each.{some-not}
use Rattle.lists.proofs.Choices.{not_second}
use Rattle.opentype.specs.Store.{subtable_count}
use Rattle.opentype.specs.Table.{store_at, map_at, store_of}
use Rattle.rules.specs.declared.Refusal.TheVariants.{BadList, BadStore, BadHeader, BadMap, BadOuter, WideEntry, EmptyStore}
use Rattle.rules.specs.Numbers.{Outcome, refused, written}
use Rattle.rules.specs.Lists.{Run, runs, bad_glyphs}
use Rattle.rules.specs.Open.{bad_store, bad_header, bad_map}
use Rattle.rules.specs.StoreCut.{cut_opened}
use Rattle.rules.specs.Numbering.{present, named_pairs, bad_outer, kept_pairs}
use Rattle.rules.specs.Maps.{is_written, map_plan, entry_size, wide_entry, map_bytes}
use Rattle.rules.specs.TableCut.{lay_table, bad_maps, table_written, with_store, cut_kept, cut_table}
use Rattle.laws.specs.Passed.{not_refused, same_bytes, passed}
use Rattle.laws.specs.Glyphs.{Glyphs, good_glyphs}

pub record Cut (maps : ℕ) (t es u : List ℕ) : Type 0 where
  pub glyphs : Glyphs es
  pub header : bad_header maps t ≡ false
  pub opened : bad_store (store_of t) ≡ false
  pub maps_good : (m : ℕ) → m < maps → present t m ≡ true → bad_map t (map_at t m) ≡ false
  pub store : List ℕ
  pub cut : cut_opened (store_of t) (kept_pairs maps t es) true ≡ written store
  pub narrow : (m : ℕ) → m < maps → is_written t es m ≡ true → entry_size (map_plan t (runs (kept_pairs maps t es)) es m) ≤ 4
  pub is : u ≡ lay_table maps t store (tab (λ m. map_bytes t (runs (kept_pairs maps t es)) es m) maps)

-- the store was written, and 14 did not apply
record Stored (maps : ℕ) (t : List ℕ) (rs : List Run) (es : List ℕ) (o : Outcome) (u : List ℕ) : Type 0 where
  store : List ℕ
  from : o ≡ written store
  narrow : some (λ m. wide_entry t rs es m) maps ≡ false
  is : written (lay_table maps t store (tab (λ m. map_bytes t rs es m) maps)) ≡ written u

stored : (maps : ℕ) (t : List ℕ) (rs : List Run) (es : List ℕ) (o : Outcome) (u : List ℕ) → with_store maps t rs es o ≡ written u → Stored maps t rs es o u
unfolding with_store table_written
stored maps t rs es (refused r) u e = absurd (not_refused r u e)
stored maps t rs es (written store) u e =
    let p = passed (some (λ m. wide_entry t rs es m) maps) WideEntry _ u e in
    record { store = store; from = refl; narrow = p.0; is = p.1 }

pub table_cut : (maps : ℕ) (t es u : List ℕ) → cut_table maps t es ≡ written u → (store_at t ≡ 0 → ⊥) → Cut maps t es u
unfolding cut_table cut_kept bad_maps wide_entry
table_cut maps t es u e here =
    let kept = kept_pairs maps t es in
    let rs = runs kept in
    let s = store_of t in
    let a = passed (bad_glyphs es) BadList _ u e in
    let b = passed (bad_header maps t) BadHeader _ u a.1 in
    let c = passed (bad_store s) BadStore _ u (rw (ne_eqb (store_at t) 0 here) at b.1) in
    let d = passed (eqb (subtable_count s) 0) EmptyStore _ u c.1 in
    let f = passed (bad_maps maps t) BadMap _ u d.1 in
    let g = passed (bad_outer (subtable_count s) (named_pairs maps t es)) BadOuter _ u f.1 in
    let st = stored maps t rs es (cut_opened s kept true) u g.1 in
    record {
      glyphs = good_glyphs es a.0;
      header = b.0;
      opened = c.0;
      maps_good = λ m h p. not_second (present t m) (bad_map t (map_at t m)) (some-not (λ k. both (present t k) (bad_map t (map_at t k))) maps m f.0 h) p;
      store = st.store;
      cut = st.from;
      narrow = λ m h p. ltb-false 4 (entry_size (map_plan t rs es m)) (not_second (is_written t es m) _ (some-not (λ k. wide_entry t rs es k) maps m st.narrow h) p);
      is = sym (same_bytes _ u st.is);
    }

-- The chain of a table's checks: which outcome each answer stands for.
use Prim.Native.Nat.{ℕ, ◌-◌, ◌<◌, ◌≤◌}
use mathlib.Core.Path.{◌≡◌, ap, ◌∙◌}
use mathlib.Core.Bool.{true, false}
use mathlib.Core.List.{List}
use native.Mathlib.Omega.{arith}
use lib.ListN.{length, take, drop, length-drop}
use lib.Seq.{take_all}
use native.Mathlib.Nat.{le_of_eq}
use borrow.Author.Tests.{lt-ltb, eq-eqb, ne_eqb}
use Rattle.opentype.specs.Store.{subtable_count}
use Rattle.opentype.specs.Table.{store_at, store_of}
use Rattle.rules.specs.declared.Refusal.TheVariants.{BadList, BadStore, BadHeader, BadMap, BadOuter, EmptyStore}
use Rattle.rules.specs.Numbers.{refused, written}
use Rattle.rules.specs.Lists.{bad_glyphs}
use Rattle.rules.specs.Open.{bad_store, bad_header}
use Rattle.rules.specs.Numbering.{named_pairs, bad_outer, kept_pairs}
use Rattle.rules.specs.TableCut.{null_table, bad_maps, cut_kept, cut_table}
use Rattle.tables.specs.Cut.{Passed}

-- 2, 11, a null store
module _ (maps : ℕ) (t es : List ℕ) where
  pub bad_list : bad_glyphs es ≡ true → cut_table maps t es ≡ refused BadList
  unfolding cut_table
  bad_list e = rw e

  module _ (list : bad_glyphs es ≡ false) where
    pub short_header : bad_header maps t ≡ true → cut_table maps t es ≡ refused BadHeader
    unfolding cut_table
    short_header e = rw (list, e)

    pub null_store_lem : bad_header maps t ≡ false → store_at t ≡ 0 → cut_table maps t es ≡ written (null_table maps t)
    unfolding cut_table
    null_store_lem h e = rw (list, h, eq-eqb (store_at t) 0 e)

-- a store that starts past the end has no bytes
pub past_end : (t : List ℕ) → length t < store_at t → bad_store (store_of t) ≡ true
unfolding bad_store store_of
past_end t h =
    let n : length (drop (store_at t) t) < 8 = rw length-drop (omega arith) in
    rw (lt-ltb (length (drop (store_at t) t)) 8 n)

-- else what is lent is the store
pub is_store : (t : List ℕ) (at : ℕ) {s : List ℕ} → at ≡ store_at t → s ≡ take (length t - at) (drop at t) → s ≡ store_of t
unfolding store_of
is_store t at e h =
    let n : length (drop at t) ≤ length t - at = le_of_eq (length-drop at t) in
    h ∙ (take_all (length t - at) (drop at t) n ∙ ap (λ (k : ℕ). drop k t) e)

-- 3, 15, 12, 13, of the store s
module _ {maps : ℕ} {t es : List ℕ} (p : Passed maps t es) (s : List ℕ) (is : s ≡ store_of t) where
  pub bad_store_lem : bad_store s ≡ true → cut_table maps t es ≡ refused BadStore
  unfolding cut_table
  bad_store_lem e = rw (p.glyphs, p.header, p.there, ← is, e)

  module _ (opened : bad_store s ≡ false) {count : ℕ} (counted : count ≡ subtable_count s) where
    pub empty_store : count ≡ 0 → cut_table maps t es ≡ refused EmptyStore
    unfolding cut_table
    empty_store e = rw (p.glyphs, p.header, p.there, ← is, opened, ← counted, eq-eqb count 0 e)

    module _ (some : count ≡ 0 → ⊥) where
      pub bad_map_lem : bad_maps maps t ≡ true → cut_table maps t es ≡ refused BadMap
      unfolding cut_table
      bad_map_lem e = rw (p.glyphs, p.header, p.there, ← is, opened, ← counted, ne_eqb count 0 some, e)

      pub bad_outer_lem : bad_maps maps t ≡ false → bad_outer count (named_pairs maps t es) ≡ true → cut_table maps t es ≡ refused BadOuter
      unfolding cut_table
      bad_outer_lem m e = rw (p.glyphs, p.header, p.there, ← is, opened, ← counted, ne_eqb count 0 some, m, e)

      pub all_passed : bad_maps maps t ≡ false → bad_outer count (named_pairs maps t es) ≡ false → cut_table maps t es ≡ cut_kept maps t es (kept_pairs maps t es)
      unfolding cut_table
      all_passed m e = rw (p.glyphs, p.header, p.there, ← is, opened, ← counted, ne_eqb count 0 some, m, e)

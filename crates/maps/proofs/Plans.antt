-- The plan that the code makes of a map is the map's plan.
use Prim.Native.Nat.{ℕ, suc, ◌+◌, ◌*◌, ◌/◌, ◌%◌, ◌≤◌, ◌<◌, min}
use mathlib.Core.Path.{◌≡◌, refl, ◌∙◌}
use mathlib.Core.Bool.{Bool, true, false}
use mathlib.Core.List.{List, map}
use native.Mathlib.Omega.{arith}
use native.Mathlib.Nat.{le_of_suc-le-suc}
use lib.ListN.{length, get_or, take, length-take}
use lib.Dec.{eqb}
use borrow.Author.Tests.{not-true, lt-ltb, eqb-false}
use Rattle.std.proofs.Math.Path.{fun_ext}
use Rattle.std.specs.Prelude.{Option, Some, None, MatchOption}
use Rattle.lists.specs.Pick.{pick, both, differ, differ_yes, differ_no}
use Rattle.lists.proofs.Each.{both_hold, get_d_map}
use Rattle.lists.proofs.Choices.{not_second}
use Rattle.lists.proofs.Members.{length-map}
use Rattle.lists.proofs.Largest.{largest_below}
use Rattle.opentype.specs.Map.{outer_bits}
use Rattle.opentype.specs.Table.{map_at}
use Rattle.rules.specs.Lists.{old_id, bad_glyphs}
use Rattle.rules.specs.Open.{bad_map}
use Rattle.rules.specs.Numbering.{present, counts, pair_of, kept_pairs, new_inner}
use Rattle.rules.specs.Maps.{is_written, map_plan, count_of, bits_for, largest_inner, new_outer_bits, entry_size, wide_entry}
use Rattle.rules.specs.Maps.{MapPlan as PlanOf}
use Rattle.rules.specs.declared.Pair.{Pair}
use Rattle.laws.specs.Glyphs.{good_glyphs}
use Rattle.laws.specs.Kept.{kept_member}
use Rattle.laws.specs.Packed.{Packed, AllKept, packed}
use Rattle.readers.specs.declared.map.Map.{Map}
use Rattle.sources.specs.declared.named.Source.{Source}
use Rattle.sources.specs.Pairs.{pair_at, pair_in, IsSource, Paired}
use Rattle.sources.proofs.Pairs.{pair_is}
use Rattle.numbering.specs.Numbered.{Numbered, Renumbered}
use Rattle.maps.specs.Plans.{kept_in, largest_of, Kept, Ready, Bounds}

-- a map of a table whose kept pairs are collected
pub ready : {maps n m : ℕ} {w t es : List ℕ} → bad_glyphs es ≡ false → take n w ≡ kept_pairs maps t es → m < maps → Ready n w t es m
ready {maps} {n = n} {m} {w} {t} {es} g e l = record {
  glyphs = good_glyphs es g;
  kept = λ h k b. rw e (kept_member maps t es m k l h b);
}

-- ---- a source's pairs and outer bits are those of the table's map

module _ (t : List ℕ) (m : ℕ) (src : Source) (is : IsSource t m src) where
  pub pairs_same : pair_in src ≡ pair_of t m
  unfolding pair_at pair_of present
  pairs_same = fun_ext (λ g. pair_is t m src is g)

  pub outers_same : {v : ℕ} → MatchOption src.map (v ≡ 6) (λ map. v ≡ outer_bits map.bytes.now map.shape.at) → v ≡ new_outer_bits t m
  unfolding new_outer_bits present
  outers_same {v} = one src.map is
    where
      one : (o : Option Map) → MatchOption o (map_at t m ≡ 0) (λ x. (map_at t m ≡ 0 → ⊥) × (x.bytes.now ≡ t) × (x.shape.at ≡ map_at t m))
          → MatchOption o (v ≡ 6) (λ x. v ≡ outer_bits x.bytes.now x.shape.at) → v ≡ pick (differ (map_at t m) 0) (outer_bits t (map_at t m)) 6
      one None a e = rw (differ_no _ _ a) e
      one (Some x) h e = rw (differ_yes _ _ h.0) (e ∙ rw (h.1, h.2))

-- ---- one pair, by its parts

pub renumbered_is : {pair : ℕ} {p r : Pair} {ps : List ℕ} → Paired pair p → Renumbered ps (p.outer * 65536 + p.inner) r → Renumbered ps pair r
renumbered_is p d = rw p.is at d

-- no new inner of the listed glyphs is above the limit
pub under_limit : {n : ℕ} {w : List ℕ} (pair : ℕ → ℕ) {es : List ℕ} {limit : ℕ} → Kept n w pair es → Bounds n w limit → largest_of (kept_in n w) pair es ≤ limit
under_limit {n} {w} pair {es} {limit} k b =
    let f : ℕ → ℕ = λ e. new_inner (kept_in n w) (pair (old_id e)) in
    le_of_suc-le-suc (largest_below (map f es) (suc limit) 0 (omega arith)
    (λ i l. let h : i < length es = rw (length-map f es) at l in rw (get_d_map f 0 0 es i h) (omega (arith, b.each _ (k.each i h)))))

-- ---- whether a map is written

pub none_listed : (t es : List ℕ) (m : ℕ) → eqb (length es) 0 ≡ true → is_written t es m ≡ false
unfolding is_written
none_listed t es m e = rw e (neither (counts t m))
  where
    neither : (b : Bool) → both b false ≡ false
    neither true = refl
    neither false = refl

pub not_counted : (t es : List ℕ) (m : ℕ) → counts t m ≡ false → is_written t es m ≡ false
unfolding is_written
not_counted t es m e = rw e

pub counted : (t es : List ℕ) (m : ℕ) → counts t m ≡ true → eqb (length es) 0 ≡ false → is_written t es m ≡ true
unfolding is_written
counted t es m c e = rw (c, e)

some_listed : (t es : List ℕ) (m : ℕ) → is_written t es m ≡ true → 0 < length es
unfolding is_written
some_listed t es m h =
    let n = eqb-false (length es) 0 (not-true (eqb (length es) 0) (both_hold (counts t m) (differ (length es) 0) h).1) in
    omega arith

-- ---- the plan

module _ {n : ℕ} {w t es : List ℕ} {m : ℕ} (r : Ready n w t es m) (on : is_written t es m ≡ true) where
  abbrev plan : PlanOf
  plan = map_plan t (kept_in n w) es m

  pub packs : Numbered w n → ((i : ℕ) → get_or t i 0 < 256) → both (present t m) (bad_map t (map_at t m)) ≡ false → Packed t (kept_in n w) es m plan
  unfolding is_written
  packs d bytes sound =
      let all : AllKept (take n w) t es m = record {
        climbs = d.climbs;
        few = omega (arith, length-take n w, d.few);
        each = r.kept (both_hold (counts t m) (differ (length es) 0) on).0;
      } in
      packed all bytes r.glyphs (some_listed t es m on) (not_second (present t m) (bad_map t (map_at t m)) sound)

  module _ (pair : ℕ → ℕ) (e : pair ≡ pair_of t m) where
    pub kept_at : Kept n w pair es
    unfolding is_written
    kept_at = record { each = rw e (r.kept (both_hold (counts t m) (differ (length es) 0) on).0) }

    pub count_is : {count : ℕ} → count ≡ count_of pair es → count ≡ plan.count
    unfolding map_plan
    count_is c = rw e at c

    pub bits_is : {bits : ℕ} → bits ≡ bits_for (largest_of (kept_in n w) pair es) → bits ≡ plan.inner_bits
    unfolding map_plan largest_inner
    bits_is b = rw e at b

    pub size_is : {outers bits size : ℕ} → outers ≡ new_outer_bits t m → bits ≡ bits_for (largest_of (kept_in n w) pair es)
        → size ≡ (outers + bits) / 8 + min 1 ((outers + bits) % 8) → size ≡ entry_size plan
    unfolding map_plan largest_inner entry_size
    size_is {outers} {bits} o b s = rw (← o, ← (rw e at b)) (omega arith)

  pub too_wide : {size : ℕ} → size ≡ entry_size plan → 4 < size → wide_entry t (kept_in n w) es m ≡ true
  unfolding wide_entry
  too_wide s h = rw (on, ← s, lt-ltb 4 _ h)

-- The bytes of a map as they are written, and the length of what a plan asks for.
use Prim.Native.Nat.{ℕ, ◌+◌, ◌*◌, ◌%◌, ◌^◌, ◌<◌, ◌≤◌}
use mathlib.Core.Path.{◌≡◌, refl, sym, ap, ◌∙◌}
use mathlib.Core.Bool.{false}
use mathlib.Core.List.{List, [], ◌++◌, map}
use native.Mathlib.Omega.{arith}
use native.Mathlib.Numerals.{add-one}
use native.Mathlib.Nat.{lt_of_lt_of_le, suc-mul, mul-le-mul}
use lib.Pow.{pow_mono}
use lib.ListN.{length, get_or}
use lib.Seq.{length-sets}
use lib.Dec.{ltb}
use borrow.Author.Tests.{le-ltb}
use Rattle.std.specs.Prelude.{Option, Some, None}
use Rattle.lists.specs.Gather.{gather}
use Rattle.lists.proofs.Pieces.{gather_none, gather_more, gather-length}
use Rattle.lists.proofs.Ascending.{Rises}
use Rattle.lists.proofs.Parts.{all_laid}
use Rattle.cells.specs.Be.{be_bytes, Wrote}
use Rattle.cells.proofs.Cells.{length-be_bytes, wrote_cat, wrote_all}
use Rattle.opentype.specs.Table.{map_at}
use Rattle.rules.specs.Lists.{Run, new_id}
use Rattle.rules.specs.Open.{bad_map}
use Rattle.rules.specs.Numbering.{present, pair_of, new_outer, new_inner}
use Rattle.rules.specs.Maps.{map_plan, entry_size, wide_entry, new_entry, planned_map, map_bytes}
use Rattle.lists.specs.Pick.{both}
use Rattle.laws.specs.GlyphPairs.{pow_bytes}
use Rattle.laws.specs.Packed.{map-length}
use Rattle.readers.proofs.Maps.{shifted_one}
use Rattle.numbering.specs.Numbered.{Numbered}
use Rattle.maps.specs.declared.plan.MapPlan.{MapPlan}
use Rattle.maps.specs.Plans.{kept_in, head_of, entry_piece, entries_of, Ready, EntriesFit, Planned, MapPlanned, size_of, length_of}
use Rattle.maps.proofs.Plans.{kept_at, packs}
use Rattle.maps.proofs.Ahead.{Ahead, ahead_none, Turn}

-- ---- one entry

pub entry_is : (bits : ℕ) (rs : List Run) (pair : ℕ) {o i : ℕ} → bits < 32 → o ≡ new_outer rs pair → i ≡ new_inner rs pair
    → o * (1 * 2 ^ bits % 4294967296) + i ≡ new_entry bits rs pair
unfolding new_entry
entry_is bits rs pair h p q = rw (shifted_one bits h, p, q)

-- ---- the entries, laid by new id

-- out is old with the entries below id written from 4 up to the place to; k of the list are behind
pub record Entered (rs : List Run) (pair : ℕ → ℕ) (es : List ℕ) (p : MapPlan) (old : List ℕ) (k id to : ℕ) (out : List ℕ) : Type 0 where
  pub up_to : to ≡ 4 + id * p.size
  pub same : length out ≡ length old
  pub wrote : Wrote old 4 (gather (entry_piece rs pair es p) id) out
  pub ahead : Ahead (λ g. new_entry p.bits rs (pair g)) es k id

pub entered_none : (rs : List Run) (pair : ℕ → ℕ) (es : List ℕ) (p : MapPlan) (old : List ℕ) → Rises 0 (map (λ e. new_id e) es)
    → Entered rs pair es p old 0 0 4 old
entered_none rs pair es p old r = record {
  up_to = omega arith;
  same = refl;
  wrote = record { is = rw gather_none };
  ahead = ahead_none _ es r;
}

module _ {rs : List Run} {pair : ℕ → ℕ} {es : List ℕ} {p : MapPlan} {old : List ℕ} {k id to : ℕ} {out : List ℕ} (l : Entered rs pair es p old k id to out) where
  pub entered_more : {v next : ℕ} {new : List ℕ} → Turn (λ g. new_entry p.bits rs (pair g)) es id v next → Wrote out to (be_bytes p.size v) new
      → Entered rs pair es p old next (id + 1) (to + p.size) new
  entered_more {v} {next} {new} turn w = record {
    up_to = rw (add-one id, suc-mul) (omega (arith, l.up_to));
    same = ap (λ (xs : List ℕ). length xs) w.is ∙ (length-sets out to (be_bytes p.size v) ∙ l.same);
    wrote = rw gather_more (wrote_cat l.wrote (rw turn.is at w) (rw (gather-length (entry_piece rs pair es p) p.size (λ j. length-be_bytes p.size _) id) l.up_to));
    ahead = turn.ahead;
  }

-- ---- what a plan says of the map's bytes

module _ (t : List ℕ) (rs : List Run) (es : List ℕ) (m : ℕ) where
  -- a map that is not written has none
  pub plan_none : MapPlanned t rs es m None → map_bytes t rs es m ≡ []
  unfolding map_bytes
  plan_none off = rw off

  pub plan_length_lem : (plan : Option MapPlan) → MapPlanned t rs es m plan → length_of plan ≡ length (map_bytes t rs es m)
  unfolding map_bytes
  plan_length_lem None off = rw off
  plan_length_lem (Some p) d = rw (d.written, d.count, d.size) (sym (map-length t rs es m (map_plan t rs es m)))

  -- 14
  pub plan_wide : (plan : Option MapPlan) → MapPlanned t rs es m plan → ltb 4 (size_of plan) ≡ wide_entry t rs es m
  unfolding wide_entry
  plan_wide None off = rw off
  plan_wide (Some p) d = rw (d.written, d.size)

  -- 14 is not given, of entries of at most 4 bytes
  pub plan_narrow : (plan : Option MapPlan) → size_of plan ≤ 4 → MapPlanned t rs es m plan → wide_entry t rs es m ≡ false
  plan_narrow plan few d = sym (plan_wide plan d) ∙ le-ltb _ _ few

-- a map with at most 4 bytes an entry has at most 4 + 65,535 × 4
pub length_narrow : (plan : Option MapPlan) → size_of plan ≤ 4 → length_of plan ≤ 262144
length_narrow None few = omega arith
length_narrow (Some p) few = omega (arith, mul-le-mul p.entries few)

-- ---- a written map

module _ {n : ℕ} {w t es : List ℕ} {m : ℕ} {p : MapPlan} (r : Ready n w t es m) (d : Planned t (kept_in n w) es m p) (pair : ℕ → ℕ) (e : pair ≡ pair_of t m) where
  pub fits : p.size ≤ 4 → Numbered w n → ((i : ℕ) → get_or t i 0 < 256) → both (present t m) (bad_map t (map_at t m)) ≡ false → EntriesFit n w pair es p.bits
  fits short k bytes sound =
      let q = packs r d.written k bytes sound in
      let size : ℕ = entry_size (map_plan t (kept_in n w) es m) in
      let room = pow_mono {i = 8 * size} {j = 32} (omega (arith, d.size)) in
      record {
        kept = kept_at r d.written pair e;
        rise = r.glyphs.rise;
        each = rw (e, d.bits) (λ k l. lt_of_lt_of_le (q.entry k l) (rw (pow_bytes size) room));
      }

  pub map_put : {old out : List ℕ} → length old ≡ 4 + p.count * p.size
      → Wrote old 0 (head_of p ++ entries_of (kept_in n w) pair es p) out
      → out ≡ map_bytes t (kept_in n w) es m
  unfolding map_bytes planned_map
  map_put {old} {out} h x =
      let all = map_bytes t (kept_in n w) es m in
      let y : Wrote old 0 all out = rw d.written (simp (d.count, d.bits, d.size, entry_piece) at (rw e at x)) in
      let l = plan_length_lem t (kept_in n w) es m (Some p) d in
      wrote_all y (omega arith) ∙ all_laid all old (length all) (omega arith)

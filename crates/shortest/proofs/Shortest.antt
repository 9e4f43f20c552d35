-- Demand 3: no form of a written subtable has shorter rows, and no fewer inner bits would do in a written map.
use Prim.Native.Nat.{ℕ, ◌^◌, ◌<◌, ◌≤◌}
use mathlib.Core.Path.{◌≡◌, sym, ap, ◌∙◌}
use mathlib.Core.Bool.{true}
use mathlib.Core.List.{List, []}
use native.Mathlib.Omega.{arith}
use lib.Pow.{pow_pos}
use lib.ListN.{length, get_or}
use Rattle.lists.proofs.Stands.{stands_all}
use Rattle.lists.proofs.Members.{member_at}
use Rattle.opentype.specs.Store.{subtable_at, subtable_count}
use Rattle.opentype.specs.Table.{vvar_maps, store_of, gives_pairs, glyph_outer, glyph_inner}
use Rattle.rules.specs.Lists.{Run, runs}
use Rattle.rules.specs.Numbering.{present, counts, pair_of, kept_pairs, new_outer, new_inner}
use Rattle.rules.specs.Maps.{map_plan, largest_inner}
use Rattle.laws.specs.Bits.{bits_least}
use Rattle.laws.specs.Runs.{run_at}
use Rattle.laws.specs.Outers.{Moved, moved, accepted_climbs}
use Rattle.laws.specs.Kept.{kept_member, kept_climbs}
use Rattle.laws.specs.Named.{kept_named}
use Rattle.laws.specs.GlyphPairs.{present_there, glyph_there, glyph_parts}
use Rattle.laws.specs.Packed.{inners_below, all_kept, largest_low}
use Rattle.demands.specs.Reading.{Bytes}
use Rattle.demands.specs.KeepsStore.{outers_before, outer_at}
use Rattle.demands.specs.KeepsGlyphs.{Listed, OneRow, old_at, new_at}
use Rattle.demands.specs.ShortestRows.{ShortestRows, ShortestGlyphRows}
use Rattle.demands.specs.FewestInnerBits.{FewestBits, FewestInnerBits}
use Rattle.demands.specs.Calls.{HasStore, Varies, OfStoreCuts, OfTableCuts}
use Rattle.reread.proofs.Accepted.{store_accepted}
use Rattle.reread.proofs.Places.{has_at, run_of, item_from}
use Rattle.reread.proofs.Keeps.{outers_inside}
use Rattle.reread.proofs.Written.{row_length_written}
use Rattle.remapped.proofs.Cut.{Cut, table_cut}
use Rattle.remapped.proofs.Short.{store_cut}
use Rattle.remapped.proofs.Written.{ReadMap, table_read}
use Rattle.shortest.proofs.Rows.{plan_shortest}

pub shortest_rows : OfStoreCuts ShortestRows
unfolding OfStoreCuts ShortestRows
shortest_rows s pairs w keep_empty bytes has cut k h f told =
    let ok = store_accepted s pairs w keep_empty bytes cut has.regions in
    let climbs = accepted_climbs pairs ok.rise in
    let o = outer_at pairs k in
    let run = run_of pairs climbs (subtable_count s) (outers_inside ok) o (has_at pairs k h) in
    let own = run_at (runs pairs) (outers_before pairs o) in
    rw (row_length_written ok (stands_all w) (outers_before pairs o) run.inside)
    (plan_shortest s (subtable_at s own.outer) own.inners f (λ j c l m.
    let item = item_from pairs climbs (subtable_count s) (outers_inside ok) (outers_before pairs o) j run.inside l in
    rw (run.outers, ← item.inners) (told item.place c item.inside (item.outers ∙ run.outers) (rw run.outers at m))))

module _ (maps : ℕ) (t es u : List ℕ) (few : 0 < maps) (most : maps ≤ vvar_maps) (bytes : Bytes t) (done : Cut maps t es u) where
  abbrev kept : List ℕ
  kept = kept_pairs maps t es

  abbrev rows : List Run
  rows = runs kept

  read_map : (m n : ℕ) → Listed maps t es m n → ReadMap t rows es u m
  unfolding counts present gives_pairs
  read_map m n is = (table_read maps t es u few most bytes done).map m is.known is.gives (omega (arith, is.inside))

  -- where a listed glyph's row went
  moved_to : (m n : ℕ) → Listed maps t es m n → Moved rows (pair_of t m (old_at es n)) (record { outer = 0; inners = [] })
  unfolding counts present gives_pairs
  moved_to m n is = moved 0 kept (kept_climbs maps t es few) _ (kept_member maps t es m n is.known is.gives is.inside) _

  -- glyphs that read one new row read one old row
  apart : (l j m n : ℕ) → Listed maps t es l j → Listed maps t es m n → OneRow u l (new_at es j) m (new_at es n) → OneRow t l (old_at es j) m (old_at es n)
  apart l j m n a b same =
      let x = moved_to l j a in
      let y = moved_to m n b in
      let one = glyph_parts t l (get_or es j 0) in
      let two = glyph_parts t m (get_or es n 0) in
      let p = pair_of t l (old_at es j) in
      let q = pair_of t m (old_at es n) in
      let now = glyph_there u l (new_at es j) (read_map l j a).there in
      let then = glyph_there u m (new_at es n) (read_map m n b).there in
      let outers : new_outer rows p ≡ new_outer rows q
      = sym (now.0 ∙ (read_map l j a).outers j a.inside) ∙ (same.0 ∙ (then.0 ∙ (read_map m n b).outers n b.inside)) in
      let inners : new_inner rows p ≡ new_inner rows q
      = sym (now.1 ∙ (read_map l j a).inners j a.inside) ∙ (same.1 ∙ (then.1 ∙ (read_map m n b).inners n b.inside)) in (
        one.0 ∙ (sym x.outers ∙ (rw outers y.outers ∙ sym two.0)),
        one.1 ∙ (sym x.inners ∙ (rw (outers, inners) y.inners ∙ sym two.1)),
      )

  fewest : (m : ℕ) → m < maps → counts t m ≡ true → 0 < length es → FewestBits es u m
  unfolding map_plan
  fewest m h c l =
      let read = (table_read maps t es u few most bytes done).map m h c l in
      let small = largest_low (all_kept maps t es m few most done.glyphs h c) in
      record {
        there = present_there u m read.there;
        sound = read.laid.sound;
        fewest = λ bits one enough.
            rw read.laid.bits
            (bits_least (largest_inner t rows es m) (omega arith) bits one
            (inners_below t rows es m (2 ^ bits) (pow_pos bits) (λ n k. rw (← read.inners n k, ← (glyph_there u m (new_at es n) read.there).1) (enough n k))));
      }

pub shortest_table_rows : OfTableCuts Varies ShortestGlyphRows
unfolding OfTableCuts ShortestGlyphRows counts present gives_pairs
shortest_table_rows maps t es u three bytes has cut m n is f told =
    let few : 0 < maps = omega (arith, three.low) in
    let kept = kept_pairs maps t es in
    let climbs = kept_climbs maps t es few in
    let done = table_cut maps t es u cut has.store in
    let ok = store_cut maps t es u few three.high bytes done has.regions in
    let to = moved_to maps t es u few three.high bytes done m n is in
    let read = read_map maps t es u few three.high bytes done m n is in
    let o = new_outer (runs kept) (pair_of t m (old_at es n)) in
    let own = run_at (runs kept) o in
    let is-own : glyph_outer t m (old_at es n) ≡ own.outer = (glyph_parts t m (get_or es n 0)).0 ∙ sym to.outers in
    rw (
      (glyph_there u m (new_at es n) read.there).0,
      read.outers n is.inside,
      row_length_written ok (table_read maps t es u few three.high bytes done).stands o to.outer_in,
    )
    (plan_shortest (store_of t) (subtable_at (store_of t) own.outer) own.inners f (λ j c l k.
    let item = item_from kept climbs (subtable_count (store_of t)) (outers_inside ok) o j to.outer_in l in
    let named = kept_named maps t es (get_or kept item.place 0) few (member_at kept item.place item.inside) in
    let parts = glyph_parts t named.map (get_or es named.place 0) in
    let at : glyph_outer t named.map (old_at es named.place) ≡ own.outer = parts.0 ∙ (rw (← named.is) item.outers) in
    let row : glyph_inner t named.map (old_at es named.place) ≡ get_or own.inners j 0 = parts.1 ∙ (rw (← named.is) item.inners) in
    rw (← is-own, ← row)
    (told named.map named.place c (record { known = named.known; gives = named.counted; inside = named.inside }) (at ∙ sym is-own) (rw (← is-own) at k))))

pub fewest_inner_bits : OfTableCuts HasStore FewestInnerBits
unfolding OfTableCuts counts present gives_pairs
fewest_inner_bits maps t es u three bytes has cut =
    let few : 0 < maps = omega (arith, three.low) in
    let done = table_cut maps t es u cut has.store in
    record {
      bits = fewest maps t es u few three.high bytes done;
      hold = apart maps t es u few three.high bytes done;
    }

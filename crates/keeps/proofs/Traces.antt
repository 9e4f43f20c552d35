-- No trace of what was cut: every written row is a listed pair's, and in a table some listed glyph reads it.
use Prim.Native.Nat.{ℕ, ◌<◌, ◌≤◌}
use mathlib.Core.Path.{◌≡◌, refl, sym, ap, ◌∙◌}
use mathlib.Core.Bool.{true, false}
use mathlib.Core.List.{List}
use native.Mathlib.Omega.{arith}
use lib.ListN.{length, get_or}
use Rattle.lists.specs.Search.{place}
use Rattle.lists.proofs.Members.{member_at}
use Rattle.lists.proofs.Stands.{stands_all}
use Rattle.opentype.specs.Store.{subtable_count}
use Rattle.opentype.specs.Table.{vvar_maps, store_of, gives_pairs, glyph_outer, glyph_inner}
use Rattle.rules.specs.Lists.{outer, inner, runs, twice}
use Rattle.rules.specs.Numbering.{present, counts, pair_of, kept_pairs, inners_of, new_outer, new_inner}
use Rattle.laws.specs.Runs.{run_at}
use Rattle.laws.specs.Outers.{Climbs, outers_of, inners_of_lem, accepted_climbs}
use Rattle.laws.specs.Kept.{kept_climbs}
use Rattle.laws.specs.Once.{kept_once, inners_once, only_place, pair_same}
use Rattle.laws.specs.Named.{kept_named}
use Rattle.laws.specs.GlyphPairs.{glyph_there, glyph_parts}
use Rattle.demands.specs.Reading.{Bytes}
use Rattle.demands.specs.KeepsGlyphs.{Listed, OneRow, old_at, new_at}
use Rattle.demands.specs.KeepsStore.{has_outer}
use Rattle.demands.specs.NoTrace.{NoTrace, GlyphOf, NoTraceInTable}
use Rattle.demands.specs.Calls.{Varies, OfStoreCuts, OfTableCuts}
use Rattle.reread.proofs.Accepted.{Accepted, store_accepted}
use Rattle.reread.proofs.Places.{Item, run-has, run_inners, item_from, outer-place}
use Rattle.reread.proofs.Keeps.{outers_inside, runs_kept}
use Rattle.remapped.proofs.Cut.{Cut, table_cut}
use Rattle.remapped.proofs.Short.{store_cut}
use Rattle.remapped.proofs.Written.{table_read}
use Rattle.keeps.proofs.Leans.{lean}

pub no_trace : OfStoreCuts NoTrace
unfolding OfStoreCuts
no_trace s pairs w keep_empty bytes has cut =
    let ok = store_accepted s pairs w keep_empty bytes cut has.regions in
    let kept = runs_kept ok (stands_all w) in
    let climbs = accepted_climbs pairs ok.rise in
    let run : (o : ℕ) → o < subtable_count w → o < length (runs pairs) = λ o h. rw kept.count at h in
    record {
      lean = lean ok (stands_all w);
      rows = λ o i h l.
          let item = item_from pairs climbs (subtable_count s) (outers_inside ok) o i (run o h) (rw (kept.each o (run o h)).items at l) in
          record {
            place = item.place;
            inside = item.inside;
            outer = rw item.outers (run-has pairs climbs (subtable_count s) (outers_inside ok) o (run o h)).1;
            inner = item.before;
          };
    }

-- the pair that item i of run o comes from has o and i as its new numbers
module _ (ps : List ℕ) (climbs : Climbs 0 ps) (once : twice ps ≡ false) (n : ℕ) (below : (o : ℕ) → has_outer ps o ≡ true → o < n) where
  new_numbers : (o i : ℕ) → o < length (runs ps) → i < length (run_at (runs ps) o).inners → (item : Item ps o i)
      → (new_outer (runs ps) (get_or ps item.place 0) ≡ o) × (new_inner (runs ps) (get_or ps item.place 0) ≡ i)
  unfolding new_outer new_inner
  new_numbers o i h l item =
      let p = get_or ps item.place 0 in
      let has = run-has ps climbs n below o h in
      let at = outer-place ps climbs n below (run_at (runs ps) o).outer has.0 ∙ has.1 in
      let run = run_inners ps climbs n below o h in
      let is = ap (λ (q : ℕ). inners_of (runs ps) q) item.outers in
      let alone : twice (inners_of (runs ps) (outer p)) ≡ false = rw (inners_of_lem (outer p) 0 ps climbs) (inners_once (outer p) ps once) in (
        ap (λ (q : ℕ). place q (outers_of (runs ps))) item.outers ∙ at,
        sym (only_place (inner p) i (inners_of (runs ps) (outer p)) alone (rw (is, run) l) (rw (is, run) (sym item.inners))),
      )

module _ (maps : ℕ) (t es u : List ℕ) (few : 0 < maps) (most : maps ≤ vvar_maps) (bytes : Bytes t) (done : Cut maps t es u) where
  abbrev kept : List ℕ
  kept = kept_pairs maps t es

  -- what a listed glyph reads in the written table: the new numbers of its pair
  glyph_new : (m n : ℕ) → Listed maps t es m n
      → (glyph_outer u m (new_at es n) ≡ new_outer (runs kept) (pair_of t m (old_at es n))) × (glyph_inner u m (new_at es n) ≡ new_inner (runs kept) (pair_of t m (old_at es n)))
  unfolding counts present gives_pairs
  glyph_new m n is =
      let read = (table_read maps t es u few most bytes done).map m is.known is.gives (omega (arith, is.inside)) in
      let now = glyph_there u m (new_at es n) read.there in
      (now.0 ∙ read.outers n is.inside, now.1 ∙ read.inners n is.inside)

  -- glyphs that read one old row read one new row
  one_row : (l j m n : ℕ) → Listed maps t es l j → Listed maps t es m n → OneRow t l (old_at es j) m (old_at es n) → OneRow u l (new_at es j) m (new_at es n)
  one_row l j m n a b same =
      let p = pair_of t l (old_at es j) in
      let q = pair_of t m (old_at es n) in
      let one = glyph_parts t l (get_or es j 0) in
      let two = glyph_parts t m (get_or es n 0) in
      let is : p ≡ q = pair_same p q (sym one.0 ∙ (same.0 ∙ two.0)) (sym one.1 ∙ (same.1 ∙ two.1)) in
      let x = glyph_new l j a in
      let y = glyph_new m n b in
      (x.0 ∙ (ap (λ (r : ℕ). new_outer (runs kept) r) is ∙ sym y.0), x.1 ∙ (ap (λ (r : ℕ). new_inner (runs kept) r) is ∙ sym y.1))

  glyph_of : (ok : Accepted (store_of t) kept done.store) (o i : ℕ) → o < length (runs kept) → i < length (run_at (runs kept) o).inners → GlyphOf maps t es u o i
  unfolding counts present gives_pairs
  glyph_of ok o i h l =
      let count = subtable_count (store_of t) in
      let climbs = kept_climbs maps t es few in
      let item = item_from kept climbs count (outers_inside ok) o i h l in
      let new = new_numbers kept climbs (kept_once maps t es few most done.glyphs.few) count (outers_inside ok) o i h l item in
      let named = kept_named maps t es (get_or kept item.place 0) few (member_at kept item.place item.inside) in
      let is : Listed maps t es named.map named.place = record { known = named.known; gives = named.counted; inside = named.inside } in
      let now = glyph_new named.map named.place is in
      record {
        map = named.map;
        place = named.place;
        listed = is;
        outer = now.0 ∙ (ap (λ (r : ℕ). new_outer (runs kept) r) (sym named.is) ∙ new.0);
        inner = now.1 ∙ (ap (λ (r : ℕ). new_inner (runs kept) r) (sym named.is) ∙ new.1);
      }

pub no_trace_in_table : OfTableCuts Varies NoTraceInTable
unfolding OfTableCuts
no_trace_in_table maps t es u three bytes has cut =
    let few : 0 < maps = omega (arith, three.low) in
    let done = table_cut maps t es u cut has.store in
    let stands = (table_read maps t es u few three.high bytes done).stands in
    let ok = store_cut maps t es u few three.high bytes done has.regions in
    let again = runs_kept ok stands in
    let run : (o : ℕ) → o < subtable_count (store_of u) → o < length (runs (kept_pairs maps t es)) = λ o h. rw again.count at h in
    record {
      lean = lean ok stands;
      rows = λ o i h l. glyph_of maps t es u few three.high bytes done ok o i (run o h) (rw (again.each o (run o h)).items at l);
      once = one_row maps t es u few three.high bytes done;
    }

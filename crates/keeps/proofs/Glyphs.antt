-- Demand 2 for HVAR and VVAR: each listed glyph reads through each map what it read before.
use Prim.Native.Nat.{ℕ, ◌<◌}
use mathlib.Core.Path.{◌≡◌, ◌∙◌}
use mathlib.Core.Bool.{true}
use mathlib.Core.List.{List, []}
use native.Mathlib.Omega.{arith}
use lib.ListN.{length, get_or}
use Rattle.opentype.specs.Store.{subtable_count}
use Rattle.opentype.specs.Table.{store_of, gives_pairs, glyph_outer, glyph_inner}
use Rattle.rules.specs.Lists.{runs, old_id}
use Rattle.rules.specs.Columns.{order}
use Rattle.rules.specs.Numbering.{present, counts, pair_of, kept_pairs, new_outer, new_inner}
use Rattle.laws.specs.Runs.{run_at}
use Rattle.laws.specs.Outers.{Moved, moved}
use Rattle.laws.specs.Kept.{kept_member, kept_climbs}
use Rattle.laws.specs.GlyphPairs.{present_there, absent_null, glyph_there, glyph_parts}
use Rattle.demands.specs.KeepsGlyphs.{Listed, KeptGlyph, KeptTable, KeptGlyphSums, old_at, new_at}
use Rattle.demands.specs.Calls.{Varies, OfTableCuts}
use Rattle.reread.proofs.Written.{plan_for}
use Rattle.reread.proofs.Keeps.{RunsKept, runs_kept, row_as, columns_as}
use Rattle.remapped.proofs.Cut.{table_cut}
use Rattle.remapped.proofs.Short.{store_cut}
use Rattle.remapped.proofs.Written.{ReadMap, table_read}
use Rattle.keeps.proofs.Follows.{sums_kept}

-- a map that was read again names the row that the glyph's pair went to
module _ (maps : ℕ) (t es u : List ℕ) (few : 0 < maps) (kept : RunsKept (store_of t) (kept_pairs maps t es) (store_of u)) where
  kept_glyph : (m n : ℕ) → Listed maps t es m n → ReadMap t (runs (kept_pairs maps t es)) es u m → KeptGlyph t u m (old_at es n) (new_at es n)
  unfolding counts present gives_pairs
  kept_glyph m n is read =
      let rs = runs (kept_pairs maps t es) in
      let p = pair_of t m (old_at es n) in
      let o = new_outer rs p in
      let row : Moved rs p (record { outer = 0; inners = [] })
      = moved 0 (kept_pairs maps t es) (kept_climbs maps t es few) p (kept_member maps t es m n is.known is.gives is.inside) (record { outer = 0; inners = [] }) in
      let was = glyph_parts t m (get_or es n 0) in
      let now = glyph_there u m (new_at es n) read.there in
      let outers : glyph_outer u m (new_at es n) ≡ o = now.0 ∙ read.outers n is.inside in
      let inners : glyph_inner u m (new_at es n) ≡ new_inner rs p = now.1 ∙ read.inners n is.inside in
      let run = kept.each o row.outer_in in
      record {
        there = present_there u m read.there;
        sound = read.laid.sound;
        inside = rw (outers, kept.count) row.outer_in;
        from = order (plan_for (store_of t) (run_at rs o));
        columns = columns_as (was.0 ∙ rw row.outers) outers run.columns;
        row = row_as (was.0 ∙ rw row.outers) (was.1 ∙ rw row.inners) outers inners (run.rows (new_inner rs p) row.inner_in);
      }

pub keeps_table : OfTableCuts Varies KeptTable
unfolding OfTableCuts gives_pairs counts present
keeps_table maps t es u three bytes has cut =
    let few : 0 < maps = omega (arith, three.low) in
    let done = table_cut maps t es u cut has.store in
    let read = table_read maps t es u few three.high bytes done in
    let kept = runs_kept (store_cut maps t es u few three.high bytes done has.regions) read.stands in
    record {
      header = read.header;
      store = read.store;
      readable = kept.readable;
      axes = kept.axes;
      glyphs = λ m n is. kept_glyph maps t es u few kept m n is (read.map m is.known is.gives (omega (arith, is.inside)));
      others = λ m h c. absent_null u m (read.absent m h c);
    }

pub keeps_glyph_sums : OfTableCuts Varies KeptGlyphSums
unfolding OfTableCuts KeptGlyphSums
keeps_glyph_sums maps t es u three bytes has cut weigh m n is =
    let glyph = (keeps_table maps t es u three bytes has cut).glyphs m n is in
    sums_kept glyph.columns glyph.row weigh

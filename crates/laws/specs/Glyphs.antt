-- An accepted glyph list: few entries, new ids that rise strictly and are small.
use Rattle.std.specs.Prelude.{ℕ, ◌≤◌, ◌<◌, ◌≡◌, false, List, [], ◌∷◌, map, length, get_or, ltb, leb}
use Rattle.std.proofs.Common.{arith, ltb-false, leb-false}
use Rattle.lists.specs.Search.{any}
use Rattle.lists.proofs.Each.{neither, any-not}
use Rattle.lists.proofs.Ascending.{Rises}
use Rattle.rules.specs.Lists.{new_id, most_glyphs, most_id, new_ids_stay, bad_id, bad_glyphs}

pub record Glyphs (es : List ℕ) : Type 0 where
  pub few : length es ≤ most_glyphs
  pub rise : Rises 0 (map (λ e. new_id e) es)
  pub small : (n : ℕ) → n < length es → new_id (get_or es n 0) ≤ most_id

ids_rise : (es : List ℕ) → new_ids_stay es ≡ false → Rises 0 (map (λ e. new_id e) es)
unfolding new_ids_stay
ids_rise [] h = tt
ids_rise (d ∷ []) h = (omega arith, tt)
ids_rise (d ∷ e ∷ es) h =
    let n = neither (leb (new_id e) (new_id d)) (new_ids_stay (e ∷ es)) h in
    (omega arith, (leb-false (new_id e) (new_id d) n.0, (ids_rise (e ∷ es) n.1).1))

pub good_glyphs : (es : List ℕ) → bad_glyphs es ≡ false → Glyphs es
unfolding bad_glyphs bad_id
good_glyphs es h =
    let a = neither (ltb most_glyphs (length es)) _ h in
    let b = neither (new_ids_stay es) (any bad_id es) a.1 in
    record {
      few = ltb-false most_glyphs (length es) a.0;
      rise = ids_rise es b.0;
      small = λ n l. ltb-false most_id (new_id (get_or es n 0)) (neither (ltb most_id (new_id (get_or es n 0))) _ (any-not bad_id 0 es n b.1 l)).0;
    }

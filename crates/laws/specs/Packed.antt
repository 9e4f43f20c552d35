-- The plan of a written map: its sizes are in range, and every listed glyph's entry fits.
use Rattle.std.specs.Prelude.{ℕ, ◌+◌, ◌*◌, ◌/◌, ◌^◌, ◌<◌, ◌≤◌, ◌≡◌, true, false, List, map, length, get_or}
use Rattle.std.proofs.Common.{arith, lt_of_lt_of_le, lt_of_le_of_lt, pow_mono, pow-add, length-append}
use Rattle.std.proofs.Math.Arith.{digits_lt}
use Rattle.std.proofs.lemmas.List.{length-map}
use Rattle.lists.specs.Search.{member}
use Rattle.lists.proofs.Pieces.{gather-length}
use Rattle.lists.proofs.Each.{get_d_map}
use Rattle.lists.proofs.Largest.{largest_above, largest_below}
use Rattle.cells.specs.Be.{be_bytes}
use Rattle.cells.proofs.Cells.{length-be_bytes}
use Rattle.opentype.specs.Table.{map_at}
use Rattle.rules.specs.Lists.{Run, runs, old_id, most_pairs, most_id}
use Rattle.rules.specs.Open.{bad_map}
use Rattle.rules.specs.Numbering.{present, counts, pair_of, kept_pairs, new_outer, new_inner}
use Rattle.rules.specs.Maps.{MapPlan, map_plan, bits_for, largest_inner, new_outer_bits, entry_size, new_entry, entry_at, planned_map}
use Rattle.laws.specs.Bits.{bits_some, bits_hold, bits_least}
use Rattle.laws.specs.Outers.{Climbs, outer_low, inner_low}
use Rattle.laws.specs.Glyphs.{Glyphs}
use Rattle.laws.specs.Kept.{kept_member, kept_climbs, kept_few}
use Rattle.laws.specs.Entries.{count_past, count_most}
use Rattle.laws.specs.GlyphPairs.{pow_bytes, pair_fits}

-- what is below k for every listed glyph, is so for the largest new inner
pub inners_below : (t : List ℕ) (rs : List Run) (es : List ℕ) (m k : ℕ) → 0 < k
    → ((n : ℕ) → n < length es → new_inner rs (pair_of t m (old_id (get_or es n 0))) < k) → largest_inner t rs es m < k
unfolding largest_inner
inners_below t rs es m k p h =
    let f : ℕ → ℕ = λ e. new_inner rs (pair_of t m (old_id e)) in
    let l = length-map es f in
    largest_below (map f es) k 0 p (λ n g. rw (get_d_map f 0 0 es n (omega arith)) (h n (omega arith)))

inner_most : (t : List ℕ) (rs : List Run) (es : List ℕ) (m n : ℕ) → n < length es
    → new_inner rs (pair_of t m (old_id (get_or es n 0))) ≤ largest_inner t rs es m
unfolding largest_inner
inner_most t rs es m n h =
    let f : ℕ → ℕ = λ e. new_inner rs (pair_of t m (old_id e)) in
    let l = length-map es f in
    rw (← get_d_map f 0 0 es n h) (largest_above (map f es) n 0 (omega arith))

-- an outer and an inner that fit their bits fit the entry
entry_fits : (o i outers inners size : ℕ) → o < 2 ^ outers → i < 2 ^ inners → outers + inners ≤ 8 * size → o * 2 ^ inners + i < 256 ^ size
entry_fits o i outers inners size p q h =
    rw (pow_bytes size) (lt_of_lt_of_le (rw (← pow-add 2 outers inners) at (digits_lt p q)) (pow_mono {i = outers + inners} {j = 8 * size} h))

-- The plan p of a written map, and the numbers of the listed glyphs.
pub record Packed (t : List ℕ) (rs : List Run) (es : List ℕ) (m : ℕ) (p : MapPlan) : Type 0 where
  pub some_bits : 1 ≤ p.inner_bits
  pub few_bits : p.inner_bits ≤ 16
  pub inside : p.inner_bits ≤ 8 * entry_size p
  pub some_bytes : 1 ≤ entry_size p
  pub some_entries : 0 < p.count
  pub few_entries : p.count ≤ 65535
  pub inner : (n : ℕ) → n < length es → new_inner rs (pair_of t m (old_id (get_or es n 0))) < 2 ^ p.inner_bits
  pub entry : (n : ℕ) → n < length es → new_entry p.inner_bits rs (pair_of t m (old_id (get_or es n 0))) < 256 ^ entry_size p

-- the pairs that a map gives to the listed glyphs are among those kept
pub record AllKept (kept t es : List ℕ) (m : ℕ) : Type 0 where
  pub climbs : Climbs 0 kept
  pub few : length kept ≤ most_pairs
  pub each : (n : ℕ) → n < length es → member (pair_of t m (old_id (get_or es n 0))) kept ≡ true

pub all_kept : (maps : ℕ) (t es : List ℕ) (m : ℕ) → 0 < maps → maps ≤ 4 → Glyphs es → m < maps → counts t m ≡ true → AllKept (kept_pairs maps t es) t es m
all_kept maps t es m l most good h c = record {
  climbs = kept_climbs maps t es l;
  few = kept_few maps t es l most good.few;
  each = λ n k. kept_member maps t es m n h c k;
}

-- every new inner is below the number of kept pairs
pub largest_low : {kept t es : List ℕ} {m : ℕ} → AllKept kept t es m → largest_inner t (runs kept) es m < 2 ^ 16
largest_low {kept} {t} {es} {m} a =
    inners_below t (runs kept) es m (2 ^ 16) (omega arith)
    (λ n k. omega (arith, inner_low 0 kept a.climbs (pair_of t m (old_id (get_or es n 0))) (a.each n k), a.few))

-- A new outer is at most the old one, as outers are renumbered in ascending order, and the old one fits the source map's outer bits; an absent
-- advance map has outer 0 alone. So the entry fits.
pub packed : {kept t es : List ℕ} {m : ℕ} → AllKept kept t es m → ((i : ℕ) → get_or t i 0 < 256) → Glyphs es → 0 < length es
    → (present t m ≡ true → bad_map t (map_at t m) ≡ false) → Packed t (runs kept) es m (map_plan t (runs kept) es m)
unfolding map_plan entry_size new_entry
packed {kept} {t} {es} {m} a bytes good there sound =
    let rs = runs kept in
    let pair : ℕ → ℕ = λ n. pair_of t m (old_id (get_or es n 0)) in
    let top = largest_inner t rs es m in
    let bits = bits_for top in
    let ob = new_outer_bits t m in
    let low = largest_low a in
    let hold : (n : ℕ) → n < length es → new_inner rs (pair n) < 2 ^ bits
    = λ n k. lt_of_le_of_lt (inner_most t rs es m n k) (bits_hold top (omega arith)) in
    let some = bits_some top in
    record {
      some_bits = some;
      few_bits = bits_least top (omega arith) 16 (omega arith) low;
      inside = omega arith;
      some_bytes = omega arith;
      some_entries = count_past (λ g. pair_of t m g) 0 es good.rise there;
      few_entries = count_most (λ g. pair_of t m g) most_id es good.small;
      inner = hold;
      entry = λ n k. entry_fits (new_outer rs (pair n)) (new_inner rs (pair n)) ob bits ((ob + bits + 7) / 8)
          (lt_of_le_of_lt (outer_low kept a.climbs (pair n) (a.each n k)) (pair_fits t m (get_or es n 0) bytes sound)) (hold n k) (omega arith);
    }

-- the bytes of a map
pub map-length : (t : List ℕ) (rs : List Run) (es : List ℕ) (m : ℕ) (p : MapPlan) → length (planned_map t rs es m p) ≡ 4 + p.count * entry_size p
unfolding planned_map
map-length t rs es m p =
    simp (length-append, length-be_bytes, gather-length (λ j. be_bytes (entry_size p) (entry_at (λ g. new_entry p.inner_bits rs (pair_of t m g)) es j)) (entry_size p) (λ j. length-be_bytes (entry_size p) _) p.count)

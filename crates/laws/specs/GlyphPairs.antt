-- The pair of a glyph in a map comes apart into what the map's entry gives, and its outer fits the map's outer bits.
use Rattle.std.specs.Prelude.{ℕ, zero, suc, ◌+◌, ◌*◌, ◌%◌, ◌^◌, ◌<◌, ◌≤◌, ◌≡◌, refl, Bool, true, false, not, List, length, get_or, ltb, eqb}
use Rattle.std.proofs.Common.{sym, ◌∙◌, true≢false, arith, mod-lt, lt_of_lt_of_le, pow-suc, mod-eq_of_lt, pow_pos, pow_mono, pow-add, shr_lt, ltb-false, eqb-true, eq-eqb, ne_eqb}
use Rattle.std.proofs.Math.Nat.{div-eq_of_lt}
use Rattle.std.proofs.Math.Arith.{digits_div, digits_mod}
use Rattle.std.proofs.lemmas.Bool.{eqb-false, not-true}
use Rattle.lists.proofs.Each.{neither}
use Rattle.lists.proofs.Choices.{decided}
use Rattle.cells.proofs.Cells.{be_lt}
use Rattle.opentype.specs.Map.{map_format, entry, entry_format, entry_bytes, inner_bits, outer_bits, outer_of, inner_of}
use Rattle.opentype.specs.Table.{map_at, glyph_outer, glyph_inner}
use Rattle.rules.specs.Lists.{outer, inner, old_id}
use Rattle.rules.specs.Open.{bad_map}
use Rattle.rules.specs.Numbering.{present, pair_of}
use Rattle.rules.specs.Maps.{new_outer_bits}

not_false : (b : Bool) → not b ≡ false → b ≡ true
not_false true h = refl
not_false false h = absurd (true≢false h)

-- bytes in bits
pub pow_bytes : (n : ℕ) → 256 ^ n ≡ 2 ^ (8 * n)
pow_bytes zero = refl
pow_bytes (suc n) =
    let e : 8 * suc n ≡ 8 * n + 8 = omega arith in
    rw (pow-suc, pow_bytes n, e, pow-add)

inner_small : (u : List ℕ) (at g : ℕ) → inner_of u at g < 65536
unfolding inner_of inner_bits
inner_small u at g =
    let b : entry_format u at % 16 < 16 = mod-lt (entry_format u at) (omega arith) in
    lt_of_lt_of_le (mod-lt (entry u at g) (pow_pos (entry_format u at % 16 + 1))) (pow_mono {i = entry_format u at % 16 + 1} {j = 16} (omega arith))

pub pair_parts : (u : List ℕ) (m g : ℕ) → present u m ≡ true
    → (outer (pair_of u m g) ≡ outer_of u (map_at u m) g) × (inner (pair_of u m g) ≡ inner_of u (map_at u m) g)
unfolding pair_of
pair_parts u m g h = rw h (digits_div (outer_of u (map_at u m) g) (inner_small u (map_at u m) g), digits_mod (outer_of u (map_at u m) g) (inner_small u (map_at u m) g))

-- an offset that isn't 0
pub present_there : (t : List ℕ) (m : ℕ) → present t m ≡ true → map_at t m ≡ 0 → ⊥
unfolding present
present_there t m h = eqb-false (map_at t m) 0 (not-true (eqb (map_at t m) 0) h)

pub absent_null : (t : List ℕ) (m : ℕ) → present t m ≡ false → map_at t m ≡ 0
unfolding present
absent_null t m h = eqb-true (map_at t m) 0 (not_false (eqb (map_at t m) 0) h)

-- what a glyph reads through a map that is there
pub glyph_there : (t : List ℕ) (m g : ℕ) → present t m ≡ true → (glyph_outer t m g ≡ outer_of t (map_at t m) g) × (glyph_inner t m g ≡ inner_of t (map_at t m) g)
unfolding glyph_outer glyph_inner
glyph_there t m g h = rw (ne_eqb (map_at t m) 0 (present_there t m h)) (refl, refl)

-- and through any: the parts of its pair
pub glyph_parts : (t : List ℕ) (m e : ℕ) → (glyph_outer t m (old_id e) ≡ outer (pair_of t m (old_id e))) × (glyph_inner t m (old_id e) ≡ inner (pair_of t m (old_id e)))
unfolding glyph_outer glyph_inner pair_of
glyph_parts t m e =
    decided (present t m)
    (λ h. let there = glyph_there t m (old_id e) h in let parts = pair_parts t m (old_id e) h in (there.0 ∙ sym parts.0, there.1 ∙ sym parts.1))
    (λ h. let low : old_id e < 65536 = mod-lt e (omega arith) in rw (eq-eqb (map_at t m) 0 (absent_null t m h), h) (sym (div-eq_of_lt low), sym (mod-eq_of_lt low)))

-- an absent advance map gives outer 0
absent_outer : (t : List ℕ) (m e : ℕ) → present t m ≡ false → outer (pair_of t m (old_id e)) ≡ 0
unfolding pair_of
absent_outer t m e h = rw h (div-eq_of_lt (mod-lt e (omega arith)))

outer_fits : (t : List ℕ) (at g : ℕ) → ((i : ℕ) → get_or t i 0 < 256) → bad_map t at ≡ false → outer_of t at g < 2 ^ outer_bits t at
unfolding outer_of outer_bits bad_map entry
outer_fits t at g bytes good =
    let a = (neither (ltb (length t) (at + 2)) _ good).1 in
    let b = (neither (ltb 1 (map_format t at)) _ a).1 in
    let c : inner_bits t at ≤ 8 * entry_bytes t at = ltb-false (8 * entry_bytes t at) (inner_bits t at) (neither (ltb (8 * entry_bytes t at) (inner_bits t at)) _ b).0 in
    let e : outer_bits t at + inner_bits t at ≡ 8 * entry_bytes t at = omega arith in
    shr_lt (outer_bits t at) (inner_bits t at) (rw (e, ← pow_bytes (entry_bytes t at)) (be_lt (entry_bytes t at) t _ bytes))

-- the outer of a glyph's pair fits the outer bits of the written map
pub pair_fits : (t : List ℕ) (m e : ℕ) → ((i : ℕ) → get_or t i 0 < 256) → (present t m ≡ true → bad_map t (map_at t m) ≡ false)
    → outer (pair_of t m (old_id e)) < 2 ^ new_outer_bits t m
unfolding new_outer_bits
pair_fits t m e bytes good =
    decided (present t m)
    (λ h. rw ((pair_parts t m (old_id e) h).0, h) (outer_fits t (map_at t m) (old_id e) bytes (good h)))
    (λ h. rw (absent_outer t m e h, h) (omega arith))

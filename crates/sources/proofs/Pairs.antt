-- Laws of the pairs that maps give to glyphs.
use Prim.Native.Nat.{ℕ, zero, suc, ◌+◌, ◌*◌, ◌^◌, ◌<◌, ◌≤◌}
use mathlib.Core.Path.{◌≡◌, refl, sym, ap, ◌∙◌}
use mathlib.Core.Bool.{Bool, true, false}
use mathlib.Core.List.{List, [], ◌∷◌, ◌++◌, map, append-nil}
use native.Mathlib.Nat.{mod-lt}
use native.Mathlib.Numerals.{add-one}
use lib.Pow.{pow_mono, pow_pos}
use native.Mathlib.Omega.{arith}
use lib.Dec.{leb, eqb}
use Rattle.lists.specs.Pick.{pick, both, differ, differ_yes, differ_no}
use Rattle.lists.specs.Gather.{flat, select}
use Rattle.lists.specs.Search.{any, some}
use Rattle.lists.proofs.Each.{some-not}
use Rattle.lists.proofs.Pieces.{flat_append}
use Rattle.opentype.specs.Map.{entry, inner_bits, outer_of, inner_of}
use Rattle.opentype.specs.Table.{map_at}
use Rattle.rules.specs.Lists.{outer, old_id}
use Rattle.rules.specs.Open.{bad_map}
use Rattle.rules.specs.Numbering.{present, pair_of, counts, named_pairs, bad_outer}
use Rattle.rules.specs.TableCut.{bad_maps}
use Rattle.std.specs.Prelude.{Option, Some, None, is_some, MatchOption}
use Rattle.rules.specs.declared.Pair.{Pair}
use Rattle.readers.specs.declared.map.Map.{Map}
use Rattle.readers.specs.declared.map.MapShape.{MapShape}
use Rattle.readers.specs.Opened.{OpenedMap}
use Rattle.sources.specs.declared.named.Source.{Source}
use Rattle.sources.specs.Pairs.{pair_at, pairs_at, pair_in, pair_through, pairs_in, IsSource, Paired}
use Rattle.lists.proofs.Anys.{any_append, any-map}

-- ---- one pair

-- a pair of so few inner bits
pub paired_present : (s : List ℕ) {m : MapShape} (g : ℕ) {p : Pair} → OpenedMap s m → p.outer ≡ outer_of s m.at g → p.inner ≡ inner_of s m.at g
    → Paired (outer_of s m.at g * 65536 + inner_of s m.at g) p
unfolding inner_of
paired_present s {m} g r o i =
    let few = pow_mono {i = inner_bits s m.at} {j = 16} (rw (← r.bits) r.few) in
    let low = mod-lt (entry s m.at g) (pow_pos (inner_bits s m.at)) in
    record { is = rw (o, i); small = rw i (omega (arith, few, low)) }

-- the pairs of a source are those of the table's map
pub pair_is : (t : List ℕ) (m : ℕ) (src : Source) → IsSource t m src → (g : ℕ) → pair_in src g ≡ pair_at t (map_at t m) g
unfolding pair_in pair_at
pair_is t m src h g = one src.map h
  where
    one : (o : Option Map) → MatchOption o (map_at t m ≡ 0) (λ x. (map_at t m ≡ 0 → ⊥) × (x.bytes.now ≡ t) × (x.shape.at ≡ map_at t m))
        → pair_through o g ≡ pick (differ (map_at t m) 0) (outer_of t (map_at t m) g * 65536 + inner_of t (map_at t m) g) g
    one None e = rw (differ_no _ _ e)
    one (Some x) h = rw (differ_yes _ _ h.0, h.1, h.2)

pub pairs_are : (t : List ℕ) (m : ℕ) (src : Source) (es : List ℕ) → IsSource t m src → pairs_in src es ≡ pairs_at t (map_at t m) es
unfolding pairs_in pairs_at
pairs_are t m src [] h = refl
pairs_are t m src (e ∷ es) h = rw (pair_is t m src h (old_id e)) (ap (λ ps. pair_at t (map_at t m) (old_id e) ∷ ps) (pairs_are t m src es h))

-- whether the map is present
pub present_is : (t : List ℕ) (m : ℕ) (src : Source) → IsSource t m src → is_some src.map ≡ present t m
unfolding present
present_is t m src h = there src.map h
  where
    there : (o : Option Map) → MatchOption o (map_at t m ≡ 0) (λ x. (map_at t m ≡ 0 → ⊥) × (x.bytes.now ≡ t) × (x.shape.at ≡ map_at t m))
        → is_some o ≡ differ (map_at t m) 0
    there None e = sym (differ_no _ _ e)
    there (Some x) h = sym (differ_yes _ _ h.0)

-- what the code's test says of the map
pub counts_is : (t : List ℕ) (m : ℕ) (src : Source) → IsSource t m src → pick (eqb m 0) true (is_some src.map) ≡ counts t m
unfolding counts
counts_is t m src h = rw (present_is t m src h)

-- an inner of so many bits
pub inner_narrow : (t : List ℕ) (at g : ℕ) {i v : ℕ} → i ≡ inner_of t at g → 2 ^ inner_bits t at ≤ v → i < v
unfolding inner_of
inner_narrow t at g e h = omega (arith, mod-lt (entry t at g) (pow_pos (inner_bits t at)))

pub outer_is : {pair : ℕ} {p : Pair} → Paired pair p → outer pair ≡ p.outer
outer_is {pair} p = omega (arith, p.is, p.small)

pub past_is : (count : ℕ) {pair : ℕ} {p : Pair} → Paired pair p → leb count p.outer ≡ leb count (outer pair)
past_is count p = rw (outer_is p)

-- ---- the map that gives them

pub map_good : (maps : ℕ) (t : List ℕ) (m : ℕ) → bad_maps maps t ≡ false → m < maps → both (present t m) (bad_map t (map_at t m)) ≡ false
unfolding bad_maps
map_good maps t m h l = some-not (λ k. both (present t k) (bad_map t (map_at t k))) maps m h l

-- a present map that the table lets through can be used
pub usable : (t : List ℕ) (at m : ℕ) → at ≡ map_at t m → (at ≡ 0 → ⊥) → both (present t m) (bad_map t (map_at t m)) ≡ false → bad_map t at ≡ false
unfolding present
usable t at m e n h = rw (← e, differ_yes at 0 n) at h

-- ---- the pairs of the listed glyphs

-- the entry's pair names an outer at or past the count
abbrev pub past : Source → ℕ → ℕ → Bool
past src count e = leb count (outer (pair_in src (old_id e)))

pub past_any : (src : Source) (count : ℕ) (es : List ℕ) → bad_outer count (pairs_in src es) ≡ any (past src count) es
unfolding bad_outer pairs_in
past_any src count es = any-map (λ p. leb count (outer p)) (λ e. pair_in src (old_id e)) es

-- ---- the pairs of all maps

pub named_none : (t es : List ℕ) → named_pairs 0 t es ≡ []
unfolding named_pairs select flat
named_none t es = refl

named_next : (m : ℕ) (t es : List ℕ) → named_pairs (suc m) t es ≡ named_pairs m t es ++ pick (counts t m) (pairs_at t (map_at t m) es) []
unfolding named_pairs select flat pairs_at pair_at pair_of present
named_next m t es = flat_append pairs (select (λ k. counts t k) m) (pick (counts t m) (m ∷ []) []) ∙ ap (λ ps. flat pairs (select (λ k. counts t k) m) ++ ps) (one (counts t m))
  where
    pairs : ℕ → List ℕ
    pairs k = map (λ e. pair_of t k (old_id e)) es

    one : (b : Bool) → flat pairs (pick b (m ∷ []) []) ≡ pick b (pairs m) []
    one true = append-nil (pairs m)
    one false = refl

pub named_more : (m : ℕ) (t es : List ℕ) → named_pairs (m + 1) t es ≡ named_pairs m t es ++ pick (counts t m) (pairs_at t (map_at t m) es) []
named_more m t es = rw add-one (named_next m t es)

none_past : (count : ℕ) → bad_outer count [] ≡ false
unfolding bad_outer any
none_past count = refl

both_past : (count : ℕ) (ps qs : List ℕ) → bad_outer count (ps ++ qs) ≡ pick (bad_outer count ps) true (bad_outer count qs)
unfolding bad_outer
both_past count ps qs = any_append (λ p. leb count (outer p)) ps qs

pub named_past : (count maps : ℕ) (t es : List ℕ) → bad_outer count (named_pairs maps t es) ≡ some (λ m. both (counts t m) (bad_outer count (pairs_at t (map_at t m) es))) maps
unfolding some
named_past count zero t es = rw (named_none t es) (none_past count)
named_past count (suc m) t es =
    rw (named_next m t es, both_past count (named_pairs m t es) (pick (counts t m) (pairs_at t (map_at t m) es) []), named_past count m t es)
    (turn (some (λ k. both (counts t k) (bad_outer count (pairs_at t (map_at t k) es))) m) (counts t m) (pairs_at t (map_at t m) es))
  where
    either : (a b : Bool) → pick a true b ≡ pick b true a
    either true true = refl
    either true false = refl
    either false true = refl
    either false false = refl

    turn : (a c : Bool) (ps : List ℕ) → pick a true (bad_outer count (pick c ps [])) ≡ pick (both c (bad_outer count ps)) true a
    turn a true ps = either a (bad_outer count ps)
    turn a false ps = rw (none_past count) (either a false)

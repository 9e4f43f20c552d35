-- The kept pairs of a table are a list that a store's cut accepts: at most 8,192, outers not falling, none twice. Every pair that a
-- listed glyph has in a map is among them.
use Rattle.std.specs.Prelude.{ℕ, suc, ◌*◌, ◌<◌, ◌≤◌, ◌≡◌, refl, Bool, true, false, not, List, [], ◌∷◌, ◌++◌, map, length, get_or, ltb, eqb}
use Rattle.std.proofs.Common.{sym, ap, ◌∙◌, arith, mod-lt, mul-le-mul, mul-le-mul_right, le_trans, length-append, ltb-true, le-ltb, eq-eqb}
use Rattle.std.proofs.lemmas.Bool.{false≢true}
use Rattle.std.proofs.Math.Nat.{div-eq_of_lt}
use Rattle.std.proofs.lemmas.List.{length-map}
use Rattle.std.proofs.Math.Pow.{shr_mono}
use Rattle.lists.specs.Pick.{pick, both}
use Rattle.lists.specs.Gather.{select, keep}
use Rattle.lists.specs.Search.{member}
use Rattle.lists.specs.Order.{ascending, without}
use Rattle.lists.proofs.Choices.{decided, either_left, either_right, neither_of, both_of, same_test}
use Rattle.lists.proofs.Each.{neither, both_hold}
use Rattle.lists.proofs.Places.{member-append, is_selected}
use Rattle.lists.proofs.Members.{no_member, member_cons, member_map_at, of_mapped, member-flat, member-keep, member-without}
use Rattle.lists.proofs.Ascending.{Rises, rises_same, below_rises, rises_length, rises_ascending, member-ascending, ascending-length, rises_keep, keep_parts, member-select, rises_select}
use Rattle.lists.proofs.Stands.{length-flat}
use Rattle.rules.specs.Lists.{outer, old_id, twice, bad_pairs, most_pairs, most_glyphs, outers_fall}
use Rattle.rules.specs.Numbering.{present, pair_of, counts, named_pairs, first_pairs, in_order, kept_pairs}
use Rattle.laws.specs.Outers.{Climbs, climbs_not_fall}

-- ---- first ones, then the others in ascending order

order-member : (first named : List ℕ) (p : ℕ) → member p named ≡ true → member p (in_order first named) ≡ true
unfolding in_order
order-member first named p h =
    member-append p first (without first (ascending named))
    ∙ decided (member p first)
    (λ e. either_left (member p first) _ e)
    (λ e. either_right (member p first) (member p (without first (ascending named)))
    (member-without p first (ascending named) ∙ both_of (not (member p first)) (member p (ascending named)) (rw e) (member-ascending p named ∙ h)))

-- outers of ascending pairs don't fall
pub climbs_rising : (c b : ℕ) (ps : List ℕ) → c ≤ outer b → Rises b ps → Climbs c ps
climbs_rising c b [] h r = tt
climbs_rising c b (p ∷ ps) h r = (le_trans h (shr_mono 16 r.0), climbs_rising (outer p) (suc p) ps (shr_mono 16 (omega arith)) r.1)

-- pairs of outer 0 come before any
climbs_first : (first ps : List ℕ) → ((z : ℕ) → member z first ≡ true → z < 65536) → Climbs 0 ps → Climbs 0 (first ++ ps)
climbs_first [] ps h c = c
climbs_first (p ∷ first) ps h c =
    let z : outer p ≡ 0 = div-eq_of_lt (h p (member_cons p p first ∙ rw (eq-eqb p p refl))) in
    (omega arith, rw z (climbs_first first ps (λ q e. h q (member_cons q p first ∙ either_right (eqb q p) (member q first) e)) c))

order_climbs : (first named : List ℕ) → ((z : ℕ) → member z first ≡ true → z < 65536) → Climbs 0 (in_order first named)
unfolding in_order without
order_climbs first named h =
    climbs_first first (without first (ascending named)) h
    (climbs_rising 0 0 (without first (ascending named)) (omega arith) (rises_keep _ 0 (ascending named) (rises_ascending named)))

-- and none stands twice
pub once_rising : (b : ℕ) (ps : List ℕ) → Rises b ps → twice ps ≡ false
unfolding twice
once_rising b [] r = refl
once_rising b (p ∷ ps) r = rw (below_rises (suc p) ps r.1 p (omega arith)) (once_rising (suc p) ps r.1)

once_append : (ps qs : List ℕ) → twice ps ≡ false → twice qs ≡ false → ((z : ℕ) → member z ps ≡ true → member z qs ≡ false) → twice (ps ++ qs) ≡ false
unfolding twice
once_append [] qs a b h = b
once_append (p ∷ ps) qs a b h =
    let n = neither (member p ps) (twice ps) a in
    let behind : (z : ℕ) → member z ps ≡ true → member z qs ≡ false
    = λ z e. h z (member_cons z p ps ∙ either_right (eqb z p) (member z ps) e) in
    neither_of (member p (ps ++ qs)) (twice (ps ++ qs))
    (member-append p ps qs ∙ neither_of (member p ps) (member p qs) n.0 (h p (member_cons p p ps ∙ rw (eq-eqb p p refl))))
    (once_append ps qs n.1 b behind)

order_once : (first named : List ℕ) → Rises 0 first → twice (in_order first named) ≡ false
unfolding in_order without
order_once first named r =
    once_append first (without first (ascending named)) (once_rising 0 first r)
    (once_rising 0 (without first (ascending named)) (rises_keep _ 0 (ascending named) (rises_ascending named)))
    (λ z e. member-without z first (ascending named) ∙ rw e)

-- those that come first are among the named, so they are counted once
order_few : (first named : List ℕ) → Rises 0 first → ((z : ℕ) → member z first ≡ true → member z named ≡ true)
    → length (in_order first named) ≤ length named
unfolding in_order without
order_few first named r h =
    let sorted = ascending named in
    let same : keep (λ z. member z first) sorted ≡ first
    = rises_same 0 0 (keep (λ z. member z first) sorted) first (rises_keep _ 0 sorted (rises_ascending named)) r
    (λ z. member-keep (λ y. member y first) z sorted ∙ same_test (both (member z first) (member z sorted)) (member z first)
    (λ e. (both_hold (member z first) (member z sorted) e).0)
    (λ e. both_of (member z first) (member z sorted) e (member-ascending z named ∙ h z e))) in
    let parts = keep_parts (λ z. member z first) sorted in
    let n = ap (λ (xs : List ℕ). length xs) same in
    let m = ascending-length named in
    rw length-append (omega (arith, parts, n, m))

-- ---- the pairs of a table

pub named_at : (maps : ℕ) (t es : List ℕ) (m z : ℕ) → m < maps → counts t m ≡ true → member z (map (λ e. pair_of t m (old_id e)) es) ≡ true
    → member z (named_pairs maps t es) ≡ true
unfolding named_pairs
named_at maps t es m z l c h =
    member-flat (λ k. map (λ e. pair_of t k (old_id e)) es) z m (select (λ k. counts t k) maps) (is_selected (λ k. counts t k) m maps l c) h

named_length : (maps : ℕ) (t es : List ℕ) → length (named_pairs maps t es) ≤ maps * length es
unfolding named_pairs
named_length maps t es =
    let used = select (λ m. counts t m) maps in
    let few = rises_length 0 maps used (rises_select _ maps) (omega arith)
    (λ z e. ltb-true z maps (both_hold (ltb z maps) (counts t z) (sym (member-select (λ m. counts t m) z maps) ∙ e)).0) in
    rw (length-flat (λ m. map (λ e. pair_of t m (old_id e)) es) 0 used (length es) (λ i h. length-map es _))
    (mul-le-mul_right (length es) (omega arith))

-- what comes first: ascending, of outer 0, and named by the absent advance map
pub record First (maps : ℕ) (t es first : List ℕ) : Type 0 where
  pub rises : Rises 0 first
  pub low : (z : ℕ) → member z first ≡ true → z < 65536
  pub named : (z : ℕ) → member z first ≡ true → member z (named_pairs maps t es) ≡ true

pub first_pairs_lem : (maps : ℕ) (t es : List ℕ) → 0 < maps → First maps t es (first_pairs t es)
unfolding first_pairs pair_of counts
first_pairs_lem maps t es l = by (present t 0) refl
  where
    own : present t 0 ≡ false → map (λ e. pair_of t 0 (old_id e)) es ≡ map (λ e. old_id e) es
    own e = rw e

    by : (b : Bool) → present t 0 ≡ b → First maps t es (pick b [] (ascending (map (λ e. old_id e) es)))
    by true e = record {
      rises = tt;
      low = λ z h. absurd (false≢true (sym (no_member z) ∙ h));
      named = λ z h. absurd (false≢true (sym (no_member z) ∙ h));
    }
    by false e =
        let ids = map (λ d. old_id d) es in
        record {
          rises = rises_ascending ids;
          low = λ z h. of_mapped (λ k. k < 65536) (λ d. old_id d) (λ d. mod-lt d (omega arith)) es z (sym (member-ascending z ids) ∙ h);
          named = λ z h. named_at maps t es 0 z l refl (ap (λ (ps : List ℕ). member z ps) (own e) ∙ (sym (member-ascending z ids) ∙ h));
        }

-- the pair of a listed glyph in a map is kept
pub kept_member : (maps : ℕ) (t es : List ℕ) (m n : ℕ) → m < maps → counts t m ≡ true → n < length es
    → member (pair_of t m (old_id (get_or es n 0))) (kept_pairs maps t es) ≡ true
unfolding kept_pairs
kept_member maps t es m n l c h =
    order-member (first_pairs t es) (named_pairs maps t es) _
    (named_at maps t es m _ l c (member_map_at (λ e. pair_of t m (old_id e)) es n 0 h))

pub kept_climbs : (maps : ℕ) (t es : List ℕ) → 0 < maps → Climbs 0 (kept_pairs maps t es)
unfolding kept_pairs
kept_climbs maps t es l = order_climbs (first_pairs t es) (named_pairs maps t es) (first_pairs_lem maps t es l).low

pub kept_few : (maps : ℕ) (t es : List ℕ) → 0 < maps → maps ≤ 4 → length es ≤ most_glyphs → length (kept_pairs maps t es) ≤ most_pairs
unfolding kept_pairs
kept_few maps t es l most h =
    let first = first_pairs_lem maps t es l in
    let a = order_few (first_pairs t es) (named_pairs maps t es) first.rises first.named in
    let b = named_length maps t es in
    let c = mul-le-mul most h in
    omega (arith, a, b, c)

pub kept_good : (maps : ℕ) (t es : List ℕ) → 0 < maps → maps ≤ 4 → length es ≤ most_glyphs → bad_pairs (kept_pairs maps t es) ≡ false
unfolding bad_pairs kept_pairs
kept_good maps t es l most h =
    let kept = kept_pairs maps t es in
    neither_of (ltb most_pairs (length kept)) _ (le-ltb most_pairs (length kept) (kept_few maps t es l most h))
    (neither_of (outers_fall kept) (twice kept) (climbs_not_fall 0 kept (kept_climbs maps t es l))
    (order_once (first_pairs t es) (named_pairs maps t es) (first_pairs_lem maps t es l).rises))

-- No kept pair stands twice: where one stands is its place.
use Rattle.std.specs.Prelude.{ℕ, zero, suc, ◌<◌, ◌≤◌, ◌≡◌, refl, Bool, true, false, List, [], ◌∷◌, map, ltb, eqb, length, get_or}
use Rattle.std.proofs.Common.{sym, ap, ◌∙◌, true≢false, not-suc-le-zero, arith, eqb-true, eq-eqb, ne_eqb}
use Rattle.lists.specs.Pick.{pick, both}
use Rattle.lists.specs.Gather.{keep}
use Rattle.lists.specs.Search.{member, place}
use Rattle.lists.proofs.Choices.{neither_of}
use Rattle.lists.proofs.Each.{neither, both_hold}
use Rattle.lists.proofs.Members.{member_at, member-keep}
use Rattle.lists.proofs.Sifted.{member_apart}
use Rattle.rules.specs.Lists.{outer, inner, twice, bad_pairs, outers_fall, most_pairs, most_glyphs}
use Rattle.rules.specs.Numbering.{kept_pairs}
use Rattle.laws.specs.Kept.{kept_good}

-- a pair by its parts
pub pair_same : (p q : ℕ) → outer p ≡ outer q → inner p ≡ inner q → p ≡ q
pair_same p q o i = omega arith

pub kept_once : (maps : ℕ) (t es : List ℕ) → 0 < maps → maps ≤ 4 → length es ≤ most_glyphs → twice (kept_pairs maps t es) ≡ false
unfolding bad_pairs
kept_once maps t es l most h =
    let ps = kept_pairs maps t es in
    (neither (outers_fall ps) (twice ps) (neither (ltb most_pairs (length ps)) _ (kept_good maps t es l most h)).1).1

-- nor an inner of one outer
pub inners_once : (o : ℕ) (ps : List ℕ) → twice ps ≡ false → twice (map (λ p. inner p) (keep (λ p. eqb o (outer p)) ps)) ≡ false
unfolding twice keep
inners_once o [] h = refl
inners_once o (p ∷ ps) h =
    let n = neither (member p ps) (twice ps) h in
    step (eqb o (outer p)) (λ e. eqb-true o (outer p) e) n.0 (inners_once o ps n.1)
  where
    own : List ℕ
    own = keep (λ q. eqb o (outer q)) ps

    -- a pair of that outer with that inner is p
    same : o ≡ outer p → (q : ℕ) → member q own ≡ true → inner q ≡ inner p → q ≡ p
    same e q m i =
        let k = eqb-true o (outer q) (both_hold (eqb o (outer q)) (member q ps) (sym (member-keep (λ r. eqb o (outer r)) q ps) ∙ m)).0 in
        pair_same q p (sym k ∙ e) i

    not-both : (a b : Bool) → b ≡ false → both a b ≡ false
    not-both true b e = e
    not-both false b e = refl

    step : (b : Bool) → (b ≡ true → o ≡ outer p) → member p ps ≡ false → twice (map (λ q. inner q) own) ≡ false
        → twice (map (λ q. inner q) (pick b (p ∷ own) own)) ≡ false
    step false e out rest = rest
    step true e out rest =
        neither_of (member (inner p) (map (λ q. inner q) own)) (twice (map (λ q. inner q) own))
        (member_apart (λ q. inner q) p own (same (e refl))
        ∙ (member-keep (λ q. eqb o (outer q)) p ps ∙ not-both (eqb o (outer p)) (member p ps) out))
        rest

pub only_place : (x h : ℕ) (ps : List ℕ) → twice ps ≡ false → h < length ps → get_or ps h 0 ≡ x → h ≡ place x ps
unfolding twice place
only_place x h [] o l e = absurd (not-suc-le-zero l)
only_place x zero (p ∷ ps) o l e = rw (eq-eqb x p (sym e))
only_place x (suc h) (p ∷ ps) o l e =
    let n = neither (member p ps) (twice ps) o in
    let k : h < length ps = omega arith in
    let m : member x ps ≡ true = rw e at (member_at ps h k) in
    let other : x ≡ p → ⊥ = λ q. true≢false (sym m ∙ (ap (λ (z : ℕ). member z ps) q ∙ n.0)) in
    rw (ne_eqb x p other) (ap suc (only_place x h ps n.1 k e))

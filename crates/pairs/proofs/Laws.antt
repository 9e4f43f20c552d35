-- Laws of the set of inners that the search for a pair that stands twice keeps, of pairs that rise, and of the runs of one outer.
use Prim.Native.Nat.{ℕ, zero, suc, ◌+◌, ◌-◌, ◌*◌, ◌<◌, ◌≤◌}
use mathlib.Core.Path.{◌≡◌, refl, sym, ap, ◌∙◌}
use mathlib.Core.Bool.{Bool, true, false, not, ◌&&◌, false≢true}
use mathlib.Core.List.{List, [], ◌∷◌, ◌++◌, map}
use native.Mathlib.Omega.{arith}
use native.Mathlib.Nat.{not-suc-le-zero}
use native.Mathlib.Numerals.{add-one}
use native.Mathlib.Decide.{ℕ_discrete, dec_lt}
use lib.ListN.{length, get_or, take, drop, replicate, take-append-drop, length-drop, drop_of_length-le}
use lib.Seq.{take-suc, drop-cons, drop-drop, get_or-take, get_or-drop, ext_get_or, length-take-le, take_all}
use lib.Dec.{ltb, eqb}
use borrow.Author.Tests.{eq-eqb, ne_eqb, lt-ltb, le-ltb, ltb-true, tests}
use Rattle.std.specs.List.{IsAllAdjacentAnswer}
use Rattle.std.specs.Ordering.{is_le, is_some_and, nat_cmp}
use Rattle.std.specs.declared.option.Option.TheVariants.{Some}
use Rattle.std.specs.Simd.{first_chunks}
use Rattle.std.proofs.lemmas.Map.Keys.{le_from_is_le}
use Rattle.lists.specs.Pick.{pick}
use Rattle.lists.specs.Search.{any, member}
use Rattle.lists.proofs.Choices.{either_right}
use Rattle.lists.proofs.Places.{member-append}
use Rattle.lists.proofs.Ascending.{Rises}
use Rattle.bits.specs.Bits.{has, insert}
use Rattle.bits.proofs.Sets.{has-zeros, has-insert}
use Rattle.rules.specs.Lists.{outer, inner, outers_fall, bad_pairs, most_pairs, runs}
use Rattle.laws.specs.Outers.{climbs_not_fall}
use Rattle.laws.specs.Kept.{climbs_rising, once_rising}
use Rattle.laws.specs.Pairs.{outers_climb, again}
use Rattle.laws.specs.Runs.{Alike, last, more, begins, run_first}
use Rattle.pairs.specs.Pairs.{Inners, Held, OneOuter, RunEnd}

-- ---- the set of inners

not_in_take : (x : ℕ) (ps : List ℕ) (i : ℕ) → i ≤ length ps → ((k : ℕ) → k < i → get_or ps k 0 ≡ x → ⊥) → member x (take i ps) ≡ false
unfolding member any
not_in_take x ps zero h n = refl
not_in_take x [] (suc i) h n = refl
not_in_take x (p ∷ ps) (suc i) h n =
    rw (ne_eqb x p (λ e. n 0 (omega arith) (sym e))) (not_in_take x ps i (omega arith) (λ k l. n (suc k) (omega arith)))

-- no pair before i has the outer
none_before : (n o : ℕ) (ps : List ℕ) (i : ℕ) → i ≤ length ps → ((k : ℕ) → k < i → outer (get_or ps k 0) < o) → Inners (replicate n 0) o (take i ps)
none_before n o ps i h b =
    record { is = λ j l. has-zeros n j ∙ sym (not_in_take (o * 65536 + j) ps i h (λ k g e. omega (arith, b k g))) }

pub inners_first : {set : List ℕ} (n : ℕ) (ps : List ℕ) (i o : ℕ) → i ≡ 0 → set ≡ replicate n 0 → Inners set o (take i ps)
inners_first n ps i o e q = rw (e, q) (none_before n o ps 0 (omega arith) (λ k l. absurd (not-suc-le-zero l)))

pub inners_new : {set : List ℕ} (n : ℕ) (ps : List ℕ) (i : ℕ) → outers_fall ps ≡ false → i < length ps → (i ≡ 0 → ⊥)
    → (outer (get_or ps i 0) ≡ outer (get_or ps (i - 1) 0) → ⊥) → set ≡ replicate n 0 → Inners set (outer (get_or ps i 0)) (take i ps)
inners_new n ps i f h z d q =
    rw q (none_before n (outer (get_or ps i 0)) ps i (omega arith)
    (λ k l. let a = outers_climb ps f k (i - 1) (omega arith) (omega arith) in let b = outers_climb ps f (i - 1) i (omega arith) h in omega (arith, a, b, d)))

-- the pair stands before it just if its inner is in the set
pub inners_again : {set : List ℕ} (ps : List ℕ) (i : ℕ) → Inners set (outer (get_or ps i 0)) (take i ps) → has set (inner (get_or ps i 0)) ≡ again ps i
inners_again ps i s =
    let p = get_or ps i 0 in
    let e : outer p * 65536 + inner p ≡ p = omega arith in
    s.is (inner p) (omega arith) ∙ ap (λ (x : ℕ). member x (take i ps)) e

pub inners_more : {set : List ℕ} (ps : List ℕ) (i : ℕ) → i < length ps → length set ≡ 2048 → Inners set (outer (get_or ps i 0)) (take i ps)
    → Held (insert set (inner (get_or ps i 0))) ps (i + 1)
unfolding member any
inners_more {set} ps i h n s =
    let p = get_or ps i 0 in
    let e : i + 1 - 1 ≡ i = omega arith in
    record {
      is = λ _. rw (e, add-one) (record {
        is = λ j l. has-insert set (inner p) j (omega arith) ∙ rw (take-suc ps i 0 h, member-append (outer p * 65536 + j) (take i ps) (p ∷ []), s.is j l)
            (same (eqb (inner p) j) (eqb (outer p * 65536 + j) p) (tests p j l) (member (outer p * 65536 + j) (take i ps)));
      });
    }
  where
    tests : (p j : ℕ) → j < 65536 → eqb (inner p) j ≡ eqb (outer p * 65536 + j) p
    tests p j l = elim (ℕ_discrete (inner p) j) [
      | yes e ↦ eq-eqb (inner p) j e ∙ sym (eq-eqb (outer p * 65536 + j) p (omega arith))
      | no e ↦ ne_eqb (inner p) j e ∙ sym (ne_eqb (outer p * 65536 + j) p (λ q. e (omega arith)))
    ]

    same : (a b : Bool) → a ≡ b → (m : Bool) → pick a true m ≡ pick m true (pick b true false)
    same true b e m = rw (← e) (over m)
      where
        over : (m : Bool) → true ≡ pick m true true
        over true = refl
        over false = refl
    same false b e m = rw (← e) (over m)
      where
        over : (m : Bool) → m ≡ pick m true false
        over true = refl
        over false = refl

-- ---- one pair and the next

in_order : (x y : ℕ) → false ≡ is_le (nat_cmp x y) → y < x
in_order x y e = grind (arith, tests)

climbs_by_next : (ps : List ℕ) → ((k : ℕ) → suc k < length ps → outer (get_or ps k 0) ≤ outer (get_or ps (suc k) 0)) → outers_fall ps ≡ false
unfolding outers_fall
climbs_by_next [] h = refl
climbs_by_next (p ∷ []) h = refl
climbs_by_next (p ∷ q ∷ ps) h = rw (le-ltb (outer q) (outer p) (h 0 (omega arith))) (climbs_by_next (q ∷ ps) (λ k l. h (suc k) (omega arith)))

falls_at : (ps : List ℕ) (k : ℕ) → suc k < length ps → outer (get_or ps (suc k) 0) < outer (get_or ps k 0) → outers_fall ps ≡ true
unfolding outers_fall
falls_at [] k h l = absurd (omega arith)
falls_at (p ∷ []) k h l = absurd (omega arith)
falls_at (p ∷ q ∷ ps) zero h l = rw (lt-ltb (outer q) (outer p) l)
falls_at (p ∷ q ∷ ps) (suc k) h l = either_right (ltb (outer q) (outer p)) _ (falls_at (q ∷ ps) k (omega arith) l)

-- from what `is_sorted_by_key` ensures
pub falls-sorted : (ps : List ℕ) (r : Bool) → IsAllAdjacentAnswer (λ x y b. b ≡ is_some_and is_le (Some (nat_cmp (outer x) (outer y)))) ps r → not r ≡ outers_fall ps
falls-sorted ps true h = sym (climbs_by_next ps (λ k l. let g = le_from_is_le (outer (get_or ps k 0)) (outer (get_or ps (k + 1) 0)) (sym (h k 0 (omega arith))) in rw add-one at g))
falls-sorted ps false h =
    let l = in_order (outer (get_or ps h.0 0)) (outer (get_or ps (h.0 + 1) 0)) (h.2 0) in
    sym (falls_at ps h.0 (omega (arith, h.1)) (rw add-one at l))

rises_by_next : (b : ℕ) (ps : List ℕ) → b ≤ get_or ps 0 b → ((k : ℕ) → suc k < length ps → get_or ps k 0 < get_or ps (suc k) 0) → Rises b ps
rises_by_next b [] g h = tt
rises_by_next b (p ∷ []) g h = (g, tt)
rises_by_next b (p ∷ q ∷ ps) g h = (g, rises_by_next (suc p) (q ∷ ps) (h 0 (omega arith)) (λ k l. h (suc k) (omega arith)))

pub rises_more : (ps : List ℕ) (i : ℕ) (r : Bool) → 1 ≤ i → (r ≡ true → (k : ℕ) → suc k < i → get_or ps k 0 < get_or ps (suc k) 0)
    → r && ltb (get_or ps (i - 1) 0) (get_or ps i 0) ≡ true → (k : ℕ) → suc k < i + 1 → get_or ps k 0 < get_or ps (suc k) 0
rises_more ps i false h f e k l = absurd (false≢true e)
rises_more ps i true h f e k l = elim (dec_lt (suc k) i) [
  | yes g ↦ f refl k g
  | no g ↦ (let q : i ≡ suc k = omega arith in let p : i - 1 ≡ k = omega arith in rw (← q) (rw p at (ltb-true (get_or ps (i - 1) 0) (get_or ps i 0) e)))
]

pub rises_all : (ps : List ℕ) (i : ℕ) → length ps ≤ i → ((k : ℕ) → suc k < i → get_or ps k 0 < get_or ps (suc k) 0) → Rises 0 ps
rises_all ps i h f = rises_by_next 0 ps (omega arith) (λ k l. f k (omega arith))

-- their outers don't fall, and none stands twice
pub rises_kept : (ps : List ℕ) → length ps ≤ most_pairs → Rises 0 ps → bad_pairs ps ≡ false
unfolding bad_pairs
rises_kept ps h r = rw (le-ltb most_pairs (length ps) h, climbs_not_fall 0 ps (climbs_rising 0 0 ps (omega arith) r), once_rising 0 ps r)

-- ---- a run of one outer

-- a later pair with the outer: as outers don't fall, all before it have it
pub one_leap : {ps : List ℕ} {from end : ℕ} (to : ℕ) → outers_fall ps ≡ false → OneOuter ps from end → end ≤ to → to < length ps
    → outer (get_or ps to 0) ≡ outer (get_or ps from 0) → OneOuter ps from (to + 1)
one_leap {ps} {from} to f r a b e =
    record {
      after = omega (arith, r.after);
      alike = λ k l g. let p = outers_climb ps f from k l (omega arith) in let q = outers_climb ps f k to (omega arith) b in omega (arith, p, q, e);
    }

-- the last pair of an eight, of those from a place on
eight_last : (c : ℕ) (ps : List ℕ) (k : ℕ) → k < c → get_or (get_or (first_chunks 8 c ps) k []) 7 0 ≡ get_or ps (8 * k + 7) 0
eight_last zero ps k h = absurd (not-suc-le-zero h)
eight_last (suc c) ps zero h = get_or-take 8 ps 7 0 (omega arith)
eight_last (suc c) ps (suc k) h =
    let e : 8 + (8 * k + 7) ≡ 8 * suc k + 7 = omega arith in
    eight_last c (drop 8 ps) k (omega arith) ∙ rw (get_or-drop, e)

pub eight_of : (ps : List ℕ) (a k : ℕ) {c : ℕ} {eights : List (List ℕ)} → eights ≡ first_chunks 8 c (take (length ps - a) (drop a ps)) → k < c
    → get_or (get_or eights k []) 7 0 ≡ get_or ps (a + 8 * k + 7) 0
eight_of ps a k {c} e l =
    let all = take_all (length ps - a) (drop a ps) (rw length-drop (omega arith)) in
    let j : a + (8 * k + 7) ≡ a + 8 * k + 7 = omega arith in
    rw (e, all) (eight_last c (drop a ps) k l ∙ rw (get_or-drop, j))

-- the same of the first n pairs
pub one_within : {ps : List ℕ} {n from end : ℕ} → OneOuter (take n ps) from end → end ≤ n → OneOuter ps from end
one_within {ps} {n} {from} r h = record {
  after = r.after;
  alike = λ k a b. rw (get_or-take n ps k 0 (omega arith), get_or-take n ps from 0 (omega arith)) at (r.alike k a b);
}

-- a run of the first n pairs ends where theirs does
pub front_end : {w : List ℕ} {n from end : ℕ} → n ≤ length w → RunEnd (take n w) (length (take n w)) from end → RunEnd w n from end
front_end {w} {n} {from} {end} h r =
    let l = length-take-le n w h in
    let inside : end ≤ n = omega (arith, r.inside, l) in
    record {
      one = one_within r.one inside;
      inside = inside;
      other = λ k. rw (get_or-take n w end 0 (omega arith), get_or-take n w from 0 (omega (arith, r.one.after))) at (r.other (omega (arith, l)));
    }

-- ---- the first run of what is left

part_of : (ps : List ℕ) (n from end : ℕ) → from ≤ end → end ≤ n → n ≤ length ps → take (end - from) (drop from (take n ps)) ≡ take (end - from) (drop from ps)
part_of ps n from end a b c =
    let l : length (take n ps) ≡ n = length-take-le n ps c in
    let p : length (take (end - from) (drop from (take n ps))) ≡ end - from = length-take-le (end - from) (drop from (take n ps)) (rw (length-drop, l) (omega arith)) in
    let q : length (take (end - from) (drop from ps)) ≡ end - from = length-take-le (end - from) (drop from ps) (rw length-drop (omega arith)) in
    ext_get_or 0 _ _ (p ∙ sym q) (λ i h. let g : i < end - from = omega arith in
    rw (get_or-take (end - from) (drop from (take n ps)) i 0 g, get_or-take (end - from) (drop from ps) i 0 g, get_or-drop, get_or-drop, get_or-take n ps (from + i) 0 (omega arith)))

alike_all : (o : ℕ) (ps : List ℕ) → 0 < length ps → ((k : ℕ) → k < length ps → outer (get_or ps k 0) ≡ o) → Alike o ps
alike_all o [] h a = absurd (not-suc-le-zero h)
alike_all o (p ∷ []) h a = last p (a 0 (omega arith))
alike_all o (p ∷ q ∷ ps) h a = more p (a 0 (omega arith)) (alike_all o (q ∷ ps) (omega arith) (λ k l. a (suc k) (omega arith)))

-- the first run of the pairs from a place on, and the pairs behind it
pub run_left : (ps : List ℕ) (n from end : ℕ) → n ≤ length ps → RunEnd ps n from end
    → runs (drop from (take n ps))
    ≡ record { outer = outer (get_or ps from 0); inners = map (λ p. inner p) (take (end - from) (drop from ps)) } ∷ runs (drop end (take n ps))
run_left ps n from end h r =
    let o = outer (get_or ps from 0) in
    let here = take (end - from) (drop from ps) in
    let e : from + (end - from) ≡ end = omega (arith, r.one.after) in
    let cut : drop from (take n ps) ≡ here ++ drop end (take n ps)
    = sym (take-append-drop (end - from) (drop from (take n ps))) ∙ rw (part_of ps n from end (omega (arith, r.one.after)) r.inside h, drop-drop, e) in
    let l : length here ≡ end - from = length-take-le (end - from) (drop from ps) (rw length-drop (omega (arith, r.one.after, r.inside))) in
    let a : Alike o here = alike_all o here (omega (arith, r.one.after)) (λ k g. let i : k < end - from = omega arith in
    rw (get_or-take (end - from) (drop from ps) k 0 i, get_or-drop) (r.one.alike (from + k) (omega arith) (omega arith))) in
    ap runs cut ∙ run_first o here (drop end (take n ps)) a behind
  where
    behind : begins (outer (get_or ps from 0)) (drop end (take n ps)) ≡ false
    behind = elim (dec_lt end n) [
      | yes l ↦ (let k = length-take-le n ps h in
          rw (drop-cons (take n ps) end 0 (omega arith), get_or-take n ps end 0 l) (ne_eqb (outer (get_or ps from 0)) (outer (get_or ps end 0)) (λ e. r.other l (sym e))))
      | no l ↦ (let k = length-take-le n ps h in rw (drop_of_length-le (take n ps) {i = end} (omega arith)))
    ]

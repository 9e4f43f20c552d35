-- Where the runs of pairs start, if outers don't fall; the new numbers by these starts.
use Prim.Native.Nat.{ℕ, suc, ◌+◌, ◌<◌, ◌≤◌}
use mathlib.Core.Path.{◌≡◌, refl, sym, ap, ◌∙◌}
use mathlib.Core.Bool.{Bool, true, false, false≢true}
use mathlib.Core.List.{List, [], ◌∷◌, ◌++◌, map}
use native.Mathlib.Decide.{dec_lt, ℕ_discrete}
use native.Mathlib.Nat.{le_refl, zero-add}
use native.Mathlib.Omega.{arith}
use lib.Dec.{ltb, eqb}
use lib.ListN.{length, drop, length-append}
use borrow.Author.Tests.{lt-ltb, le-ltb, ltb-true, eq-eqb, ne_eqb, eqb-true}
use Rattle.lists.specs.Pick.{pick, both}
use Rattle.lists.specs.Gather.{keep, select, rank}
use Rattle.lists.specs.Search.{any, member, place}
use Rattle.lists.proofs.Choices.{either_of, both_of, same_test}
use Rattle.lists.proofs.Each.{both_hold}
use Rattle.lists.proofs.Places.{at_place, place-select}
use Rattle.lists.proofs.Members.{no_member, member_cons, member-map, member-keep, length-map}
use Rattle.lists.proofs.Sifted.{keep_append}
use Rattle.lists.proofs.Ascending.{keep_parts, rises_same, rises_select, member-select}
use Rattle.rules.specs.Lists.{outer, inner, runs}
use Rattle.rules.specs.Numbering.{new_outer, new_inner}
use Rattle.laws.specs.Outers.{Climbs, outers_of, rises_runs, member_outers, inners_of_lem}
use Rattle.numbering.specs.Numbered.{start_of, used}

-- ---- the start of a run

start_step : (q : ℕ) (qs : List ℕ) (o : ℕ) → start_of (q ∷ qs) o ≡ pick (ltb (outer q) o) (suc (start_of qs o)) (start_of qs o)
unfolding start_of keep
start_step q qs o = step (ltb (outer q) o)
  where
    step : (b : Bool) → length (pick b (q ∷ keep (λ p. ltb (outer p) o) qs) (keep (λ p. ltb (outer p) o) qs)) ≡ pick b (suc (start_of qs o)) (start_of qs o)
    step true = refl
    step false = refl

pub start_nothing : (o : ℕ) → start_of [] o ≡ 0
unfolding start_of keep
start_nothing o = refl

-- outers that begin at o or above have none lower
pub start_none : (b o : ℕ) (ps : List ℕ) → Climbs b ps → o ≤ b → start_of ps o ≡ 0
start_none b o [] c h = start_nothing o
start_none b o (q ∷ qs) c h =
    start_step q qs o ∙ rw (le-ltb (outer q) o (omega (arith, c.0))) (start_none (outer q) o qs c.1 (omega (arith, c.0)))

pub start_append : (xs ys : List ℕ) (o : ℕ) → start_of (xs ++ ys) o ≡ start_of xs o + start_of ys o
unfolding start_of
start_append xs ys o = ap length (keep_append (λ p. ltb (outer p) o) xs ys) ∙ length-append (keep (λ p. ltb (outer p) o) xs) (keep (λ p. ltb (outer p) o) ys)

pub start_inside : (ps : List ℕ) (o : ℕ) → start_of ps o ≤ length ps
unfolding start_of
start_inside ps o = omega (arith, keep_parts (λ p. ltb (outer p) o) ps)

climbs_above : (b p : ℕ) (ps : List ℕ) → Climbs b ps → member p ps ≡ true → b ≤ outer p
climbs_above b p [] c h = absurd (false≢true (sym (no_member p) ∙ h))
climbs_above b p (q ∷ qs) c h =
    let rest = climbs_above (outer q) p qs c.1 in
    either_of (eqb p q) (member p qs) (sym (member_cons p q qs) ∙ h)
    (λ e. rw (eqb-true p q e) c.0) (λ k. omega (arith, c.0, rest k))

-- ---- the new inner: the place in the run

same_pair : (p q : ℕ) → outer q ≡ outer p → eqb (inner p) (inner q) ≡ eqb p q
same_pair p q e =
    same_test (eqb (inner p) (inner q)) (eqb p q)
    (λ h. let i = eqb-true (inner p) (inner q) h in eq-eqb p q (omega arith))
    (λ h. eq-eqb (inner p) (inner q) (ap (λ (x : ℕ). inner x) (eqb-true p q h)))

behind : (p q : ℕ) (qs : List ℕ) → (p ≡ q → ⊥) → member p (q ∷ qs) ≡ true → member p qs ≡ true
behind p q qs n h = let k : pick (eqb p q) true (member p qs) ≡ true = sym (member_cons p q qs) ∙ h in rw (ne_eqb p q n) at k

run-place : (b p : ℕ) (ps : List ℕ) → Climbs b ps → member p ps ≡ true
    → place (inner p) (map (λ q. inner q) (keep (λ q. eqb (outer p) (outer q)) ps)) ≡ place p (drop (start_of ps (outer p)) ps)
unfolding place keep
run-place b p [] c h = absurd (false≢true (sym (no_member p) ∙ h))
run-place b p (q ∷ qs) c h =
    let above = climbs_above (outer q) p (q ∷ qs) (le_refl (outer q), c.1) h in
    elim (dec_lt (outer q) (outer p)) [
      | yes l ↦ (let i = run-place (outer q) p qs c.1 (behind p q qs (λ e. omega arith) h) in
          rw (ne_eqb (outer p) (outer q) (λ e. omega arith), start_step q qs (outer p), lt-ltb (outer q) (outer p) l) i)
      | no g ↦ (let e : outer q ≡ outer p = omega arith in
          let z = start_none (outer q) (outer p) qs c.1 (omega arith) in
          rw (eq-eqb (outer p) (outer q) (sym e), start_step q qs (outer p), le-ltb (outer q) (outer p) (omega arith), z, same_pair p q e)
          (elim (ℕ_discrete p q) [
            | yes s ↦ rw (eq-eqb p q s)
            | no s ↦ (let i = run-place (outer q) p qs c.1 (behind p q qs s h) in rw (ne_eqb p q s) (ap suc (rw z at i)))
          ]))
    ]

-- its place in the whole list lies behind the run's start
pub start_place : (b p : ℕ) (ps : List ℕ) → Climbs b ps → place p ps ≡ start_of ps (outer p) + place p (drop (start_of ps (outer p)) ps)
unfolding place
start_place b p [] c = rw (start_nothing (outer p))
start_place b p (q ∷ qs) c =
    elim (dec_lt (outer q) (outer p)) [
      | yes l ↦ (let i = start_place (outer q) p qs c.1 in
          rw (ne_eqb p q (λ e. omega arith), start_step q qs (outer p), lt-ltb (outer q) (outer p) l) (omega (arith, i)))
      | no g ↦ rw (start_none (outer q) (outer p) (q ∷ qs) (le_refl (outer q), c.1) (omega arith)) (sym (zero-add (place p (q ∷ qs))))
    ]

pub inner-place : (p : ℕ) (ps : List ℕ) → Climbs 0 ps → member p ps ≡ true → new_inner (runs ps) p ≡ place p (drop (start_of ps (outer p)) ps)
unfolding new_inner
inner-place p ps c h = ap (λ is. place (inner p) is) (inners_of_lem (outer p) 0 ps c) ∙ run-place 0 p ps c h

pub inner_short : (p : ℕ) (ps : List ℕ) → Climbs 0 ps → member p ps ≡ true → new_inner (runs ps) p < length ps
unfolding new_inner
inner_short p ps c h =
    let mine : ℕ → Bool = λ q. eqb (outer p) (outer q) in
    let m = member-map (λ q. inner q) p (keep mine ps) (member-keep mine p ps ∙ both_of (mine p) (member p ps) (eq-eqb (outer p) (outer p) refl) h) in
    rw (inners_of_lem (outer p) 0 ps c) (omega (arith, (at_place (inner p) 0 (map (λ q. inner q) (keep mine ps)) m).0, length-map (λ q. inner q) (keep mine ps), keep_parts mine ps))

-- ---- the new outer: how many outers below have a run

pub used-member : (p : ℕ) (ps : List ℕ) → member p ps ≡ true → used ps (outer p) ≡ true
unfolding used
used-member p ps h = member-map (λ q. outer q) p ps h

pub outer-rank : (n p : ℕ) (ps : List ℕ) → Climbs 0 ps → ((o : ℕ) → used ps o ≡ true → o < n) → member p ps ≡ true → new_outer (runs ps) p ≡ rank (used ps) (outer p)
unfolding new_outer used
outer-rank n p ps c low h =
    let u = used-member p ps h in
    let same : outers_of (runs ps) ≡ select (used ps) n
    = rises_same 0 0 (outers_of (runs ps)) (select (used ps) n) (rises_runs 0 ps c) (rises_select (used ps) n)
    (λ z. member_outers z ps ∙ (same_test (used ps z) (both (ltb z n) (used ps z))
    (λ e. both_of (ltb z n) (used ps z) (lt-ltb z n (low z e)) e) (λ e. (both_hold (ltb z n) (used ps z) e).1)
    ∙ sym (member-select (used ps) z n))) in
    ap (λ os. place (outer p) os) same ∙ place-select (used ps) (outer p) n (low (outer p) u) u

-- ---- an outer has a run if the next outer's starts later

start_more : (ps : List ℕ) (o : ℕ) → start_of ps (o + 1) ≡ start_of ps o + length (keep (λ p. eqb o (outer p)) ps)
unfolding keep
start_more [] o = rw (start_nothing (o + 1), start_nothing o)
start_more (q ∷ qs) o =
    let i = start_more qs o in
    elim (ℕ_discrete o (outer q)) [
      | yes e ↦ rw (start_step q qs (o + 1), start_step q qs o, eq-eqb o (outer q) e, lt-ltb (outer q) (o + 1) (omega arith), le-ltb (outer q) o (omega arith)) (omega arith)
      | no e ↦ elim (dec_lt (outer q) o) [
        | yes l ↦ rw (start_step q qs (o + 1), start_step q qs o, ne_eqb o (outer q) e, lt-ltb (outer q) (o + 1) (omega arith), lt-ltb (outer q) o l) (omega arith)
        | no l ↦ rw (start_step q qs (o + 1), start_step q qs o, ne_eqb o (outer q) e, le-ltb (outer q) (o + 1) (omega arith), le-ltb (outer q) o (omega arith)) i
      ]
    ]

used-some : (ps : List ℕ) (o : ℕ) → used ps o ≡ ltb 0 (length (keep (λ p. eqb o (outer p)) ps))
unfolding used member any keep
used-some [] o = refl
used-some (q ∷ qs) o = step (eqb o (outer q)) (keep (λ p. eqb o (outer p)) qs) (used-some qs o)
  where
    step : (b : Bool) (rs : List ℕ) → used qs o ≡ ltb 0 (length rs) → pick b true (used qs o) ≡ ltb 0 (length (pick b (q ∷ rs) rs))
    step true rs e = sym (lt-ltb 0 (suc (length rs)) (omega arith))
    step false rs e = e

pub used_start : (ps : List ℕ) (o : ℕ) → used ps o ≡ ltb (start_of ps o) (start_of ps (o + 1))
used_start ps o =
    let a = start_of ps o in
    let k = length (keep (λ p. eqb o (outer p)) ps) in
    used-some ps o ∙ rw (start_more ps o) (same_test (ltb 0 k) (ltb a (a + k))
    (λ e. lt-ltb a (a + k) (omega (arith, ltb-true 0 k e)))
    (λ e. lt-ltb 0 k (omega (arith, ltb-true a (a + k) e))))

-- Pairs whose outers don't fall: each outer has one run, the runs' outers rise strictly, and a run's inners are those of its outer's pairs.
use Rattle.std.specs.Prelude.{ℕ, suc, ◌≤◌, ◌<◌, ◌≡◌, refl, Bool, true, false, List, [], ◌∷◌, map, length, get_or, ltb, eqb}
use Rattle.std.proofs.Common.{sym, ap, ◌∙◌, arith, le_of_eq, ltb-false, le-ltb, eqb-true, eq-eqb, ne_eqb}
use Rattle.std.proofs.lemmas.Bool.{false≢true, eqb-false}
use Rattle.std.proofs.Math.Decide.{ℕ_discrete}
use Rattle.std.proofs.lemmas.List.{length-map}
use Rattle.lists.specs.Pick.{pick}
use Rattle.lists.specs.Gather.{keep}
use Rattle.lists.specs.Search.{any, member, place}
use Rattle.lists.proofs.Each.{neither}
use Rattle.lists.proofs.Choices.{both_of}
use Rattle.lists.proofs.Members.{no_member, member_cons, member-map, member-keep}
use Rattle.lists.proofs.Places.{at_place}
use Rattle.lists.proofs.Ascending.{Rises, rises_from, place_rises, keep_parts}
use Rattle.rules.specs.Lists.{Run, outer, inner, outers_fall, join_run, runs}
use Rattle.rules.specs.Numbering.{inners_of, new_outer, new_inner}

-- the outers don't fall, from b on
abbrev pub Climbs : ℕ → List ℕ → Type 0
Climbs b [] = Unit {0}
Climbs b (p ∷ ps) = (b ≤ outer p) × Climbs (outer p) ps

pub climbs_not_fall : (b : ℕ) (ps : List ℕ) → Climbs b ps → outers_fall ps ≡ false
unfolding outers_fall
climbs_not_fall b [] c = refl
climbs_not_fall b (p ∷ []) c = refl
climbs_not_fall b (p ∷ q ∷ ps) c = rw (le-ltb (outer q) (outer p) c.1.0) (climbs_not_fall (outer p) (q ∷ ps) c.1)

pub not_fall_climbs : (p : ℕ) (ps : List ℕ) → outers_fall (p ∷ ps) ≡ false → Climbs (outer p) (p ∷ ps)
unfolding outers_fall
not_fall_climbs p [] h = (le_of_eq refl, tt)
not_fall_climbs p (q ∷ ps) h =
    let n = neither (ltb (outer q) (outer p)) (outers_fall (q ∷ ps)) h in
    (le_of_eq refl, (ltb-false (outer q) (outer p) n.0, (not_fall_climbs q ps n.1).1))

pub accepted_climbs : (ps : List ℕ) → outers_fall ps ≡ false → Climbs 0 ps
accepted_climbs [] h = tt
accepted_climbs (p ∷ ps) h = (omega arith, (not_fall_climbs p ps h).1)

abbrev pub outers_of : List Run → List ℕ
outers_of rs = map (λ run. run.outer) rs

-- ---- the outers of the runs

rises_join : (o i b : ℕ) (rs : List Run) → b ≤ o → Rises o (outers_of rs) → Rises b (outers_of (join_run o i rs))
unfolding join_run
rises_join o i b [] h r = (h, tt)
rises_join o i b (run ∷ rs) h r = step (eqb o run.outer) (λ e. eqb-true o run.outer e) (λ e. eqb-false o run.outer e)
  where
    step : (t : Bool) → (t ≡ true → o ≡ run.outer) → (t ≡ false → o ≡ run.outer → ⊥)
        → Rises b (outers_of (pick t (record { outer = o; inners = i ∷ run.inners } ∷ rs) (record { outer = o; inners = i ∷ [] } ∷ run ∷ rs)))
    step true p q = (h, rw (p refl) r.1)
    step false p q = let d = q refl in (h, (omega (arith, r.0, d), r.1))

pub rises_runs : (b : ℕ) (ps : List ℕ) → Climbs b ps → Rises b (outers_of (runs ps))
unfolding runs
rises_runs b [] c = tt
rises_runs b (p ∷ ps) c = rises_join (outer p) (inner p) b (runs ps) c.0 (rises_runs (outer p) ps c.1)

member_join : (z o i : ℕ) (rs : List Run) → member z (outers_of (join_run o i rs)) ≡ pick (eqb z o) true (member z (outers_of rs))
unfolding join_run member any
member_join z o i [] = refl
member_join z o i (run ∷ rs) = step (eqb o run.outer) (λ e. eqb-true o run.outer e)
  where
    once : (a m : Bool) → pick a true m ≡ pick a true (pick a true m)
    once true m = refl
    once false m = refl

    step : (t : Bool) → (t ≡ true → o ≡ run.outer)
        → member z (outers_of (pick t (record { outer = o; inners = i ∷ run.inners } ∷ rs) (record { outer = o; inners = i ∷ [] } ∷ run ∷ rs)))
        ≡ pick (eqb z o) true (pick (eqb z run.outer) true (member z (outers_of rs)))
    step true p = rw (p refl) (once (eqb z run.outer) (member z (outers_of rs)))
    step false p = refl

-- every pair's outer has a run, and no other has
pub member_outers : (z : ℕ) (ps : List ℕ) → member z (outers_of (runs ps)) ≡ member z (map (λ p. outer p) ps)
unfolding runs
member_outers z [] = refl
member_outers z (p ∷ ps) =
    member_join z (outer p) (inner p) (runs ps)
    ∙ (ap (λ (b : Bool). pick (eqb z (outer p)) true b) (member_outers z ps)
    ∙ sym (member_cons z (outer p) (map (λ q. outer q) ps)))

-- ---- the inners of an outer

no_inners : (o : ℕ) (rs : List Run) → Rises (suc o) (outers_of rs) → inners_of rs o ≡ []
unfolding inners_of
no_inners o [] r = refl
no_inners o (run ∷ rs) r =
    rw (ne_eqb o run.outer (λ e. omega (arith, r.0)))
    (no_inners o rs (rises_from (suc o) (suc run.outer) (outers_of rs) (omega (arith, r.0)) r.1))

inners_join : (z o i : ℕ) (rs : List Run) → Rises o (outers_of rs)
    → inners_of (join_run o i rs) z ≡ pick (eqb z o) (i ∷ inners_of rs z) (inners_of rs z)
unfolding join_run inners_of
inners_join z o i [] r = refl
inners_join z o i (run ∷ rs) r =
    elim (ℕ_discrete o run.outer) [
      | yes e ↦ rw (eq-eqb o run.outer e, e) (same (eqb z run.outer) run.inners (inners_of rs z))
      | no e ↦ rw (ne_eqb o run.outer e) (apart (eqb z o) (inners_of (run ∷ rs) z)
          (λ q. ap (λ (k : ℕ). inners_of (run ∷ rs) k) (eqb-true z o q) ∙ no_inners o (run ∷ rs) (omega (arith, r.0), r.1)))
    ]
  where
    same : (b : Bool) (is js : List ℕ) → pick b (i ∷ is) js ≡ pick b (i ∷ pick b is js) (pick b is js)
    same true is js = refl
    same false is js = refl

    apart : (b : Bool) (is : List ℕ) → (b ≡ true → is ≡ []) → pick b (i ∷ []) is ≡ pick b (i ∷ is) is
    apart true is h = rw (h refl)
    apart false is h = refl

-- in list order
pub inners_of_lem : (z b : ℕ) (ps : List ℕ) → Climbs b ps → inners_of (runs ps) z ≡ map (λ p. inner p) (keep (λ p. eqb z (outer p)) ps)
unfolding runs keep inners_of
inners_of_lem z b [] c = refl
inners_of_lem z b (p ∷ ps) c =
    inners_join z (outer p) (inner p) (runs ps) (rises_runs (outer p) ps c.1)
    ∙ (rw (inners_of_lem z (outer p) ps c.1) (both_ways (eqb z (outer p)) (keep (λ q. eqb z (outer q)) ps)))
  where
    both_ways : (t : Bool) (qs : List ℕ) → pick t (inner p ∷ map (λ q. inner q) qs) (map (λ q. inner q) qs) ≡ map (λ q. inner q) (pick t (p ∷ qs) qs)
    both_ways true qs = refl
    both_ways false qs = refl

-- ---- the new numbers of a pair say where its row went

-- the run at an outer's place is the outer's
pub run_at_lem : (o : ℕ) (rs : List Run) (d : Run) → member o (outers_of rs) ≡ true
    → ((get_or rs (place o (outers_of rs)) d).outer ≡ o) × ((get_or rs (place o (outers_of rs)) d).inners ≡ inners_of rs o)
unfolding place inners_of
run_at_lem o [] d h = absurd (false≢true (sym (no_member o) ∙ h))
run_at_lem o (run ∷ rs) d h = step (eqb o run.outer) (λ e. eqb-true o run.outer e) (sym (member_cons o run.outer (outers_of rs)) ∙ h) (run_at_lem o rs d)
  where
    step : (t : Bool) → (t ≡ true → o ≡ run.outer) → pick t true (member o (outers_of rs)) ≡ true
        → (member o (outers_of rs) ≡ true → ((get_or rs (place o (outers_of rs)) d).outer ≡ o) × ((get_or rs (place o (outers_of rs)) d).inners ≡ inners_of rs o))
        → ((get_or (run ∷ rs) (pick t 0 (suc (place o (outers_of rs)))) d).outer ≡ o)
        × ((get_or (run ∷ rs) (pick t 0 (suc (place o (outers_of rs)))) d).inners ≡ pick t run.inners (inners_of rs o))
    step true e k i = (sym (e refl), refl)
    step false e k i = i k

has-outer : (ps : List ℕ) (p : ℕ) → member p ps ≡ true → member (outer p) (outers_of (runs ps)) ≡ true
has-outer ps p h = member_outers (outer p) ps ∙ member-map (λ q. outer q) p ps h

has_inner : (b : ℕ) (ps : List ℕ) → Climbs b ps → (p : ℕ) → member p ps ≡ true → member (inner p) (inners_of (runs ps) (outer p)) ≡ true
has_inner b ps c p h =
    ap (λ (is : List ℕ). member (inner p) is) (inners_of_lem (outer p) b ps c)
    ∙ member-map (λ q. inner q) p (keep (λ q. eqb (outer p) (outer q)) ps)
    (member-keep (λ q. eqb (outer p) (outer q)) p ps ∙ both_of (eqb (outer p) (outer p)) (member p ps) (eq-eqb (outer p) (outer p) refl) h)

-- p's row: subtable new_outer, row new_inner
pub record Moved (rs : List Run) (p : ℕ) (d : Run) : Type 0 where
  pub outer_in : new_outer rs p < length rs
  pub outers : (get_or rs (new_outer rs p) d).outer ≡ outer p
  pub inner_in : new_inner rs p < length (get_or rs (new_outer rs p) d).inners
  pub inners : get_or (get_or rs (new_outer rs p) d).inners (new_inner rs p) 0 ≡ inner p

pub moved : (b : ℕ) (ps : List ℕ) → Climbs b ps → (p : ℕ) → member p ps ≡ true → (d : Run) → Moved (runs ps) p d
unfolding new_outer new_inner
moved b ps c p h d =
    let at = at_place (outer p) 0 (outers_of (runs ps)) (has-outer ps p h) in
    let run = run_at_lem (outer p) (runs ps) d (has-outer ps p h) in
    let row = at_place (inner p) 0 (inners_of (runs ps) (outer p)) (has_inner b ps c p h) in
    record {
      outer_in = rw (length-map (runs ps) (λ (r : Run). r.outer)) at at.0;
      outers = run.0;
      inner_in = rw run.1 row.0;
      inners = rw run.1 row.1;
    }

-- The new numbers are small: an outer's is at most the outer, an inner's below the number of pairs.
pub outer_low : (ps : List ℕ) → Climbs 0 ps → (p : ℕ) → member p ps ≡ true → new_outer (runs ps) p ≤ outer p
unfolding new_outer
outer_low ps c p h = let low = place_rises 0 (outers_of (runs ps)) (rises_runs 0 ps c) (outer p) (has-outer ps p h) in omega arith

pub inner_low : (b : ℕ) (ps : List ℕ) → Climbs b ps → (p : ℕ) → member p ps ≡ true → new_inner (runs ps) p < length ps
unfolding new_inner
inner_low b ps c p h =
    let row = at_place (inner p) 0 (inners_of (runs ps) (outer p)) (has_inner b ps c p h) in
    let own : ℕ → Bool = λ q. eqb (outer p) (outer q) in
    let n = ap (λ (is : List ℕ). length is) (inners_of_lem (outer p) b ps c) ∙ length-map (keep own ps) (λ q. inner q) in
    let k = keep_parts own ps in
    omega (arith, row.0, n, k)

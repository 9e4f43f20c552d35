-- The runs of a list of pairs, by the caller's words: an outer's run stands where as many different outers stand before it, and the pair at a place
-- has its row behind those of the earlier pairs of its outer.
use Prim.Native.Nat.{ℕ, ◌<◌}
use mathlib.Core.Path.{◌≡◌, refl, sym, ap, ◌∙◌}
use mathlib.Core.Bool.{Bool, true}
use mathlib.Core.List.{List, [], map}
use lib.ListN.{length, get_or, take, length-map}
use lib.Dec.{eqb}
use borrow.Author.Tests.{eq-eqb, eqb-true}
use Rattle.lists.specs.Gather.{keep, select}
use Rattle.lists.specs.Search.{member, place}
use Rattle.lists.proofs.Each.{any_at, get_d_map}
use Rattle.lists.proofs.Anys.{any-map}
use Rattle.lists.proofs.Members.{member_at}
use Rattle.lists.proofs.Places.{at_place, place-select, length-select}
use Rattle.lists.proofs.Ascending.{rising_select}
use Rattle.lists.proofs.Sieves.{Sifted, keep_at, keep_from}
use Rattle.rules.specs.Lists.{outer, inner, runs}
use Rattle.rules.specs.Numbering.{inners_of}
use Rattle.laws.specs.Runs.{run_at}
use Rattle.laws.specs.Outers.{Climbs, outers_of, rises_runs, member_outers, inners_of_lem, run_at_lem}
use Rattle.laws.specs.Kept.{once_rising}
use Rattle.laws.specs.Once.{only_place}
use Rattle.demands.specs.KeepsStore.{has_outer, outers_before, pairs_of, outer_at, inner_at}

-- the run of outer o: its place, its items, and the row of each pair of that outer
pub record RunOf (ps : List ℕ) (o : ℕ) : Type 0 where
  pub inside : outers_before ps o < length (runs ps)
  pub outers : (run_at (runs ps) (outers_before ps o)).outer ≡ o
  pub items : length (run_at (runs ps) (outers_before ps o)).inners ≡ pairs_of ps o
  pub rows : (k : ℕ) → k < length ps → outer_at ps k ≡ o
      → (pairs_of (take k ps) o < length (run_at (runs ps) (outers_before ps o)).inners)
      × (get_or (run_at (runs ps) (outers_before ps o)).inners (pairs_of (take k ps) o) 0 ≡ inner_at ps k)

-- item i of run j comes from the pair at a place of the list
pub record Item (ps : List ℕ) (j i : ℕ) : Type 0 where
  pub place : ℕ
  pub inside : place < length ps
  pub outers : outer_at ps place ≡ (run_at (runs ps) j).outer
  pub inners : inner_at ps place ≡ get_or (run_at (runs ps) j).inners i 0
  pub before : pairs_of (take place ps) (outer_at ps place) ≡ i

member-has : (ps : List ℕ) (z : ℕ) → member z (outers_of (runs ps)) ≡ has_outer ps z
unfolding member has_outer
member-has ps z = member_outers z ps ∙ any-map (λ y. eqb z y) (λ p. outer p) ps

-- an outer of the list has a run
pub has-run : (ps : List ℕ) (o : ℕ) → has_outer ps o ≡ true → (k : ℕ) × (k < length (runs ps)) × ((run_at (runs ps) k).outer ≡ o)
has-run ps o h =
    let m : member o (outers_of (runs ps)) ≡ true = member-has ps o ∙ h in (
      place o (outers_of (runs ps)),
      rw (← length-map (runs ps) (λ run. run.outer)) (at_place o 0 (outers_of (runs ps)) m).0,
      (run_at_lem o (runs ps) (record { outer = 0; inners = [] }) m).0,
    )

pub has_at : (ps : List ℕ) (k : ℕ) → k < length ps → has_outer ps (outer_at ps k) ≡ true
unfolding has_outer
has_at ps k h = any_at (λ p. eqb (outer_at ps k) (outer p)) 0 ps k h (eq-eqb (outer_at ps k) (outer_at ps k) refl)

module _ (ps : List ℕ) (climbs : Climbs 0 ps) where
  inners_are : (o : ℕ) → inners_of (runs ps) o ≡ map (λ p. inner p) (keep (λ p. eqb o (outer p)) ps)
  inners_are o = inners_of_lem o 0 ps climbs

  module _ (n : ℕ) (below : (o : ℕ) → has_outer ps o ≡ true → o < n) where
    outers_are : outers_of (runs ps) ≡ select (λ o. has_outer ps o) n
    outers_are = rising_select (λ o. has_outer ps o) (outers_of (runs ps)) n (rises_runs 0 ps climbs) (member-has ps) below

    pub outer-place : (o : ℕ) → has_outer ps o ≡ true → place o (outers_of (runs ps)) ≡ outers_before ps o
    unfolding outers_before
    outer-place o h = ap (λ (os : List ℕ). place o os) outers_are ∙ place-select (λ p. has_outer ps p) o n (below o h) h

    pub runs_count : length (runs ps) ≡ outers_before ps n
    unfolding outers_before
    runs_count =
        sym (length-map (runs ps) (λ run. run.outer))
        ∙ (ap (λ (os : List ℕ). length os) outers_are ∙ length-select (λ p. has_outer ps p) n)

    pub run_of : (o : ℕ) → has_outer ps o ≡ true → RunOf ps o
    unfolding pairs_of
    run_of o h =
        let m : member o (outers_of (runs ps)) ≡ true = member-has ps o ∙ h in
        let at = outer-place o h in
        let run = run_at_lem o (runs ps) (record { outer = 0; inners = [] }) m in
        let own : ℕ → Bool = λ p. eqb o (outer p) in
        let is : (run_at (runs ps) (outers_before ps o)).inners ≡ map (λ p. inner p) (keep own ps) = rw (← at) (run.1 ∙ inners_are o) in
        let size = length-map (keep own ps) (λ p. inner p) in
        record {
          inside = rw (← at, ← length-map (runs ps) (λ run. run.outer)) (at_place o 0 (outers_of (runs ps)) m).0;
          outers = rw (← at) run.0;
          items = rw is size;
          rows = λ k l e.
              let kept = keep_at own 0 ps k l (eq-eqb o (outer_at ps k) (sym e)) in
              (rw (is, size) kept.0, rw is (get_d_map (λ p. inner p) 0 0 (keep own ps) _ kept.0 ∙ ap (λ (p : ℕ). inner p) kept.1));
        }

    -- run j is that of an outer of the list
    pub run-has : (j : ℕ) → j < length (runs ps) → (has_outer ps (run_at (runs ps) j).outer ≡ true) × (outers_before ps (run_at (runs ps) j).outer ≡ j)
    run-has j h =
        let os = outers_of (runs ps) in
        let l : j < length os = rw (length-map (runs ps) (λ run. run.outer)) h in
        let e : get_or os j 0 ≡ (run_at (runs ps) j).outer = get_d_map (λ run. run.outer) (record { outer = 0; inners = [] }) 0 (runs ps) j h in
        let m : has_outer ps (run_at (runs ps) j).outer ≡ true = sym (member-has ps _) ∙ rw e at (member_at os j l) in
        (m, sym (outer-place _ m) ∙ sym (only_place _ j os (once_rising 0 os (rises_runs 0 ps climbs)) l e))

    -- its inners are those of its outer
    pub run_inners : (j : ℕ) → j < length (runs ps) → inners_of (runs ps) (run_at (runs ps) j).outer ≡ (run_at (runs ps) j).inners
    run_inners j h =
        let o = (run_at (runs ps) j).outer in
        let has = run-has j h in
        let at : place o (outers_of (runs ps)) ≡ j = outer-place o has.0 ∙ has.1 in
        sym (rw at at (run_at_lem o (runs ps) (record { outer = 0; inners = [] }) (member-has ps o ∙ has.0)).1)

    pub item_from : (j i : ℕ) → j < length (runs ps) → i < length (run_at (runs ps) j).inners → Item ps j i
    unfolding pairs_of
    item_from j i h l =
        let o = (run_at (runs ps) j).outer in
        let has = run-has j h in
        let own = run_of o has.0 in
        let few = rw has.1 at own.items in
        let s : Sifted (λ p. eqb o (outer p)) 0 ps i = keep_from (λ p. eqb o (outer p)) 0 ps i (rw few at l) in
        let e : outer_at ps s.place ≡ o = sym (eqb-true o (outer_at ps s.place) s.holds) in
        let row = rw (has.1, s.before) at (own.rows s.place s.inside e) in
        record { place = s.place; inside = s.inside; outers = e; inners = sym row.1; before = rw e s.before }

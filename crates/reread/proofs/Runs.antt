-- The runs of a list of pairs: no more than the subtables that they name; their items are the pairs.
use Prim.Native.Nat.{ℕ, zero, suc, ◌+◌, ◌*◌, ◌<◌, ◌≤◌}
use mathlib.Core.Path.{◌≡◌, refl, ap, ◌∙◌}
use mathlib.Core.Bool.{Bool, true, false}
use mathlib.Core.List.{List, [], ◌∷◌, map}
use native.Mathlib.Omega.{arith}
use native.Mathlib.Nat.{not-suc-le-zero}
use lib.ListN.{length, get_or, length-append, length-map}
use lib.Dec.{eqb}
use Rattle.lists.specs.Pick.{pick}
use Rattle.lists.specs.Gather.{flat}
use Rattle.lists.specs.Search.{member, place}
use Rattle.lists.proofs.Each.{get_d_map}
use Rattle.lists.proofs.Places.{at_place}
use Rattle.lists.proofs.Ascending.{Rises, rises_from, rises_length}
use Rattle.rules.specs.Lists.{Run, outer, inner, outers_fall, join_run, runs}
use Rattle.laws.specs.Outers.{outers_of, rises_runs, not_fall_climbs}
use Rattle.laws.specs.Runs.{run_at}

runs_rise : (ps : List ℕ) → outers_fall ps ≡ false → Rises 0 (outers_of (runs ps))
runs_rise [] e = rises_runs 0 [] tt
runs_rise (p ∷ ps) e = rises_from 0 (outer p) (outers_of (runs (p ∷ ps))) (omega arith) (rises_runs (outer p) (p ∷ ps) (not_fall_climbs p ps e))

-- the runs' outers rise, so there are no more of them than outers
pub few_runs : (ps : List ℕ) (most : ℕ) → outers_fall ps ≡ false → ((k : ℕ) → k < length (runs ps) → (run_at (runs ps) k).outer < most) → length (runs ps) ≤ most
few_runs ps most e b =
    let n = length-map (runs ps) (λ run. run.outer) in
    let few = rises_length 0 most (outers_of (runs ps)) (runs_rise ps e) (omega arith) below in
    omega arith
  where
    below : (z : ℕ) → member z (outers_of (runs ps)) ≡ true → z < most
    below z h =
        let p = at_place z 0 (outers_of (runs ps)) h in
        let n = length-map (runs ps) (λ run. run.outer) in
        let k : place z (outers_of (runs ps)) < length (runs ps) = omega (arith, p.0) in
        let v = b (place z (outers_of (runs ps))) k in
        rw (← p.1, get_d_map (λ run. run.outer) (record { outer = 0; inners = [] }) 0 (runs ps) (place z (outers_of (runs ps))) k) v

-- the items of all runs, in turn, are the inners of the pairs
join_items : (o i : ℕ) (rs : List Run) → flat (λ run. run.inners) (join_run o i rs) ≡ i ∷ flat (λ run. run.inners) rs
unfolding join_run flat
join_items o i [] = refl
join_items o i (run ∷ rs) = by (eqb o run.outer)
  where
    by : (b : Bool) → flat (λ run. run.inners) (pick b (record { outer = o; inners = i ∷ run.inners } ∷ rs) (record { outer = o; inners = i ∷ [] } ∷ run ∷ rs))
        ≡ i ∷ flat (λ run. run.inners) (run ∷ rs)
    by true = refl
    by false = refl

pub runs-items : (ps : List ℕ) → flat (λ run. run.inners) (runs ps) ≡ map (λ p. inner p) ps
unfolding runs flat
runs-items [] = refl
runs-items (p ∷ ps) = join_items (outer p) (inner p) (runs ps) ∙ ap (λ (xs : List ℕ). inner p ∷ xs) (runs-items ps)

-- no run is empty
join_some : (o i : ℕ) (rs : List Run) → ((k : ℕ) → k < length rs → 0 < length (run_at rs k).inners)
    → (k : ℕ) → k < length (join_run o i rs) → 0 < length (run_at (join_run o i rs) k).inners
unfolding join_run
join_some o i [] h zero l = omega arith
join_some o i [] h (suc k) l = absurd (omega arith)
join_some o i (run ∷ rs) h k l = by (eqb o run.outer) k l
  where
    by : (b : Bool) (k : ℕ)
        → let joined : List Run = pick b (record { outer = o; inners = i ∷ run.inners } ∷ rs) (record { outer = o; inners = i ∷ [] } ∷ run ∷ rs) in
        k < length joined → 0 < length (run_at joined k).inners
    by true zero l = omega arith
    by true (suc k) l = h (suc k) (omega arith)
    by false zero l = omega arith
    by false (suc k) l = h k (omega arith)

pub runs-some : (ps : List ℕ) (k : ℕ) → k < length (runs ps) → 0 < length (run_at (runs ps) k).inners
unfolding runs
runs-some [] k l = absurd (not-suc-le-zero l)
runs-some (p ∷ ps) k l = join_some (outer p) (inner p) (runs ps) (runs-some ps) k l

-- a piece is no longer than all of them
pub piece_short : {A : Type 0} (f : A → List ℕ) (d : A) (xs : List A) (k : ℕ) → k < length xs → length (f (get_or xs k d)) ≤ length (flat f xs)
unfolding flat
piece_short f d [] k h = absurd (not-suc-le-zero h)
piece_short f d (x ∷ xs) zero h = rw length-append (omega arith)
piece_short f d (x ∷ xs) (suc k) h = let i = piece_short f d xs k (omega arith) in rw length-append (omega arith)

-- pieces each of which has at most a bytes, and b for each item
pub pieces_short : {A : Type 0} (f g : A → List ℕ) (d : A) (a b : ℕ) (xs : List A)
    → ((k : ℕ) → k < length xs → length (f (get_or xs k d)) ≤ a + length (g (get_or xs k d)) * b)
    → length (flat (λ part. part) (map f xs)) ≤ length xs * a + length (flat g xs) * b
unfolding flat
pieces_short f g d a b [] h = omega arith
pieces_short f g d a b (x ∷ xs) h =
    let o = h 0 (omega arith) in
    let i = pieces_short f g d a b xs (λ k l. h (suc k) (omega arith)) in
    let m = length-append (f x) (flat (λ part. part) (map f xs)) in
    rw (m, length-append (g x) (flat g xs)) (omega arith)

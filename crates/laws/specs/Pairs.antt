-- A list of kept pairs gone through from its front: whether outers fall, and whether a pair stands twice.
use Rattle.std.specs.Prelude.{ℕ, zero, suc, ◌-◌, ◌≤◌, ◌<◌, ◌≡◌, refl, Bool, true, false, List, [], ◌∷◌, ◌++◌, length, get_or, take, drop, ltb, eqb}
use Rattle.std.proofs.Common.{sym, ap, ◌∙◌, arith, not-suc-le-zero, le_of_eq, le_trans, drop-cons, take-suc, eq-eqb, ne_eqb}
use Rattle.std.proofs.Math.Decide.{ℕ_discrete}
use Rattle.std.proofs.Math.Seq.{take-length}
use Rattle.lists.specs.Pick.{pick}
use Rattle.lists.specs.Search.{some, any, member}
use Rattle.lists.proofs.Places.{member-append}
use Rattle.rules.specs.Lists.{outer, outers_fall, twice}
use Rattle.laws.specs.Outers.{Climbs, not_fall_climbs}

-- ---- outers

pub falls_step : (ps : List ℕ) (i : ℕ) → 1 ≤ i → i < length ps
    → outers_fall (drop (i - 1) ps) ≡ pick (ltb (outer (get_or ps i 0)) (outer (get_or ps (i - 1) 0))) true (outers_fall (drop i ps))
unfolding outers_fall
falls_step ps zero g h = absurd (not-suc-le-zero g)
falls_step ps (suc i) g h = let e : suc i - 1 ≡ i = omega arith in rw (e, drop-cons ps i 0 (omega arith), drop-cons ps (suc i) 0 h)

pub falls_end : (ps : List ℕ) → length ps ≤ 1 → outers_fall ps ≡ false
unfolding outers_fall
falls_end [] h = refl
falls_end (p ∷ []) h = refl
falls_end (p ∷ q ∷ ps) h = absurd (omega arith)

climbs_at : (b : ℕ) (ps : List ℕ) → Climbs b ps → (k : ℕ) → k < length ps → b ≤ outer (get_or ps k 0)
climbs_at b [] c k h = absurd (not-suc-le-zero h)
climbs_at b (p ∷ ps) c zero h = c.0
climbs_at b (p ∷ ps) c (suc k) h = le_trans c.0 (climbs_at (outer p) ps c.1 k (omega arith))

climbs_order : (b : ℕ) (ps : List ℕ) → Climbs b ps → (i k : ℕ) → i ≤ k → k < length ps → outer (get_or ps i 0) ≤ outer (get_or ps k 0)
climbs_order b [] c i k l h = absurd (not-suc-le-zero h)
climbs_order b (p ∷ ps) c zero k l h = climbs_at (outer p) (p ∷ ps) (le_of_eq refl, c.1) k h
climbs_order b (p ∷ ps) c (suc i) zero l h = absurd (not-suc-le-zero l)
climbs_order b (p ∷ ps) c (suc i) (suc k) l h = climbs_order (outer p) ps c.1 i k (omega arith) (omega arith)

-- a later pair has no lower outer
pub outers_climb : (ps : List ℕ) → outers_fall ps ≡ false → (i k : ℕ) → i ≤ k → k < length ps → outer (get_or ps i 0) ≤ outer (get_or ps k 0)
outers_climb [] e i k l h = absurd (not-suc-le-zero h)
outers_climb (p ∷ ps) e i k l h = climbs_order (outer p) (p ∷ ps) (not_fall_climbs p ps e) i k l h

-- ---- twice

-- the pair at a place stands before it too
abbrev pub again : List ℕ → ℕ → Bool
again ps k = member (get_or ps k 0) (take k ps)

twice_more : (ps : List ℕ) (p : ℕ) → twice (ps ++ p ∷ []) ≡ pick (member p ps) true (twice ps)
unfolding twice member any
twice_more [] p = refl
twice_more (q ∷ ps) p =
    rw (twice_more ps p, member-append q ps (p ∷ []), turned) (four (eqb p q) (member q ps) (member p ps) (twice ps))
  where
    turned : eqb q p ≡ eqb p q
    turned = elim (ℕ_discrete p q) [
      | yes e ↦ eq-eqb q p (sym e) ∙ sym (eq-eqb p q e)
      | no n ↦ ne_eqb q p (λ e. n (sym e)) ∙ sym (ne_eqb p q n)
    ]

    four : (a b c d : Bool) → pick (pick b true (pick a true false)) true (pick c true d) ≡ pick (pick a true c) true (pick b true d)
    four true true c d = refl
    four true false c d = refl
    four false true true d = refl
    four false true false d = refl
    four false false c d = refl

twice-take : (ps : List ℕ) (n : ℕ) → n ≤ length ps → twice (take n ps) ≡ some (again ps) n
unfolding some twice
twice-take ps zero h = refl
twice-take ps (suc n) h = rw (take-suc ps n 0 h, twice_more (take n ps) (get_or ps n 0), twice-take ps n (omega arith))

-- a pair stands twice where one stands before itself
pub twice-some : (ps : List ℕ) → twice ps ≡ some (again ps) (length ps)
twice-some ps = ap twice (sym (take-length ps)) ∙ twice-take ps (length ps) (le_of_eq refl)

-- A cursor over the glyph list while the entries are laid by new id: what is left of the list has the ids from j on.
use Prim.Native.Nat.{ℕ, suc, ◌+◌, ◌≤◌, ◌<◌}
use mathlib.Core.Path.{◌≡◌, refl, sym, ◌∙◌}
use mathlib.Core.Bool.{Bool, true, false}
use mathlib.Core.List.{List, [], ◌∷◌, map}
use native.Mathlib.Nat.{add-zero}
use native.Mathlib.Numerals.{add-one}
use native.Mathlib.Omega.{arith}
use lib.ListN.{length, get_or, drop, length-drop}
use lib.Seq.{drop-cons, get_or-drop}
use lib.Dec.{ltb, eqb}
use borrow.Author.Tests.{ltb-true, lt-ltb, eqb-true, eqb-false, eq-eqb, ne_eqb}
use Rattle.lists.specs.Pick.{both}
use Rattle.lists.proofs.Each.{both_hold}
use Rattle.lists.proofs.Choices.{not_second}
use Rattle.lists.proofs.Ascending.{Rises, rises_from}
use Rattle.rules.specs.Lists.{new_id, old_id}
use Rattle.rules.specs.Maps.{entry_at}

-- The first k of es are behind. The new ids of the others rise from j on, and only those give entries from j on.
pub record Ahead (f : ℕ → ℕ) (es : List ℕ) (k j : ℕ) : Type 0 where
  pub inside : k ≤ length es
  pub rise : Rises j (map (λ e. new_id e) (drop k es))
  pub left : (i : ℕ) → j ≤ i → entry_at f es i ≡ entry_at f (drop k es) i

pub ahead_none : (f : ℕ → ℕ) (es : List ℕ) → Rises 0 (map (λ e. new_id e) es) → Ahead f es 0 0
ahead_none f es r = record { inside = omega arith; rise = r; left = λ i h. refl }

-- an id that no entry has
below_ids : (f : ℕ → ℕ) (j : ℕ) (es : List ℕ) → Rises (suc j) (map (λ e. new_id e) es) → entry_at f es j ≡ 0
unfolding entry_at
below_ids f j [] r = refl
below_ids f j (e ∷ es) r =
    rw (ne_eqb j (new_id e) (λ q. omega (arith, r.0)))
    (below_ids f j es (rises_from (suc j) (suc (new_id e)) (map (λ d. new_id d) es) (omega (arith, r.0)) r.1))

module _ {f : ℕ → ℕ} {es : List ℕ} {k j : ℕ} (a : Ahead f es k j) where
  rest : k < length es → drop k es ≡ get_or es k 0 ∷ drop (k + 1) es
  rest h = rw add-one (drop-cons es k 0 h)

  -- the next of the list has the id j
  module _ (h : k < length es) (e : new_id (get_or es k 0) ≡ j) where
    pub listed_entry : entry_at f es j ≡ f (old_id (get_or es k 0))
    unfolding entry_at
    listed_entry = a.left j (omega arith) ∙ rw (rest h, eq-eqb j (new_id (get_or es k 0)) (sym e))

    pub ahead_listed : Ahead f es (k + 1) (j + 1)
    unfolding entry_at
    ahead_listed =
        let r = rw (rest h) at a.rise in
        record {
          inside = omega arith;
          rise = rw (add-one j, ← e) r.1;
          left = λ i l. a.left i (omega arith) ∙ rw (rest h, ne_eqb i (new_id (get_or es k 0)) (λ q. omega arith));
        }

  -- the ids left are past j
  past : (es : List ℕ) → Rises j (map (λ e. new_id e) es) → (0 < length es → new_id (get_or es 0 0) ≡ j → ⊥) → Rises (suc j) (map (λ e. new_id e) es)
  past [] r n = tt
  past (d ∷ es) r n = let m = n (omega arith) in (omega (arith, r.0, m), r.1)

  -- no entry has the id j
  module _ (n : k < length es → new_id (get_or es k 0) ≡ j → ⊥) where
    gap : Rises (suc j) (map (λ e. new_id e) (drop k es))
    gap = past (drop k es) a.rise (λ h e. n (omega (arith, length-drop k es)) (rw (get_or-drop k es 0 0, add-zero) at e))

    pub gap_entry : entry_at f es j ≡ 0
    gap_entry = a.left j (omega arith) ∙ below_ids f j (drop k es) gap

    pub ahead_gap : Ahead f es k (j + 1)
    ahead_gap = record { inside = a.inside; rise = rw add-one gap; left = λ i l. a.left i (omega arith) }

-- ---- a turn, by what the code has tested

-- the entry of id, and the cursor behind it
pub record Turn (f : ℕ → ℕ) (es : List ℕ) (id v k : ℕ) : Type 0 where
  pub is : v ≡ entry_at f es id
  pub ahead : Ahead f es k (id + 1)

module _ {f : ℕ → ℕ} {es : List ℕ} {k id : ℕ} (a : Ahead f es k id) {b : Bool} (t : b ≡ both (ltb k (length es)) (eqb (new_id (get_or es k 0)) id)) where
  pub is_next : b ≡ true → (k < length es) × (new_id (get_or es k 0) ≡ id)
  is_next h =
      let p = both_hold (ltb k (length es)) (eqb (new_id (get_or es k 0)) id) (sym t ∙ h) in
      (ltb-true k (length es) p.0, eqb-true (new_id (get_or es k 0)) id p.1)

  pub turn_listed : {v : ℕ} → b ≡ true → v ≡ f (old_id (get_or es k 0)) → Turn f es id v (k + 1)
  turn_listed h e = let n = is_next h in record { is = e ∙ sym (listed_entry a n.0 n.1); ahead = ahead_listed a n.0 n.1 }

  pub turn_gap : {v : ℕ} → b ≡ false → v ≡ 0 → Turn f es id v k
  turn_gap h e =
      let n : k < length es → new_id (get_or es k 0) ≡ id → ⊥
      = λ l. eqb-false (new_id (get_or es k 0)) id (not_second (ltb k (length es)) (eqb (new_id (get_or es k 0)) id) (sym t ∙ h) (lt-ltb k (length es) l)) in
      record { is = e ∙ sym (gap_entry a n); ahead = ahead_gap a n }

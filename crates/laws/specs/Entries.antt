-- The entries of a written map: a listed glyph's new id, or the last entry where the id is past the count, gives what its old id asks for.
use Rattle.std.specs.Prelude.{ℕ, zero, suc, ◌+◌, ◌-◌, ◌≤◌, ◌<◌, min, ◌≡◌, refl, Bool, true, false, List, [], ◌∷◌, map, length, get_or, eqb}
use Rattle.std.proofs.Common.{ap, ◌∙◌, true≢false, arith, not-suc-le-zero, eqb-true, eq-eqb, ne_eqb}
use Rattle.lists.specs.Pick.{pick}
use Rattle.lists.specs.Search.{all}
use Rattle.lists.proofs.Each.{all_at}
use Rattle.lists.proofs.Ascending.{Rises}
use Rattle.rules.specs.Lists.{new_id, old_id}
use Rattle.rules.specs.Maps.{count_of, entry_at}

-- every new id of the list is at or past the first
id_from : (b : ℕ) (es : List ℕ) → Rises b (map (λ e. new_id e) es) → (n : ℕ) → n < length es → b ≤ new_id (get_or es n 0)
id_from b [] r n h = absurd (not-suc-le-zero h)
id_from b (e ∷ es) r zero h = r.0
id_from b (e ∷ es) r (suc n) h = let i = id_from (suc (new_id e)) es r.1 n (omega arith) in omega (arith, r.0, i)

-- the count is past some new id of the list
pub count_past : (pair : ℕ → ℕ) (b : ℕ) (es : List ℕ) → Rises b (map (λ e. new_id e) es) → 0 < length es → b < count_of pair es
unfolding count_of all
count_past pair b [] r h = absurd (not-suc-le-zero h)
count_past pair b (e ∷ []) r h = omega (arith, r.0)
count_past pair b (e ∷ d ∷ es) r h =
    step (all (λ c. eqb (pair (old_id e)) (pair (old_id c))) (d ∷ es)) (count_past pair (suc (new_id e)) (d ∷ es) r.1 (omega arith))
  where
    step : (t : Bool) → suc (new_id e) < count_of pair (d ∷ es) → b < pick t (new_id e + 1) (count_of pair (d ∷ es))
    step true i = omega (arith, r.0)
    step false i = omega (arith, r.0)

-- and at most one past the highest
pub count_most : (pair : ℕ → ℕ) (most : ℕ) (es : List ℕ) → ((n : ℕ) → n < length es → new_id (get_or es n 0) ≤ most) → count_of pair es ≤ most + 1
unfolding count_of
count_most pair most [] h = omega arith
count_most pair most (e ∷ es) h =
    step (all (λ c. eqb (pair (old_id e)) (pair (old_id c))) es) (count_most pair most es (λ n l. h (suc n) (omega arith)))
  where
    step : (t : Bool) → count_of pair es ≤ most + 1 → pick t (new_id e + 1) (count_of pair es) ≤ most + 1
    step true i = omega (arith, h 0 (omega arith))
    step false i = i

-- the first entry of the list, and those behind it
here : (j k x y : ℕ) → j ≡ k → pick (eqb j k) x y ≡ x
here j k x y e = rw (eq-eqb j k e)

behind : (j k x y : ℕ) → (j ≡ k → ⊥) → pick (eqb j k) x y ≡ y
behind j k x y e = rw (ne_eqb j k e)

some_behind : (f : ℕ → Bool) (es : List ℕ) → all f es ≡ false → 0 < length es
unfolding all
some_behind f [] h = absurd (true≢false h)
some_behind f (e ∷ es) h = omega arith

-- With ids past the count reading the last entry.
pub entry_found : (pair entry : ℕ → ℕ) (b : ℕ) (es : List ℕ) → Rises b (map (λ e. new_id e) es) → (n : ℕ) → n < length es
    → entry_at (λ g. entry (pair g)) es (min (new_id (get_or es n 0)) (count_of pair es - 1)) ≡ entry (pair (old_id (get_or es n 0)))
unfolding count_of entry_at all
entry_found pair entry b [] r n h = absurd (not-suc-le-zero h)
entry_found pair entry b (e ∷ es) r n h =
    by (all (λ c. eqb (pair (old_id e)) (pair (old_id c))) es) refl n h (λ k l. entry_found pair entry (suc (new_id e)) es r.1 k l)
  where
    Found : Bool → ℕ → Type 0
    Found t n =
        let j = min (new_id (get_or (e ∷ es) n 0)) (pick t (new_id e + 1) (count_of pair es) - 1) in
        pick (eqb j (new_id e)) (entry (pair (old_id e))) (entry_at (λ g. entry (pair g)) es j) ≡ entry (pair (old_id (get_or (e ∷ es) n 0)))

    -- the count is that of the entries behind, which are not all alike
    later : all (λ c. eqb (pair (old_id e)) (pair (old_id c))) es ≡ false → new_id e < count_of pair es - 1
    later a = omega (arith, count_past pair (suc (new_id e)) es r.1 (some_behind _ es a))

    by : (t : Bool) → all (λ c. eqb (pair (old_id e)) (pair (old_id c))) es ≡ t → (n : ℕ) → n < length (e ∷ es)
        → ((k : ℕ) → k < length es
        → entry_at (λ g. entry (pair g)) es (min (new_id (get_or es k 0)) (count_of pair es - 1)) ≡ entry (pair (old_id (get_or es k 0))))
        → Found t n
    by true a zero h i = here _ (new_id e) _ _ (omega arith)
    by true a (suc k) h i =
        let l = id_from (suc (new_id e)) es r.1 k (omega arith) in
        here _ (new_id e) _ _ (omega arith)
        ∙ ap entry (eqb-true (pair (old_id e)) (pair (old_id (get_or es k 0))) (all_at (λ c. eqb (pair (old_id e)) (pair (old_id c))) 0 es k a (omega arith)))
    by false a zero h i = here _ (new_id e) _ _ (omega (arith, later a))
    by false a (suc k) h i =
        let l = id_from (suc (new_id e)) es r.1 k (omega arith) in
        behind _ (new_id e) _ _ (λ q. omega (arith, later a)) ∙ i k (omega arith)

-- New ids that rise.
use Prim.Native.Nat.{ℕ, zero, suc, ◌+◌, ◌<◌, ◌≤◌}
use mathlib.Core.Path.{◌≡◌, refl, sym}
use mathlib.Core.Bool.{Bool, true, false, not}
use mathlib.Core.List.{List, [], ◌∷◌}
use native.Mathlib.Omega.{arith}
use lib.Dec.{leb, ltb}
use lib.ListN.{length, get_or}
use borrow.Author.Tests.{le-leb, lt-leb, ltb-true, ltb-false}
use Rattle.std.specs.List.{IsAllAdjacentAnswer}
use Rattle.lists.specs.Pick.{pick}
use Rattle.rules.specs.Lists.{new_id, new_ids_stay}

-- each is followed by a higher one
all_rise : (es : List ℕ) → ((k j : ℕ) → j ≡ k + 1 → j < length es → new_id (get_or es k 0) < new_id (get_or es j 0)) → new_ids_stay es ≡ false
unfolding new_ids_stay
all_rise [] h = refl
all_rise (d ∷ []) h = refl
all_rise (d ∷ e ∷ es) h = rw (lt-leb (new_id e) (new_id d) (h 0 1 refl (omega arith))) (all_rise (e ∷ es) (λ k j q l. h (suc k) (suc j) (omega arith) (omega arith)))

-- one is not
one_stays : (es : List ℕ) (k j : ℕ) → j ≡ k + 1 → j < length es → new_id (get_or es j 0) ≤ new_id (get_or es k 0) → new_ids_stay es ≡ true
unfolding new_ids_stay
one_stays [] k j q l h = absurd (omega arith)
one_stays (d ∷ []) k j q l h = absurd (omega arith)
one_stays (d ∷ e ∷ es) k zero q l h = absurd (omega arith)
one_stays (d ∷ e ∷ es) zero (suc zero) q l h = rw (le-leb (new_id e) (new_id d) h)
one_stays (d ∷ e ∷ es) zero (suc (suc j)) q l h = absurd (omega arith)
one_stays (d ∷ e ∷ es) (suc k) (suc j) q l h = rw (one_stays (e ∷ es) k j (omega arith) (omega arith) h) (either (leb (new_id e) (new_id d)))
  where
    either : (b : Bool) → pick b true true ≡ true
    either true = refl
    either false = refl

pub not_sorted : (es : List ℕ) (r : Bool) → IsAllAdjacentAnswer (λ d e b. b ≡ ltb (new_id d) (new_id e)) es r → not r ≡ new_ids_stay es
not_sorted es true h = sym (all_rise es (λ k j q l. rw q (ltb-true _ _ (sym (h k 0 (rw q at l))))))
not_sorted es false h = sym (one_stays es h.0 (h.0 + 1) refl h.1 (ltb-false _ _ (sym (h.2 0))))

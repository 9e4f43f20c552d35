-- What an accepted cut has passed: a chain of refusals that ends in `written` answered no to every test.
use Rattle.std.specs.Prelude.{◌≡◌, refl, Bool, true, false, List, [], ℕ}
use Rattle.std.proofs.Common.{ap}
use Rattle.std.proofs.lemmas.Bool.{false≢true}
use Rattle.lists.specs.Pick.{pick}
use Rattle.rules.specs.declared.Refusal.{Refusal}
use Rattle.rules.specs.Numbers.{Outcome, refused, written}

abbrev accepts : Outcome → Bool
accepts (refused r) = false
accepts (written w) = true

abbrev bytes_of : Outcome → List ℕ
bytes_of (refused r) = []
bytes_of (written w) = w

pub not_refused : (r : Refusal) (w : List ℕ) → refused r ≡ written w → ⊥
not_refused r w e = false≢true (ap accepts e)

pub same_bytes : (v w : List ℕ) → written v ≡ written w → v ≡ w
same_bytes v w e = ap bytes_of e

-- one step through the chain
pub passed : (b : Bool) (r : Refusal) (next : Outcome) (w : List ℕ) → pick b (refused r) next ≡ written w → (b ≡ false) × (next ≡ written w)
passed true r next w e = absurd (not_refused r w e)
passed false r next w e = (refl, e)

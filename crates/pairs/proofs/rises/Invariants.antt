use Prim.Native.Nat.{ℕ, suc, ◌<◌}
use mathlib.Core.Path.{◌≡◌}
use mathlib.Core.Bool.{true}
use lib.ListN.{get_or}
use Rattle.pairs.proofs.rises.Given as goal

abbrev pub invariant-loop-i : goal.invariant-loop-i
invariant-loop-i l = l.rises ≡ true → (k : ℕ) → suc k < l.i → get_or l.pairs k 0 < get_or l.pairs (suc k) 0

-- The inner bits of a map hold its largest number, and no fewer, at least 1, do.
use Prim.Native.Nat.{ℕ, suc, ◌-◌, ◌^◌, ◌≤◌, ◌<◌, max}
use Rattle.std.proofs.Math.Nat.{two-pow-succ, lt_of_lt_of_le}
use Rattle.std.proofs.Common.{lt_of_le_of_lt}
use native.Mathlib.Omega.{arith}
use Rattle.std.proofs.Math.Decide.{dec_lt}
use Rattle.std.proofs.Math.Pow.{pow_mono}
use Rattle.std.specs.Int.Count.{count_leading_zeros, leading_length}
use Rattle.rules.specs.Maps.{bit_length, bits_for}

pub bits_some : (n : ℕ) → 1 ≤ bits_for n
unfolding bits_for
bits_some n = omega arith

module _ (n : ℕ) (h : n < 2 ^ 32) where
  pub bits_hold : n < 2 ^ bits_for n
  unfolding bits_for bit_length
  bits_hold = let l = leading_length 32 n h in lt_of_lt_of_le l.2 (pow_mono {i = l.0} {j = max 1 (32 - count_leading_zeros 32 n)} (omega arith))

  pub bits_least : (d : ℕ) → 1 ≤ d → n < 2 ^ d → bits_for n ≤ d
  unfolding bits_for bit_length
  bits_least d p q =
      let l = leading_length 32 n h in
      elim (dec_lt d l.0) [
        | yes g ↦ absurd (omega (arith, pow_mono {i = suc d} {j = l.0} g, two-pow-succ d))
        | no g ↦ omega arith
      ]

-- a larger number takes no fewer
pub bits_climb : (a b : ℕ) → a ≤ b → b < 2 ^ 32 → bits_for a ≤ bits_for b
bits_climb a b h l = bits_least a (lt_of_le_of_lt h l) (bits_for b) (bits_some b) (lt_of_le_of_lt h (bits_hold b l))

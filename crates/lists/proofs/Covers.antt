-- Parts that lie one after the other: each place lies in one of them.
use Prim.Native.Nat.{ℕ, suc, ◌+◌, ◌-◌, ◌<◌, ◌≤◌}
use mathlib.Core.List.{List, [], ◌∷◌}
use native.Mathlib.Omega.{arith}
use native.Mathlib.Decide.{dec_lt}
use native.Mathlib.Nat.{not-suc-le-zero}
use lib.ListN.{length, get_or, take, length-append}
use Rattle.lists.specs.Gather.{flat}

-- how many places lie before part k
abbrev pub before : List (List ℕ) → ℕ → ℕ
before parts k = length (flat (λ part. part) (take k parts))

-- the part that place i lies in
pub record Covered (parts : List (List ℕ)) (i : ℕ) : Type 0 where
  pub part : ℕ
  pub there : part < length parts
  pub from : before parts part ≤ i
  pub to : i < before parts part + length (get_or parts part [])

pub covered : (parts : List (List ℕ)) (i : ℕ) → i < length (flat (λ part. part) parts) → Covered parts i
unfolding flat
covered [] i h = absurd (not-suc-le-zero h)
covered (part ∷ parts) i h =
    let n = length-append part (flat (λ p. p) parts) in
    let rest = covered parts (i - length part) in
    elim (dec_lt i (length part)) [
      | yes l ↦ record { part = 0; there = omega arith; from = omega arith; to = omega (arith, l) }
      | no l ↦ (let c = rest (omega (arith, h, n, l)) in
          let m = length-append part (flat (λ p. p) (take c.part parts)) in
          record {
            part = suc c.part;
            there = omega (arith, c.there);
            from = omega (arith, c.from, m, l);
            to = omega (arith, c.to, m, l);
          })
    ]

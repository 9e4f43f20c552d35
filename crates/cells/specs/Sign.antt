-- Two's complement over the width, and the ranges of a delta.
use Rattle.std.specs.Prelude.{Bool, false, List, ◌≡◌, ℕ, suc, ◌+◌, ◌-◌, ◌/◌, ◌^◌, ◌≤◌, ltb, eqb, ℤ, pos, negsuc}
use Rattle.std.specs.Int.Signed.{mag}
use mir.Val.{sel, of_z}
use Rattle.std.specs.Int.{w32}
use Rattle.cells.specs.Be.{be, be_bytes}

-- the number u, below 2 h, as two's complement with the sign at h
abbrev pub sign : ℕ → ℕ → ℤ
sign h u = sel (ltb u h) (pos u) (negsuc (h + h - suc u))

-- the signed number in the w bytes of s at the place at
abbrev pub signed_at : ℕ → List ℕ → ℕ → ℤ
signed_at w s at = sign (256 ^ w / 2) (be w s at)

-- the w bytes of a signed number: the low ones of its 32 bits
abbrev pub signed_bytes : ℕ → ℤ → List ℕ
signed_bytes w z = be_bytes w (of_z w32 z)

-- the size of a signed cell in bytes: 1, 2 or 4
pub record Size (w : ℕ) : Type 0 where
  pub low : 1 ≤ w
  pub high : w ≤ 4
  pub even : w ≡ 3 → ⊥

-- z lies outside of -(j + 1) .. j
abbrev pub outside : ℕ → ℤ → Bool
outside j z = ltb j (mag z)

-- z is 0
abbrev pub nil : ℤ → Bool
nil (pos n) = eqb n 0
nil (negsuc n) = false

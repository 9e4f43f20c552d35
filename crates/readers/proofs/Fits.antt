-- Sizes fit 64 bits before they are compared with a length.
use Prim.Native.Nat.{ℕ, ◌+◌, ◌*◌, ◌/◌, ◌%◌, ◌^◌, ◌<◌, ◌≤◌}
use mathlib.Core.Path.{◌≡◌}
use mathlib.Core.Bool.{Bool}
use native.Mathlib.Omega.{arith}
use native.Mathlib.Nat.{mul-le-mul}
use Rattle.opentype.specs.Subtable.{length_of_row}
use Rattle.laws.specs.Rows.{row_short}

-- region records
pub records_fit : (n axes : ℕ) → n ≤ 4096 → axes < 65536 → n * (6 * axes) ≤ 4096 * 393216
records_fit n axes h k = mul-le-mul {n₁ = n} {m₁ = 6 * axes} {n₂ = 4096} {m₂ = 393216} h (omega arith)

-- rows
pub rows_fit : (is_long : Bool) (words columns items row : ℕ) → words ≤ columns → columns ≤ 4096 → items < 65536
    → row ≡ length_of_row is_long words columns → items * row ≤ 65536 * 16384
rows_fit is_long words columns items row o f i e =
    let h = row_short is_long words columns o in
    mul-le-mul {n₁ = items} {m₁ = row} {n₂ = 65536} {m₂ = 16384} (omega arith) (omega arith)

-- entries of a map, of as many bytes as the packed field says
pub entries_fit : (n packed : ℕ) → n < 2 ^ 32 → n * (packed / 16 % 4 + 1) ≤ 2 ^ 32 * 4
entries_fit n packed h = mul-le-mul {n₁ = n} {m₁ = packed / 16 % 4 + 1} {n₂ = 2 ^ 32} {m₂ = 4} (omega arith) (omega arith)

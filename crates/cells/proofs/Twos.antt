-- Laws of two's complement over the width, and what signed tests say of a number's magnitude, which `omega` reads.
use mathlib.Core.Path.{◌≡◌, refl, sym, ap, ◌∙◌}
use mathlib.Core.Bool.{true, false}
use Prim.Native.Nat.{ℕ, zero, suc, ◌+◌, ◌-◌, ◌*◌, ◌/◌, ◌%◌, ◌^◌, ◌≤◌, ◌<◌}
use native.Mathlib.Nat.{mod-eq_of_lt, suc-mul}
use native.Mathlib.Omega.{arith}
use lib.Arith.{digits_mod}
use lib.Dec.{T}
use lib.IntN.{ℤ, pos, negsuc, nat_abs}
use lib.Signed.{mag, lt_z, non_neg}
use borrow.Author.Tests.{lt-ltb, le-ltb, ltb-true}
use mir.Syntax.{w32}
use mir.Val.{to_z, of_z, Fits, SFits}
use mir.Facts.{to_z-of_z, to_z_pos, to_z-neg}
use mathlib.Core.List.{List}
use lib.ListN.{length}
use Rattle.cells.specs.Be.{be_bytes, Cell, Wrote}
use Rattle.cells.proofs.Cells.{read_back}
use Rattle.cells.specs.Sign.{sign, signed_at, signed_bytes, Size}

apart : {X : Type 0} → false ≡ true → X
apart e = let z : ◌≡◌ {A = ℕ} 0 1 = cc in absurd (omega arith)

-- a signed value reaches a callee by its bits, so what the callee ensures speaks of `to_z w32 (of_z w32 z)`: this takes that off. The bound is
-- `c.fits.x.sfits` of a parameter, `c.f.ok` of a call's result, and `c.f-arg.given` of a slice's element
pub same32 : (z : ℤ) → mag z < 2 ^ 31 → to_z w32 (of_z w32 z) ≡ z
same32 z h = to_z-of_z {w = w32} (record { sfits = h })

-- ---- a number of bits, as an i32

pub sign_low : (h u : ℕ) → u < h → sign h u ≡ pos u
sign_low h u p = rw (lt-ltb u h p)

pub sign_high : (h u : ℕ) → h ≤ u → sign h u ≡ negsuc (h + h - suc u)
sign_high h u p = rw (le-ltb u h p)

pub low_i32 : (h u : ℕ) → h ≤ 2 ^ 31 → u < h → to_z w32 u ≡ sign h u
low_i32 h u k p = to_z_pos w32 (omega arith) ∙ sym (sign_low h u p)

pub high_i32 : (h u : ℕ) → h ≤ 2 ^ 31 → h ≤ u → u < h + h → to_z w32 (4294967295 - (h - 1 - (u - h))) ≡ sign h u
high_i32 h u k p q =
    let e : 4294967295 - (h - 1 - (u - h)) ≡ 2 ^ 32 - suc (h + h - suc u) = omega arith in
    ap (to_z w32) e ∙ to_z-neg w32 (h + h - suc u) (omega arith) ∙ sym (sign_high h u p)

-- ---- an i32's bits

pub record Flipped (z : ℤ) (y : ℕ) : Type 0 where
  pub can : T (non_neg (to_z w32 (4294967295 - y))) × Fits w32 (nat_abs (to_z w32 (4294967295 - y)))
  pub is : 4294967295 - nat_abs (to_z w32 (4294967295 - y)) ≡ y
  pub size : nat_abs (to_z w32 (4294967295 - y)) ≡ mag z

flipped : (n : ℕ) → n < 2 ^ 31 → Flipped (negsuc n) (2 ^ 32 - suc n)
flipped n h =
    let s : 4294967295 - (4294967296 - suc n) ≡ n = omega arith in
    let e : to_z w32 (4294967295 - (4294967296 - suc n)) ≡ pos n = ap (to_z w32) s ∙ to_z_pos w32 h in
    record { can = rw e (tt, omega arith); is = rw e (omega arith); size = rw e }

pub below_zero : {z : ℤ} → SFits w32 z → lt_z (to_z w32 (of_z w32 z)) (pos 0) ≡ true → Flipped z (of_z w32 z)
below_zero {z = pos n} f t = let h : n < 0 = ltb-true n 0 (rw (to_z-of_z f) at t) in absurd (omega arith)
below_zero {z = negsuc n} f t = flipped n f.sfits

pub record Plain (z : ℤ) : Type 0 where
  pub can : T (non_neg (to_z w32 (of_z w32 z))) × Fits w32 (nat_abs (to_z w32 (of_z w32 z)))
  pub is : nat_abs (to_z w32 (of_z w32 z)) ≡ of_z w32 z
  pub size : nat_abs (to_z w32 (of_z w32 z)) ≡ mag z

pub not_below_zero : {z : ℤ} → SFits w32 z → lt_z (to_z w32 (of_z w32 z)) (pos 0) ≡ false → Plain z
not_below_zero {z = pos n} f t =
    let e : to_z w32 n ≡ pos n = to_z_pos w32 f.sfits in record { can = rw e (tt, omega arith); is = rw e; size = rw e }
not_below_zero {z = negsuc n} f t = apart (sym (rw (to_z-of_z f) at t))

-- ---- what fits comes back: 2 h is the width's power, and q of those are 2 ^ 32

wrap : (q m n : ℕ) → n < m → (suc q * m - suc n) % m ≡ m - suc n
wrap q m n h =
    let e : suc q * m - suc n ≡ q * m + (m - suc n) = rw suc-mul (omega arith) in rw e (digits_mod q (omega arith))

pub sign_bits : (q h : ℕ) (z : ℤ) → 2 ^ 32 ≡ suc q * (h + h) → mag z < h → sign h (of_z w32 z % (h + h)) ≡ z
sign_bits q h (pos n) e l = rw (mod-eq_of_lt {n = n} {m = h + h} (omega arith)) (sign_low h n l)
sign_bits q h (negsuc n) e l =
    rw (e, wrap q (h + h) n (omega arith)) (sign_high h (h + h - suc n) (omega arith) ∙ ap negsuc (omega arith))

-- ---- a cell of any size

pub cell_is : (w : ℕ) {v u : ℕ} {s : List ℕ} {at : ℕ} {z : ℤ} → mag z < 2 ^ 31 → z ≡ sign (256 ^ w / 2) u
    → Cell w s at u → v ≡ w → to_z w32 (of_z w32 z) ≡ signed_at v s at
cell_is w f e p q = to_z-of_z {w = w32} (record { sfits = f }) ∙ e ∙ rw (q, p.is)

-- a signed argument reaches a callee by its bits, so what the callee ensures speaks of `to_z w32 (of_z w32 z)`
pub put_is : (w : ℕ) {v u at : ℕ} {z : ℤ} {l n : List ℕ} → SFits w32 z → Wrote l at (be_bytes w u) n
    → u ≡ of_z w32 (to_z w32 (of_z w32 z)) → v ≡ w → Wrote l at (signed_bytes v z) n
put_is w f p e q = rw (q, ← (e ∙ ap (of_z w32) (to_z-of_z f))) p

-- z, in w bytes that hold it, comes back
pub sign_back : (w : ℕ) (z : ℤ) → Size w → mag z < 256 ^ w / 2 → sign (256 ^ w / 2) (of_z w32 z % 256 ^ w) ≡ z
sign_back zero z s = absurd (omega arith)
sign_back (suc zero) z s = sign_bits 16777215 128 z refl
sign_back (suc (suc zero)) z s = sign_bits 65535 32768 z refl
sign_back (suc (suc (suc zero))) z s = absurd (s.even refl)
sign_back (suc (suc (suc (suc zero)))) z s = sign_bits 0 2147483648 z refl
sign_back (suc (suc (suc (suc (suc w))))) z s = absurd (omega arith)

-- from where it was written
pub read_cell : {l n : List ℕ} {i : ℕ} (z : ℤ) (w : ℕ) → Size w → Wrote l i (signed_bytes w z) n → i + w ≤ length l
    → mag z < 256 ^ w / 2 → signed_at w n i ≡ z
read_cell z w s p h f = rw (read_back w (of_z w32 z) p h) (sign_back w z s f)

-- i32's least number among them
pub read_least : {l n : List ℕ} {i : ℕ} → Wrote l i (signed_bytes 4 (negsuc 2147483647)) n → i + 4 ≤ length l
    → signed_at 4 n i ≡ negsuc 2147483647
read_least p h = read_cell (negsuc 2147483647) 4 (record { low = omega arith; high = omega arith; even = λ e. omega arith }) p h (omega arith)

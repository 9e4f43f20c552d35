-- A number that stands in the bytes is read back, each law once over the width.
use mathlib.Core.Path.{◌≡◌, refl, ◌∙◌}
use mathlib.Core.List.{List, [], append-nil}
use Prim.Native.Nat.{ℕ, ◌/◌, ◌%◌, ◌^◌, ◌<◌}
use native.Mathlib.Nat.{zero-add, mod-eq_of_lt}
use lib.IntN.{ℤ}
use lib.Signed.{mag}
use mir.Val.{of_z}
use mir.Syntax.{w32}
use Rattle.lists.proofs.Stands.{Stands}
use Rattle.cells.specs.Be.{be, be_bytes}
use Rattle.cells.specs.Sign.{signed_at, signed_bytes, Size}
use Rattle.cells.proofs.Cells.{be_ext, be_at}
use Rattle.cells.proofs.Twos.{sign_back}
pub use Rattle.cells.proofs.Cells.{length-be_bytes}

pub be_stands : {w : List ℕ} {at : ℕ} (n v : ℕ) → Stands w at (be_bytes n v) → be n w at ≡ v % 256 ^ n
be_stands {w} {at} n v s =
    be_ext n w (be_bytes n v) at 0 (λ k h. rw zero-add (s.each k (rw length-be_bytes h))) ∙ (rw append-nil at (be_at n v 0 [] [] refl))

-- what fits comes back whole
pub be_back : {w : List ℕ} {at : ℕ} (n v : ℕ) → v < 256 ^ n → Stands w at (be_bytes n v) → be n w at ≡ v
be_back n v h s = be_stands n v s ∙ mod-eq_of_lt h

pub signed_back : {w : List ℕ} {at : ℕ} (n : ℕ) (z : ℤ) → Size n → mag z < 256 ^ n / 2 → Stands w at (signed_bytes n z) → signed_at n w at ≡ z
signed_back n z size l s = rw (be_stands n (of_z w32 z) s) (sign_back n z size l)

use mathlib.Core.Path.{refl}
use native.Mathlib.Omega.{arith}
use native.Mathlib.Nat.{mul-le-mul}
use Rattle.maps.proofs.map_length.Goals as goal

pub returns-in-Some : goal.returns-in-Some
returns-in-Some c = let h = mul-le-mul c.in-Some.p.entries c.in-Some.p.bytes.1 in rw c.in-Some.is (refl, omega arith)

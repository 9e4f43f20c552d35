use native.Mathlib.Omega.{arith}
use Rattle.opentype.specs.Map.{outer_bits, inner_bits}
use Rattle.maps.proofs.outer_bits.Goals as goal

pub returns-in-Some-clause-value : goal.returns-in-Some-clause-value
unfolding outer_bits inner_bits
returns-in-Some-clause-value c = let o = c.in-Some.map.opened in rw (c.in-Some.is, ← o.size, ← o.bits)

pub returns-in-Some-clause-upper_bound : goal.returns-in-Some-clause-upper_bound
unfolding inner_bits
returns-in-Some-clause-upper_bound c = omega (arith, c.in-Some.map.opened.short, c.in-Some.map.opened.bits)

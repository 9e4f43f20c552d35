use native.Mathlib.Omega.{arith}
use Rattle.laws.specs.Once.{only_place}
use Rattle.numbering.proofs.place_near.Goals as goal

pub returns-then-list-i : goal.returns-then-list-i
returns-then-list-i c = only_place _ _ _ c.requires.list_value (grind arith) c.if-list-i.true

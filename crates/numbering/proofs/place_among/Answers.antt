use mathlib.Core.Path.{◌∙◌}
use lib.Dec.{eqb}
use Rattle.std.proofs.Common.{arith, rules, tests}
use Rattle.std.proofs.lemmas.Iterator.{YieldsList-from_slice}
use Rattle.std.proofs.lemmas.Iterator.Search.{position_from_yields_List}
use Rattle.lists.proofs.Chains.{position-place, place_le}
use Rattle.numbering.proofs.place_among.Goals as goal

pub returns : goal.returns
returns c =
    let p = position_from_yields_List (λ y. eqb c.args.x y) _ _ _ c.position.ensures.ran (YieldsList-from_slice c.args.list.now cc) (λ x b q k. search (rules, tests)) in
    let at = c.unwrap_or.ensures ∙ rw p (position-place c.args.x c.args.list.now) in
    record { value = at; upper_bound = omega (arith, at, place_le c.args.x c.args.list.now) }

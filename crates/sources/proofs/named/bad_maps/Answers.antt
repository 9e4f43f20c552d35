use mathlib.Core.Path.{sym, refl, ◌∙◌}
use Rattle.std.proofs.Common.{rules, tests}
use Rattle.std.proofs.lemmas.Iterator.{YieldsList-from_range}
use Rattle.std.proofs.lemmas.Iterator.Search.{any_from_yields_List}
use Rattle.lists.specs.Pick.{both}
use Rattle.lists.proofs.Chains.{some-list_any}
use Rattle.opentype.specs.Table.{map_at}
use Rattle.rules.specs.Numbering.{present}
use Rattle.rules.specs.Open.{bad_map}
use Rattle.rules.specs.TableCut.{bad_maps}
use Rattle.sources.proofs.named.bad_maps.Goals as goal

pub returns : goal.returns
unfolding bad_maps
returns c =
    let t = c.args.t.now in
    any_from_yields_List (λ m. both (present t m) (bad_map t (map_at t m))) _ _ _ c.any.ensures.ran (YieldsList-from_range 0 c.args.maps c.args.maps refl (search rules)) (λ x b q k. search (rules, tests))
    ∙ sym (some-list_any _ c.args.maps)

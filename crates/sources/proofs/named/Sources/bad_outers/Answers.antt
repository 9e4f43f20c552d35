use mathlib.Core.Path.{sym, refl, ◌∙◌}
use Rattle.std.proofs.Common.{rules, tests}
use Rattle.std.proofs.lemmas.Iterator.{YieldsList-from_range}
use Rattle.std.proofs.lemmas.Iterator.Search.{any_from_yields_List}
use Rattle.lists.specs.Pick.{both}
use Rattle.lists.proofs.Chains.{some-list_any}
use Rattle.opentype.specs.Table.{map_at}
use Rattle.rules.specs.Numbering.{counts, bad_outer}
use Rattle.sources.specs.Pairs.{pairs_at}
use Rattle.sources.proofs.Pairs.{named_past, map_good}
use Rattle.std.proofs.iter.Serving.{serving}
use Rattle.sources.proofs.named.Sources.bad_outers.Goals as goal

pub any-requires-clause-callable : goal.any-requires-clause-callable
any-requires-clause-callable c = grind (serving, map_good)

pub returns : goal.returns
returns c =
    let t = c.args.self.now.table.now in
    any_from_yields_List (λ m. both (counts t m) (bad_outer c.args.count (pairs_at t (map_at t m) c.args.glyphs.now))) _ _ _ c.any.ensures.ran (YieldsList-from_range 0 c.args.self.now.maps c.args.self.now.maps refl (search rules)) (λ x b q k. search (rules, tests))
    ∙ sym (named_past _ _ _ _ ∙ some-list_any _ c.args.self.now.maps)

use mathlib.Core.Path.{sym, ◌∙◌}
use Rattle.std.proofs.Common.{rules, tests}
use Rattle.std.proofs.lemmas.Iterator.{YieldsList-from_slice}
use Rattle.std.proofs.lemmas.Iterator.Search.{any_from_yields_List}
use Rattle.lists.proofs.Chains.{any-list_any}
use Rattle.sources.proofs.Pairs.{past, past_any, past_is}
use Rattle.sources.proofs.named.Source.outer_past.Goals as goal

pub returns : goal.returns
returns c =
    any_from_yields_List (past c.args.self.now c.args.count) _ _ _ c.any.ensures.ran (YieldsList-from_slice c.args.glyphs.now cc) (λ x b q k. search (rules, tests, past_is))
    ∙ sym (past_any _ _ c.args.glyphs.now ∙ any-list_any _ c.args.glyphs.now)

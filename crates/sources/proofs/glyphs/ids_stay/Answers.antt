use Rattle.std.proofs.Common.{rules, tests}
use Rattle.std.proofs.lemmas.Fn.{always_returns_same}
use lib.Dec.{ltb}
use Rattle.sources.proofs.Ids.{not_sorted}
use Rattle.rules.specs.Lists.{new_id}
use Rattle.sources.proofs.glyphs.ids_stay.Goals as goal

pub returns : goal.returns
returns c =
    not_sorted c.args.glyphs.now c.is_sorted_by.result (c.is_sorted_by.ensures.cases (λ d e. ltb (new_id d) (new_id e)) (always_returns_same _ _ _ (λ a r f k. search (rules, tests))))

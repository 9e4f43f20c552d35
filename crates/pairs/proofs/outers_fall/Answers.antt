use borrow.Author.Rules.{rules}
use Rattle.std.proofs.lemmas.Fn.{always_returns_same}
use Rattle.rules.specs.Lists.{outer}
use Rattle.pairs.proofs.Laws.{falls-sorted}
use Rattle.pairs.proofs.outers_fall.Goals as goal

pub returns : goal.returns
returns c = falls-sorted _ _ (c.is_sorted_by_key.ensures.cases (λ p. outer p) (search (rules, always_returns_same)))

use mathlib.Core.Path.{sym, ◌∙◌}
use Rattle.lists.specs.Pick.{chain}
use Rattle.rules.specs.Lists.{bad_pairs}
use Rattle.pairs.proofs.Laws.{rises_kept}
use Rattle.pairs.proofs.bad_pairs.Goals as goal

pub returns-then-pairs-gt8192 : goal.returns-then-pairs-gt8192
unfolding bad_pairs
returns-then-pairs-gt8192 c = search chain

pub returns-then-rises : goal.returns-then-rises
returns-then-rises c = sym (rises_kept c.args.pairs.now c.if-pairs-gt8192.false (c.rises.ensures c.if-rises.true))

pub returns-then-outers_fall : goal.returns-then-outers_fall
unfolding bad_pairs
returns-then-outers_fall c = let h = sym c.outers_fall.ensures ∙ c.if-outers_fall.true in search chain

pub returns : goal.returns
unfolding bad_pairs
returns c = let h = sym c.outers_fall.ensures ∙ c.if-outers_fall.false in search chain

use Rattle.std.proofs.Common.{sym, ◌∙◌}
use Rattle.opentype.specs.Table.{map_at}
use Rattle.sources.proofs.Pairs.{usable, map_good}
use Rattle.sources.proofs.named.Sources.source.Goals as goal

pub returns-then-at-eq0 : goal.returns-then-at-eq0
unfolding map_at
returns-then-at-eq0 c = sym c.number_at-at.ensures.is ∙ c.if-at-eq0.true

pub opened-requires : goal.opened-requires
unfolding map_at
opened-requires c = usable _ _ _ c.number_at-at.ensures.is c.if-at-eq0.false (map_good _ _ _ c.args.self.now.sound c.requires)

pub returns : goal.returns
unfolding map_at
returns c = (rw (← c.number_at-at.ensures.is) c.if-at-eq0.false, c.opened.ensures.0, c.opened.ensures.1 ∙ c.number_at-at.ensures.is)

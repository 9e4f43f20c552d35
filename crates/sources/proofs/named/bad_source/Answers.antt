use Rattle.rules.specs.Numbering.{present}
use Rattle.opentype.specs.Table.{map_at}
use Rattle.lists.specs.Pick.{chain}
use Rattle.sources.proofs.named.bad_source.Goals as goal

pub returns-then-at-ne0 : goal.returns-then-at-ne0
unfolding present map_at
returns-then-at-ne0 c = rw (← c.number_at-at.ensures.is) (search chain)

pub returns-else-at-ne0 : goal.returns-else-at-ne0
unfolding present map_at
returns-else-at-ne0 c = rw (← c.number_at-at.ensures.is) (search chain)

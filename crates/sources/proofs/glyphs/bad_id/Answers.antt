use Rattle.rules.specs.Lists.{bad_id}
use Rattle.lists.specs.Pick.{chain}
use Rattle.sources.proofs.glyphs.bad_id.Goals as goal

pub returns-then-entry-gt65534 : goal.returns-then-entry-gt65534
unfolding bad_id
returns-then-entry-gt65534 c = search chain

pub returns-else-entry-gt65534 : goal.returns-else-entry-gt65534
unfolding bad_id
returns-else-entry-gt65534 c = search chain

use Rattle.lists.specs.Pick.{chain}
use Rattle.opentype.specs.Table.{major_version, header_length}
use Rattle.rules.specs.Open.{bad_header}
use Rattle.readers.proofs.bad_header.Goals as goal

pub returns-then-t-maps : goal.returns-then-t-maps
unfolding bad_header header_length
returns-then-t-maps c = search chain

pub returns : goal.returns
unfolding bad_header header_length major_version
returns c = rw (← c.number_at.ensures.is) (search chain)

use Rattle.opentype.specs.Subtable.{region_index}
use Rattle.readers.proofs.subtable.Subtable.region_index.Goals as goal

pub returns-clause-value : goal.returns-clause-value
unfolding region_index
returns-clause-value c = c.number_at.ensures.is

pub returns-clause-upper_bound : goal.returns-clause-upper_bound
unfolding region_index
returns-clause-upper_bound c = c.number_at.ensures.small

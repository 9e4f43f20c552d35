use Rattle.std.proofs.Common.{arith}
use Rattle.opentype.specs.Store.{regions_at}
use Rattle.laws.specs.Inside.{store_inside}
use Rattle.readers.proofs.store.Store.regions_at.Goals as goal

pub number_at-requires-clause-in_bounds : goal.number_at-requires-clause-in_bounds
number_at-requires-clause-in_bounds c = omega (arith, store_inside _ c.args.self.now.sound)

pub returns-clause-value : goal.returns-clause-value
unfolding regions_at
returns-clause-value c = c.number_at.ensures.is

pub returns-clause-upper_bound : goal.returns-clause-upper_bound
returns-clause-upper_bound c = c.number_at.ensures.small

use Rattle.std.proofs.Common.{arith}
use Rattle.opentype.specs.Store.{subtable_count}
use Rattle.laws.specs.Inside.{store_inside}
use Rattle.readers.proofs.store.Store.count.Goals as goal

pub number_at-requires-clause-in_bounds : goal.number_at-requires-clause-in_bounds
number_at-requires-clause-in_bounds c = (store_inside _ c.args.self.now.sound).head

pub returns-clause-value : goal.returns-clause-value
unfolding subtable_count
returns-clause-value c = c.number_at.ensures.is

pub returns-clause-upper_bound : goal.returns-clause-upper_bound
unfolding subtable_count
returns-clause-upper_bound c = omega (arith, c.number_at.ensures.is, store_inside _ c.args.self.now.sound)

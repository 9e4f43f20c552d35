use Rattle.std.proofs.Common.{arith}
use Rattle.opentype.specs.Store.{subtable_at}
use Rattle.readers.proofs.Subtables.{offset_inside}
use Rattle.readers.proofs.store.Store.subtable_again.Goals as goal

pub overflow_mul-outer : goal.overflow_mul-outer
overflow_mul-outer c = omega (arith, offset_inside _ _ c.args.self.now.sound c.requires.there)

pub overflow_add-outer : goal.overflow_add-outer
overflow_add-outer c = omega (arith, offset_inside _ _ c.args.self.now.sound c.requires.there)

pub number_at-requires-clause-in_bounds : goal.number_at-requires-clause-in_bounds
number_at-requires-clause-in_bounds c = omega (arith, offset_inside _ _ c.args.self.now.sound c.requires.there)

pub opened-requires : goal.opened-requires
unfolding subtable_at
opened-requires c = rw c.number_at.ensures.is c.requires.good

pub returns : goal.returns
unfolding subtable_at
returns c = rw (← c.number_at.ensures.is) c.opened.ensures

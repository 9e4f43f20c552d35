use Rattle.std.proofs.Common.{arith, sym, ◌∙◌}
use Rattle.laws.specs.Inside.{store_inside}
use Rattle.opentype.specs.Store.{subtable_at}
use Rattle.readers.proofs.Subtables.{absent_past, absent_zero, bad_there, usable_there}
use Rattle.readers.proofs.store.Store.subtable.Goals as goal

pub returns-then-count-outer : goal.returns-then-count-outer
returns-then-count-outer c = absent_past _ _ c.count.ensures.value c.if-count-outer.true

pub number_at-at-requires-clause-in_bounds : goal.number_at-at-requires-clause-in_bounds
number_at-at-requires-clause-in_bounds c = omega (arith, c.count.ensures.value, c.if-count-outer.false, store_inside _ c.args.self.now.sound)

pub returns-then-at-eq0 : goal.returns-then-at-eq0
unfolding subtable_at
returns-then-at-eq0 c = absent_zero _ _ c.count.ensures.value c.if-count-outer.false c.number_at-at.ensures.is c.if-at-eq0.true

pub returns-then-bad_subtable : goal.returns-then-bad_subtable
unfolding subtable_at
returns-then-bad_subtable c =
    bad_there _ _ c.count.ensures.value c.if-count-outer.false c.number_at-at.ensures.is c.if-at-eq0.false (sym c.bad_subtable.ensures ∙ c.if-bad_subtable.true)

pub returns : goal.returns
unfolding subtable_at
returns c =
    (c.opened.ensures.0, usable_there _ _ c.count.ensures.value c.if-count-outer.false c.number_at-at.ensures.is c.if-at-eq0.false c.opened.ensures.1)

use borrow.Author.Rules.{rules}
use Rattle.rules.specs.Lists.{old_id}
use Rattle.rules.specs.Numbering.{new_inner}
use Rattle.sources.specs.Pairs.{pair_in}
use Rattle.maps.specs.Plans.{kept_in}
use Rattle.maps.proofs.Plans.{renumbered_is, under_limit}
use Rattle.maps.proofs.Most.{Most, most_none, most_more, most_under, most_end, bits_full, bits_all}
use Rattle.maps.proofs.new_inner_bits.Goals as goal
use Rattle.maps.proofs.new_inner_bits.Goals.{After-max-most}

-- one more glyph, from the end
turn : (c : After-max-most) → let a = c.args in
    Most (λ e. new_inner (kept_in a.kept.now.count a.kept.now.work.now) (pair_in a.source.now (old_id e))) a.glyphs.now c.next.new.self.iter.rest.now c.max-most.result
turn c =
    rw c.max-most.ensures (most_more c.loop-entry.invariant c.in-Some.ensures.steps (renumbered_is c.pair-old.ensures c.renumbered-new.ensures).inner)

pub loop-entry-init : goal.loop-entry-init
loop-entry-init c = most_none (search rules)

pub returns-then-inner_bits-full : goal.returns-then-inner_bits-full
returns-then-inner_bits-full c = bits_full (most_under (turn (goal.at.returns-then-inner_bits-full c).After-max-most)) (under_limit _ c.requires.kept c.requires.bounds) c.ranges.limit.fits c.inner_bits-full.ensures c.inner_bits.ensures c.if-inner_bits-full.true

pub loop-entry-preserved : goal.loop-entry-preserved
loop-entry-preserved c = turn (goal.at.loop-entry-preserved c).After-max-most

pub returns : goal.returns
returns c = bits_all (most_end c.loop-entry.invariant c.in-None.ensures.steps.0) c.inner_bits-2.ensures

use Rattle.rules.specs.Lists.{old_id}
use Rattle.rules.specs.Numbering.{new_inner}
use Rattle.sources.specs.Pairs.{pair_in}
use Rattle.maps.specs.Plans.{kept_in}
use Rattle.maps.proofs.Most.{Most}
use Rattle.maps.proofs.new_inner_bits.Given as goal

abbrev pub invariant-loop-entry : goal.invariant-loop-entry
invariant-loop-entry l = Most (λ e. new_inner (kept_in l.kept.count l.kept.work.now) (pair_in l.source (old_id e))) l.glyphs l.entry-iterator.iter.rest.now l.most

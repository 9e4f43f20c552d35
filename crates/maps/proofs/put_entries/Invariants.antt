use Rattle.sources.specs.Pairs.{pair_in}
use Rattle.maps.specs.Plans.{kept_in}
use Rattle.maps.proofs.Bytes.{Entered}
use Rattle.maps.proofs.put_entries.Given as goal

abbrev pub invariant-loop-id : goal.invariant-loop-id
invariant-loop-id l = Entered (kept_in l.kept.count l.kept.work.now) (pair_in l.source) l.glyphs l.p l.initial.out l.k l.id l.at l.out

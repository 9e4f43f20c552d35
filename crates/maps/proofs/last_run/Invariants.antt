use Rattle.sources.specs.Pairs.{pair_in}
use Rattle.maps.proofs.Counts.{Alike}
use Rattle.maps.proofs.last_run.Given as goal

abbrev pub invariant-loop-i : goal.invariant-loop-i
invariant-loop-i l = Alike (pair_in l.source) l.glyphs l.last l.i

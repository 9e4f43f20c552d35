use Rattle.columns.specs.Tally.{number_of_size}
use Rattle.columns.proofs.Tallies.{Tallied}
use Rattle.columns.proofs.tally.column_size.Given as goal

abbrev pub invariant-loop-pair : goal.invariant-loop-pair
invariant-loop-pair l = Tallied l.t.bytes.now l.t.shape.at l.pairs l.column l.pair-index (number_of_size l.tally.size)

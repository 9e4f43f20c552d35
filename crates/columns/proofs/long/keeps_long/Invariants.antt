use mathlib.Core.Path.{◌≡◌}
use mathlib.Core.Bool.{false}
use Rattle.lists.specs.Search.{some}
use Rattle.columns.proofs.Searches.{far_in, Unfound}
use Rattle.columns.proofs.long.keeps_long.Given as goal

abbrev pub invariant-search : goal.invariant-search
invariant-search l = (l.found ≡ false) × (some (far_in l.t.bytes.now l.t.shape.at l.pairs) l.column ≡ false)

abbrev pub invariant-loop-pair : goal.invariant-loop-pair
invariant-loop-pair l = (l.found ≡ false) × Unfound l.t.bytes.now l.t.shape.at l.pairs l.column l.pair-index

use Rattle.std.proofs.Common.{rules, tests}
use Prim.Native.Nat.{◌+◌}
use mathlib.Core.Path.{◌∙◌}
use native.Mathlib.Omega.{arith}
use Rattle.columns.specs.Tally.{number_of_size}
use Rattle.laws.specs.Rows.{cell_has_size}
use Rattle.columns.proofs.Tallies.{Tallied, tallied_more, tallied_most, tallied_end}
use Rattle.columns.proofs.tally.column_size.Goals as goal
use Rattle.columns.proofs.tally.column_size.Goals.{After-take-tally}

pub enough-end-requires : goal.enough-end-requires
enough-end-requires c = rw c.cell_size-cell.ensures (cell_has_size _ _ _)

-- one more delta is tallied
turn : (c : After-take-tally) → let a = c.args in
    Tallied a.t.now.bytes.now a.t.now.shape.at a.pairs.now a.column (c.loop-pair.pair-index + 1) (number_of_size c.take-tally.result.size)
turn c =
    tallied_more c.loop-pair.invariant c.loop-pair-test.true (record { sfits = c.delta.type_inv }) c.delta.ensures c.take-tally.ensures

pub returns-then-ge : goal.returns-then-ge
returns-then-ge c =
    let o = c.args.t.now.opened in
    tallied_most (turn (goal.at.returns-then-ge c).After-take-tally) c.args.long c.cell_size-cell.result (c.cell_size-cell.ensures ∙ rw (o.long, o.words)) c.enough-end.ensures
    (search (rules, tests))

pub loop-pair-preserved : goal.loop-pair-preserved
loop-pair-preserved c = turn (goal.at.loop-pair-preserved c).After-take-tally

pub returns-after-loop-pair : goal.returns-after-loop-pair
returns-after-loop-pair c = tallied_end c.loop-pair.invariant c.args.long c.loop-pair-test.false

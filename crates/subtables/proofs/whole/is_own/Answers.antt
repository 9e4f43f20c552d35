use borrow.Author.Rules.{rules}
use Rattle.std.proofs.iter.runs.Made.{chains}
use Rattle.std.proofs.iter.runs.Sources.{range_runs}
use Rattle.subtables.proofs.whole.is_own.Goals as goal

pub returns : goal.returns
returns c =
    let run = c.all.ensures.runs.0 in
    let up = range_runs run run.seen in
    λ e. record { each = λ j h. search (rules, chains, up.3 j) }

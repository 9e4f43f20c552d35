use mathlib.Core.Path.{◌∙◌}
use native.Mathlib.Omega.{arith}
use borrow.Author.Rules.{rules}
use Rattle.numbering.proofs.Indexing.{shift_noted, outer_at_lem}
use Rattle.numbering.proofs.index_by.Goals as goal

pub segment_start-start-requires : goal.segment_start-start-requires
segment_start-start-requires c = let l = c.loop-k in
    (l.invariant.0, omega (arith, l.invariant.1, c.requires.numbered.few), outer_at_lem l.k l.work c.requires.numbered (l.invariant.2 ∙ shift_noted c.args.work.now c.args.shift) (search rules))

pub returns-clause-work_unchanged : goal.returns-clause-work_unchanged
returns-clause-work_unchanged c = c.loop-k.invariant.2 ∙ shift_noted c.args.work.now c.args.shift

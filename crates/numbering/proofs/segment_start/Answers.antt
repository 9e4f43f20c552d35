use Rattle.numbering.proofs.Indexing.{start_noted}
use Rattle.numbering.proofs.segment_start.Goals as goal

pub returns-clause-work_unchanged : goal.returns-clause-work_unchanged
returns-clause-work_unchanged c = simp start_noted

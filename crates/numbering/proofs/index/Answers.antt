use mathlib.Core.Path.{◌∙◌}
use borrow.Author.Rules.{rules}
use Rattle.numbering.proofs.Kept.{indexed_kept}
use Rattle.numbering.proofs.index.Goals as goal

pub index_by-requires-clause-numbered : goal.index_by-requires-clause-numbered
index_by-requires-clause-numbered c = indexed_kept c.requires c.index_by-slots.ensures.work_unchanged (search rules)

pub index_by-requires-then-index_by-gt4096-clause-numbered : goal.index_by-requires-then-index_by-gt4096-clause-numbered
index_by-requires-then-index_by-gt4096-clause-numbered c = indexed_kept c.requires (c.index_by.ensures.work_unchanged ∙ c.index_by-slots.ensures.work_unchanged) (search rules)

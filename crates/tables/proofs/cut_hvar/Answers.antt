use Rattle.rules.specs.TableCut.{cut_hvar}
use Rattle.tables.proofs.cut_hvar.Goals as goal

pub returns : goal.returns
unfolding cut_hvar
returns c = c.cut_table.ensures

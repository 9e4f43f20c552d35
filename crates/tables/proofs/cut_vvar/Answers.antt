use Rattle.rules.specs.TableCut.{cut_vvar}
use Rattle.tables.proofs.cut_vvar.Goals as goal

pub returns : goal.returns
unfolding cut_vvar
returns c = c.cut_table.ensures

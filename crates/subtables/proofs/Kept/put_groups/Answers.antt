use Rattle.subtables.proofs.Writing.{row_laid}
use Rattle.subtables.proofs.Kept.put_groups.Goals as goal

pub returns : goal.returns
returns c =
    let k = c.args.self.now in
    row_laid k.subtable.bytes.now k.subtable.shape.at c.args.item k.work.now k.columns.counts c.requires.sizes.0 c.requires.sizes.1 c.put_cells.ensures c.put_cells-2.ensures

use Rattle.subtables.proofs.Lows.{low_last}
use Rattle.subtables.proofs.by_cell.low_before.Goals as goal

pub returns : goal.returns
returns c = λ w z k l. low_last c.args.s.now w z k l (λ i. (c.type_inv.s i).fits) c.entry_at.ensures.is

use Rattle.readers.proofs.Maps.{pair_is, shifted_one}
use Rattle.std.proofs.Common.{arith}
use Rattle.readers.proofs.map.Map.pair.Goals as goal

pub returns-clause-outer_value : goal.returns-clause-outer_value
returns-clause-outer_value c = (pair_is c.args.self.now.opened _ c.entry_index.ensures c.entry_at-entry.ensures).0

pub returns-clause-inner_value : goal.returns-clause-inner_value
returns-clause-inner_value c =
    rw (shifted_one c.args.self.now.shape.bits (omega (arith, c.args.self.now.opened.few))) (pair_is c.args.self.now.opened _ c.entry_index.ensures c.entry_at-entry.ensures).1

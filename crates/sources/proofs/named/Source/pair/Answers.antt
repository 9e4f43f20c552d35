use Rattle.std.proofs.Common.{arith}
use Rattle.sources.specs.Pairs.{pair_in}
use Rattle.sources.proofs.Pairs.{paired_present}
use Rattle.sources.proofs.named.Source.pair.Goals as goal

pub returns-in-None : goal.returns-in-None
unfolding pair_in
returns-in-None c = rw c.in-None.is (record { is = omega arith; small = c.requires })

pub returns-in-Some : goal.returns-in-Some
unfolding pair_in
returns-in-Some c = rw c.in-Some.is (paired_present _ _ c.in-Some.map.opened c.pair.ensures.outer_value c.pair.ensures.inner_value)

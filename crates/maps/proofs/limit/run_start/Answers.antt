use mathlib.Core.Path.{refl}
use native.Mathlib.Omega.{arith}
use Rattle.maps.proofs.Limits.{outer_low, start_low}
use Rattle.maps.proofs.limit.run_start.Goals as goal

pub bounds-work-o : goal.bounds-work-o
bounds-work-o c = omega (arith, outer_low c.args.kept.now.numbered c.args.k c.requires, c.args.kept.now.numbered.long)

pub returns : goal.returns
returns c = (refl, start_low c.args.kept.now.numbered c.args.k c.requires)

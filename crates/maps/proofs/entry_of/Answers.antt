use Prim.Native.Nat.{◌+◌, ◌*◌, ◌%◌, ◌^◌}
use mathlib.Core.Path.{◌≡◌}
use native.Mathlib.Omega.{arith}
use Rattle.rules.specs.Lists.{old_id}
use Rattle.rules.specs.Maps.{new_entry}
use Rattle.sources.specs.Pairs.{pair_in}
use Rattle.maps.specs.Plans.{kept_in}
use Rattle.maps.proofs.Plans.{renumbered_is}
use Rattle.maps.proofs.Bytes.{entry_is}
use Rattle.maps.proofs.entry_of.Goals as goal
use Rattle.maps.proofs.entry_of.Goals.{After-renumbered-new}

-- what is worked out is the entry
entry : (c : After-renumbered-new) → let a = c.args in let r = c.renumbered-new.result in
    r.outer * (1 * 2 ^ a.bits % 4294967296) + r.inner ≡ new_entry a.bits (kept_in a.kept.now.count a.kept.now.work.now) (pair_in a.source.now (old_id a.entry))
entry c = let d = renumbered_is c.pair-old.ensures c.renumbered-new.ensures in entry_is _ _ _ c.requires.bits_bound.0 d.outer d.inner

pub overflow_mul-result : goal.overflow_mul-result
overflow_mul-result c = omega (arith, c.requires.bits_bound.1, entry (goal.at.overflow_mul-result c).After-renumbered-new)

pub overflow_add-result : goal.overflow_add-result
overflow_add-result c = omega (arith, c.requires.bits_bound.1, entry (goal.at.overflow_add-result c).After-renumbered-new)

pub returns : goal.returns
returns c = entry (goal.at.returns c).After-renumbered-new

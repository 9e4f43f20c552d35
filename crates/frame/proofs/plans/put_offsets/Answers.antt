use native.Mathlib.Omega.{arith}
use borrow.Author.Rules.{rules}
use Rattle.std.proofs.Common.{None}
use Rattle.std.proofs.lemmas.List.{get_or_read}
use Rattle.frame.proofs.Offsets.{offsets_none, offsets_more, offsets_end}
use Rattle.frame.proofs.plans.put_offsets.Goals as goal

pub loop-m-init : goal.loop-m-init
loop-m-init c = (search rules, offsets_none _ _ _)

pub loop-m-preserved : goal.loop-m-preserved
loop-m-preserved c =
    let plan = get_or_read c.args.plans.now c.loop-m.m c.index-plans-m.result c.loop-m-test.true c.index-plans-m.is None in
    let n = rw plan at c.map_length-at.ensures in
    (search rules, offsets_more c.loop-m.invariant.1 c.put_number.ensures (rw plan at c.offset_of.ensures) n.0 n.1)

pub returns : goal.returns
returns c = offsets_end _ c.loop-m.invariant.1 (omega arith) c.requires.1

use Rattle.std.proofs.Common.{arith, ◌+◌, ◌*◌, ◌≡◌, refl}
use Rattle.lists.proofs.Fronts.{agreed_more, agreed_end}
use Rattle.copies.proofs.copy_ahead.Goals as goal

pub loop-k-preserved : goal.loop-k-preserved
loop-k-preserved c =
    let k = c.loop-k.k in
    let e : 32 * (k + 1) ≡ 32 * k + 32 = omega arith in
    let h = c.if-not-has_blocks.ensures refl in
    rw e (agreed_more _ c.loop-k.invariant (omega arith) (omega (arith, c.div_ceil-blocks.ensures)) (omega (arith, c.div_ceil-blocks.ensures)) c.copy_block.ensures)

pub returns : goal.returns
returns c = agreed_end c.args.n c.loop-k.invariant (omega (arith, c.div_ceil-blocks.ensures))

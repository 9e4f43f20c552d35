use native.Mathlib.Omega.{arith}
use borrow.Rule.Slice.PartMut.{mid_len, take_put}
use Rattle.measure.proofs.Steps.{none_used}
use Rattle.measure.proofs.clear_used.Goals as goal

pub returns-clause-none_used : goal.returns-clause-none_used
returns-clause-none_used c =
    none_used _ _ c.told-work (rw (mid_len 8704 8832 c.args.work.now (omega arith)) at (c.fill.ensures.after (λ y e. e)))

pub returns-clause-work_unchanged : goal.returns-clause-work_unchanged
returns-clause-work_unchanged c = take_put 8704 128 c.args.work.now c.fill.new.self (omega arith)

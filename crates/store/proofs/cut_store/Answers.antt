use native.Mathlib.Omega.{arith}
use Rattle.rules.specs.Promise.{zeros}
use Rattle.laws.specs.Fitted.{promise_1, promise_of}
use Rattle.store.proofs.cut_store.Goals as goal

pub returns-in_default : goal.returns-in_default
returns-in_default c = promise_1 _ _ _ (rw c.in_default.is at c.first_chunk_mut.ensures.cases)

pub returns : goal.returns
unfolding zeros
returns c =
    let h = c.in-Some.ensures.cases in
    promise_of (omega (arith, h)) (rw c.cut_in-answer.array_long at (c.fill.ensures.after (λ y e. e))) c.cut_in-answer.ensures

use Rattle.rules.specs.Promise.{zeros}
use Rattle.laws.specs.Fitted.{promise_1, promise_of}
use Rattle.tables.proofs.cut_table.Goals as goal

pub returns-in_default : goal.returns-in_default
returns-in_default c = promise_1 _ _ _ c.in_default.ensures.cases

pub returns : goal.returns
unfolding zeros
returns c = promise_of c.in-Some.ensures.cases.enough (rw c.cut_in-answer.array_long at (c.fill.ensures.after (λ y e. e))) c.cut_in-answer.ensures

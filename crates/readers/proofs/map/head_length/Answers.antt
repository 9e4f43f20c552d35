use native.Mathlib.Omega.{arith}
use borrow.Author.Tests.{eq-eqb, ne_eqb}
use Rattle.readers.proofs.map.head_length.Goals as goal

pub returns-then-format-eq0-clause-value : goal.returns-then-format-eq0-clause-value
returns-then-format-eq0-clause-value c = rw (eq-eqb _ _ c.if-format-eq0.true)

pub returns-then-format-eq0-clause-upper_bound : goal.returns-then-format-eq0-clause-upper_bound
returns-then-format-eq0-clause-upper_bound c = omega arith

pub returns-else-format-eq0-clause-value : goal.returns-else-format-eq0-clause-value
returns-else-format-eq0-clause-value c = rw (ne_eqb _ _ c.if-format-eq0.false)

pub returns-else-format-eq0-clause-upper_bound : goal.returns-else-format-eq0-clause-upper_bound
returns-else-format-eq0-clause-upper_bound c = omega arith

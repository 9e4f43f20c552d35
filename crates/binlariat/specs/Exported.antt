-- What a call of the C interface gives, in document 01's numbers.
use Rattle.std.specs.Prelude.{ℕ, ◌≡◌, List, length, eqb}
use Rattle.lists.specs.Pick.{pick}
use Rattle.opentype.specs.Store.{subtable_at}
use Rattle.opentype.specs.Subtable.{row_at}
use Rattle.rules.specs.Numbers.{Outcome, number_of_answer, length_of_answer}
use Rattle.rules.specs.Promise.{answer_of, output_of, work_of}
use Rattle.rules.specs.Readers.{row_of}

-- A cut: the number, the length written, and the lent memory.
pub record Exported (o : Outcome) (work out : List ℕ) (number written : ℕ) (work' out' : List ℕ) : Type 0 where
  pub numbers : number ≡ number_of_answer (answer_of o (length work) (length out))
  pub lengths : written ≡ length_of_answer (answer_of o (length work) (length out))
  pub outputs : out' ≡ output_of o (answer_of o (length work) (length out)) out
  pub clears : work' ≡ work_of work

-- A row as a place and a length: an empty one stands at 0.
pub record RowGiven (s : List ℕ) (o i : ℕ) (number start len : ℕ) : Type 0 where
  pub numbers : number ≡ (row_of s o i).number
  pub lengths : len ≡ length (row_of s o i).part
  pub starts : start ≡ pick (eqb (length (row_of s o i).part) 0) 0 (row_at s (subtable_at s o) i)

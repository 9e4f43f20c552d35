-- The numbers of the sizes (laws, Sizes), and what is asked of the number that a column's tally ends with.
use Rattle.std.specs.Prelude.{ℕ, ◌≡◌, Bool, eqb}
use Rattle.laws.specs.Sizes.{class_by_size}
use Rattle.columns.specs.declared.tally.Size.{Size}
use Rattle.columns.specs.declared.tally.Size.TheVariants.{Zero, Byte, Short, Middle, Far}

abbrev pub number_of_size : Size → ℕ
number_of_size Zero = 0
number_of_size Byte = 1
number_of_size Short = 2
number_of_size Middle = 3
number_of_size Far = 4

-- n decides as m does: what becomes of the column, and whether row 9 is found at it
pub record Decides (is_long : Bool) (n m : ℕ) : Type 0 where
  pub class : class_by_size is_long n ≡ class_by_size is_long m
  pub middle : eqb n 3 ≡ eqb m 3

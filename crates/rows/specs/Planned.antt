-- What is known of a subtable's columns once they are planned, and of the regions once they are marked.
use Rattle.std.specs.Prelude.{ℕ, ◌+◌, ◌<◌, ◌≤◌, ◌≡◌, true, List, length, take, drop, eqb}
use Rattle.lists.specs.Pick.{pick}
use Rattle.lists.specs.Search.{some, any}
use Rattle.bits.specs.Bits.{has}
use Rattle.opentype.specs.Subtable.{column_count, region_index}
use Rattle.rules.specs.Columns.{plan_of, order, kept_deltas}
use Rattle.rules.specs.StoreCut.{middle}
use Rattle.rows.specs.declared.Counts.{Counts}
use Rattle.rows.specs.Area.{used_in, column_in, columns_in}

-- r are the columns of the subtable of s at a place with the kept items is, and stand in the work area w
pub record Planned (s : List ℕ) (at : ℕ) (is : List ℕ) (w : List ℕ) (r : Counts) : Type 0 where
  pub long : r.long ≡ (plan_of s at is).is_long
  pub wide : r.wide ≡ length (plan_of s at is).wide
  pub narrow : r.narrow ≡ length (plan_of s at is).narrow
  pub kept : columns_in w r.wide r.narrow ≡ order (plan_of s at is)
  pub middle : r.middle ≡ some (λ c. middle (kept_deltas s at is c)) (column_count s at)
  pub few : r.wide + r.narrow ≤ column_count s at

-- the kept columns are columns of the subtable
pub record Inside (s : List ℕ) (at : ℕ) (w : List ℕ) (r : Counts) : Type 0 where
  pub few : r.wide + r.narrow ≤ column_count s at
  pub each : (j : ℕ) → j < r.wide + r.narrow → column_in w r.wide j < column_count s at

-- the regions below the count that the columns name join those that are used, and nothing else in the work area changes
pub record Marked (s : List ℕ) (at regions : ℕ) (columns : List ℕ) (w w' : List ℕ) : Type 0 where
  pub low : take 8704 w' ≡ take 8704 w
  pub high : drop 8832 w' ≡ drop 8832 w
  pub used : (r : ℕ) → r < regions → has (used_in w') r ≡ pick (has (used_in w) r) true (any (λ c. eqb (region_index s at c) r) columns)

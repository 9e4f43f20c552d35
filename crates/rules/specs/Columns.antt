-- Document 01, "Rewriting a subtable", rules 1 to 3: long, what becomes of each column, the new order of columns.
-- s is the store's bytes, at a subtable's place in them, is its kept items (inners) in list order, c an old column.
use Rattle.std.specs.Prelude.{ℕ, Bool, true, false, not, List, ◌++◌, map, ℤ}
use Rattle.lists.specs.Pick.{pick, both}
use Rattle.lists.specs.Gather.{select}
use Rattle.lists.specs.Search.{some, any, all}
use Rattle.cells.specs.Sign.{outside, nil}
use Rattle.opentype.specs.Subtable.{long, column_count, delta}
use Rattle.rules.specs.declared.Class.{Class}
use Rattle.rules.specs.declared.Class.TheVariants.{Dropped, Narrow, Wide}

-- the kept deltas of a column
unfoldable pub kept_deltas : List ℕ → ℕ → List ℕ → ℕ → List ℤ
kept_deltas s at is c = map (λ i. delta s at i c) is

-- long is for a delta outside of -65536..65535
abbrev pub long_limit : ℕ
long_limit = 65535

-- two bytes hold a delta in -32768..32767
abbrev pub word_limit : ℕ
word_limit = 32767

-- a narrow column's deltas lie in -128..127, in a long subtable in -65536..65535
abbrev pub narrow_limit : Bool → ℕ
narrow_limit true = long_limit
narrow_limit false = 127

-- 1: long is kept exactly if the source is long and some kept delta lies outside of -65536..65535
unfoldable pub keeps_long : List ℕ → ℕ → List ℕ → Bool
keeps_long s at is =
    both (long s at) (some (λ c. any (λ z. outside long_limit z) (kept_deltas s at is c)) (column_count s at))

-- 2: a column whose kept deltas are all 0 is dropped; it is wide if some lies outside the narrow range, else narrow
unfoldable pub class_of : Bool → List ℤ → Class
class_of is_long zs =
    pick (all (λ z. nil z) zs) Dropped
    (pick (any (λ z. outside (narrow_limit is_long) z) zs) Wide
    Narrow)

abbrev pub is_wide : Class → Bool
is_wide Dropped = false
is_wide Narrow = false
is_wide Wide = true

abbrev pub is_narrow : Class → Bool
is_narrow Dropped = false
is_narrow Narrow = true
is_narrow Wide = false

-- some kept delta of the column is not 0
unfoldable pub live : List ℕ → ℕ → List ℕ → ℕ → Bool
live s at is c = not (all (λ z. nil z) (kept_deltas s at is c))

-- What is decided for a subtable before it is written.
pub record Plan : Type 0 where
  pub is_long : Bool
  pub wide : List ℕ
  pub narrow : List ℕ

-- 3: wide columns come first, each group in old order
unfoldable pub plan_with : List ℕ → ℕ → List ℕ → Bool → Plan
plan_with s at is is_long = record {
  is_long = is_long;
  wide = select (λ c. is_wide (class_of is_long (kept_deltas s at is c))) (column_count s at);
  narrow = select (λ c. is_narrow (class_of is_long (kept_deltas s at is c))) (column_count s at);
}

unfoldable pub plan_of : List ℕ → ℕ → List ℕ → Plan
plan_of s at is = plan_with s at is (keeps_long s at is)

-- the old columns in their new order
abbrev pub order : Plan → List ℕ
order p = p.wide ++ p.narrow

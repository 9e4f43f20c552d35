-- Where things stand in the work area, 16,384 numbers, and what the parts hold.
--       0   8,192   kept pairs in written order
--   8,192     512   a table's runs: where each outer's run starts, and its new number
--   8,704     128   used regions, as bits
--   8,832     256   the length of each written subtable
--   9,088   2,048   inners of one outer, as bits: shows a pair that stands twice; of a table, where each run's slots start in the index
--  12,288   4,096   the current subtable's kept columns: wide ones from the front, narrow ones from the back, each in old order;
--                   while a table's pairs are collected, two sets of inners; while its maps are planned and written, the index of its pairs
use Rattle.std.specs.Prelude.{ℕ, ◌+◌, ◌-◌, List, map, ◌++◌, get_or, take, drop, ltb}
use Rattle.lists.specs.Pick.{pick}
use Rattle.lists.specs.Gather.{tab, select}
use Rattle.rules.specs.Lists.{inner}
use Rattle.bits.specs.Bits.{has, insert}
use Rattle.opentype.specs.Store.{region_count}

-- numbers from a place up to another one
abbrev pub part : List ℕ → ℕ → ℕ → List ℕ
part w from to = take (to - from) (drop from w)

-- the kept items of a run of pairs, in list order
abbrev pub items : List ℕ → List ℕ
items pairs = map (λ p. inner p) pairs

-- the words of the used regions
abbrev pub used_in : List ℕ → List ℕ
used_in w = part w 8704 8832

-- the used regions, ascending
abbrev pub used_of : List ℕ → List ℕ → List ℕ
used_of s w = select (λ r. has (used_in w) r) (region_count s)

-- the work area with region r among the used ones
abbrev pub area_marked : List ℕ → ℕ → List ℕ
area_marked w r = take 8704 w ++ (insert (used_in w) r ++ drop 128 (drop 8704 w))

-- the j-th kept column, of which so many are wide
unfoldable pub column_in : List ℕ → ℕ → ℕ → ℕ
column_in w wide j = pick (ltb j wide) (get_or w (12288 + j) 0) (get_or w (16383 - (j - wide)) 0)

-- the kept columns in their new order
unfoldable pub columns_in : List ℕ → ℕ → ℕ → List ℕ
columns_in w wide narrow = tab (λ j. column_in w wide j) (wide + narrow)

-- Document 01: the refusals over the whole store, what a store's cut writes, and its outcome.
use Rattle.std.specs.Prelude.{ℕ, ◌+◌, ◌*◌, Bool, not, List, [], ◌∷◌, ◌++◌, map, length, leb, eqb, ℤ}
use Rattle.lists.specs.Pick.{pick, both}
use Rattle.lists.specs.Gather.{flat}
use Rattle.lists.specs.Search.{some, any, all}
use Rattle.cells.specs.Be.{be_bytes}
use Rattle.cells.specs.Sign.{outside}
use Rattle.opentype.specs.Store.{subtable_at, regions_at, region_count}
use Rattle.opentype.specs.Subtable.{column_count, region_index}
use Rattle.rules.specs.declared.Refusal.TheVariants.{BadList, BadStore, BadRegions, AbsentSubtable, BadSubtable, NothingKept, BadRegionIndex, MiddleWidth}
use Rattle.rules.specs.Numbers.{Outcome, refused, written}
use Rattle.rules.specs.Lists.{Run, runs, bad_pairs}
use Rattle.rules.specs.Open.{bad_store, bad_regions, absent_subtable, bad_subtable}
use Rattle.rules.specs.Columns.{long_limit, word_limit, kept_deltas, live}
use Rattle.rules.specs.Regions.{used_regions, region_list_bytes}
use Rattle.rules.specs.Rewrite.{subtable_bytes}

-- the test holds for some column of some used subtable, given its place, its kept items and the column
unfoldable pub some_column : List ℕ → List Run → (ℕ → List ℕ → ℕ → Bool) → Bool
some_column s rs f =
    any (λ run. let at = subtable_at s run.outer in some (λ c. f at run.inners c) (column_count s at)) rs

-- some kept delta is non-zero (without one: 7)
unfoldable pub some_delta : List ℕ → List Run → Bool
some_delta s rs = some_column s rs (λ at is c. live s at is c)

-- 8: a column with a non-zero kept delta names a region at or past the region count
unfoldable pub bad_region_index : List ℕ → List Run → Bool
bad_region_index s rs = some_column s rs (λ at is c. both (leb (region_count s) (region_index s at c)) (live s at is c))

-- 9: all deltas lie in -65536..65535, so that long is not for them, and one lies outside of -32768..32767, so that two bytes don't hold it
unfoldable pub middle : List ℤ → Bool
middle zs = both (all (λ z. not (outside long_limit z)) zs) (any (λ z. outside word_limit z) zs)

unfoldable pub middle_width : List ℕ → List Run → Bool
middle_width s rs = some_column s rs (λ at is c. middle (kept_deltas s at is c))

-- the offsets of parts that lie one after the other, the first at a place
unfoldable pub offsets : ℕ → List (List ℕ) → List ℕ
offsets at [] = []
offsets at (part ∷ parts) = be_bytes 4 at ++ offsets (at + length part) parts

-- "Bytes that go out": header, region list, subtables in order
unfoldable pub lay_store : List ℕ → List (List ℕ) → List ℕ
lay_store region_list subtables =
    let head = 8 + 4 * length subtables in
    be_bytes 2 1
    ++ be_bytes 4 head
    ++ be_bytes 2 (length subtables)
    ++ offsets (head + length region_list) subtables
    ++ region_list
    ++ flat (λ part. part) subtables

unfoldable pub store_bytes : List ℕ → List Run → List ℕ
store_bytes s rs =
    let used = used_regions s rs in
    lay_store (region_list_bytes s used) (map (λ run. subtable_bytes s used run) rs)

unfoldable pub store_written : List ℕ → List Run → Outcome
store_written s rs = written (store_bytes s rs)

-- with a null region list: the 8 bytes of format 1, offset 0, count 0
unfoldable pub null_store : List ℕ
null_store = be_bytes 2 1 ++ be_bytes 4 0 ++ be_bytes 2 0

-- 5 then 6 for each used subtable in turn
unfoldable pub subtables_or : List ℕ → List Run → Outcome → Outcome
subtables_or s [] next = next
subtables_or s (run ∷ rs) next =
    pick (absent_subtable s run.outer) (refused AbsentSubtable)
    (pick (bad_subtable s (subtable_at s run.outer)) (refused BadSubtable)
    (subtables_or s rs next))

-- 7, 8, 9 over the whole store
unfoldable pub checked_cut : List ℕ → List Run → Bool → Outcome
checked_cut s rs keep_empty =
    pick (both (not keep_empty) (not (some_delta s rs))) (refused NothingKept)
    (pick (bad_region_index s rs) (refused BadRegionIndex)
    (pick (middle_width s rs) (refused MiddleWidth)
    (store_written s rs)))

-- what follows check 3: a null region list; 4; 5 and 6; 7, 8, 9
unfoldable pub cut_opened : List ℕ → List ℕ → Bool → Outcome
cut_opened s pairs keep_empty =
    pick (eqb (regions_at s) 0) (pick keep_empty (written null_store) (refused NothingKept))
    (pick (bad_regions s) (refused BadRegions)
    (subtables_or s (runs pairs) (checked_cut s (runs pairs) keep_empty)))

-- Subset a store: 2, 3, and the rest. (1 and 10 are asked of the lent memory: Promise.)
unfoldable pub cut_store : List ℕ → List ℕ → Bool → Outcome
cut_store s pairs keep_empty =
    pick (bad_pairs pairs) (refused BadList)
    (pick (bad_store s) (refused BadStore)
    (cut_opened s pairs keep_empty))

-- Checks 8 and 9 taken apart for the source; checks 3 to 6 put together for what was written.
use Prim.Native.Nat.{ℕ, ◌+◌, ◌*◌, ◌<◌, ◌≤◌}
use mathlib.Core.Path.{◌≡◌}
use mathlib.Core.Bool.{Bool, false}
use mathlib.Core.List.{List}
use lib.ListN.{length}
use borrow.Author.Tests.{le-ltb, lt-leb, ne_eqb}
use Rattle.lists.specs.Pick.{differ_no}
use Rattle.lists.proofs.Each.{some-not, any-not}
use Rattle.opentype.specs.Store.{store_format, regions_at, subtable_count, subtable_at, region_count, record_length}
use Rattle.opentype.specs.Subtable.{item_count, word_count, column_count, row_length, rows_at}
use Rattle.rules.specs.Lists.{Run}
use Rattle.rules.specs.Open.{bad_store, bad_regions, absent_subtable, bad_subtable, most_subtables, most_regions, most_columns}
use Rattle.rules.specs.StoreCut.{some_column}
use Rattle.laws.specs.Runs.{run_at}

-- the test holds for no column of any used subtable
pub no_column : (s : List ℕ) (rs : List Run) (f : ℕ → List ℕ → ℕ → Bool) (k c : ℕ) → some_column s rs f ≡ false → k < length rs
    → c < column_count s (subtable_at s (run_at rs k).outer) → f (subtable_at s (run_at rs k).outer) (run_at rs k).inners c ≡ false
unfolding some_column
no_column s rs f k c e h l = some-not (λ c. f (subtable_at s (run_at rs k).outer) (run_at rs k).inners c) _ c (any-not _ _ rs k e h) l

pub good_store : (w : List ℕ) → store_format w ≡ 1 → subtable_count w ≤ most_subtables → 8 ≤ length w → 8 + 4 * subtable_count w ≤ length w → bad_store w ≡ false
unfolding bad_store
good_store w f n h l = rw (le-ltb (length w) 8 h, differ_no (store_format w) 1 f, le-ltb most_subtables (subtable_count w) n, le-ltb (length w) (8 + 4 * subtable_count w) l)

pub good_regions : (w : List ℕ) → regions_at w + 4 ≤ length w → region_count w ≤ most_regions
    → regions_at w + 4 + region_count w * record_length w ≤ length w → bad_regions w ≡ false
unfolding bad_regions
good_regions w h n l =
    rw (le-ltb (length w) (regions_at w + 4) h, le-ltb most_regions (region_count w) n, le-ltb (length w) (regions_at w + 4 + region_count w * record_length w) l)

pub good_offset : (w : List ℕ) (k : ℕ) → k < subtable_count w → (subtable_at w k ≡ 0 → ⊥) → absent_subtable w k ≡ false
unfolding absent_subtable
good_offset w k h n = rw (lt-leb (subtable_count w) k h, ne_eqb (subtable_at w k) 0 n)

pub good_subtable : (w : List ℕ) (at : ℕ) → at + 6 ≤ length w → word_count w at ≤ column_count w at → column_count w at ≤ most_columns
    → rows_at w at + item_count w at * row_length w at ≤ length w → bad_subtable w at ≡ false
unfolding bad_subtable
good_subtable w at h m n l =
    rw (
      le-ltb (length w) (at + 6) h,
      le-ltb (column_count w at) (word_count w at) m,
      le-ltb most_columns (column_count w at) n,
      le-ltb (length w) (rows_at w at + item_count w at * row_length w at) l,
    )

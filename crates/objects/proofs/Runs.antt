-- The subtables, one run after the other.
use Prim.Native.Nat.{ℕ, ◌+◌, ◌-◌, ◌<◌, ◌≤◌}
use mathlib.Core.Path.{◌≡◌, refl, sym, ap, ◌∙◌}
use mathlib.Core.Bool.{true, false}
use mathlib.Core.List.{List, [], ◌∷◌}
use native.Mathlib.Omega.{arith}
use native.Mathlib.Nat.{add-zero}
use lib.ListN.{length, get_or, take, drop, length-append, length-drop}
use lib.Seq.{drop-drop, get_or-drop}
use lib.Dec.{leb, eqb}
use borrow.Author.Tests.{leb-false, eq-eqb}
use borrow.Rule.Slice.PartMut.{put_mid}
use Rattle.lists.specs.Gather.{flat}
use Rattle.lists.specs.Search.{any}
use Rattle.lists.proofs.Each.{neither}
use Rattle.lists.proofs.Choices.{either_left, either_right}
use Rattle.lists.proofs.Cuts.{part_same}
use Rattle.lists.proofs.Selects.{select_ext}
use Rattle.bits.specs.Bits.{has}
use Rattle.opentype.specs.Store.{subtable_at, region_count}
use Rattle.opentype.specs.Subtable.{region_index}
use Rattle.rules.specs.Lists.{Run, outer}
use Rattle.rules.specs.Open.{absent_subtable, bad_subtable}
use Rattle.rules.specs.Columns.{plan_of}
use Rattle.rules.specs.Regions.{uses_region, is_used, used_regions}
use Rattle.rules.specs.Rewrite.{planned_bytes, subtable_bytes}
use Rattle.rules.specs.StoreCut.{some_column, bad_region_index}
use Rattle.laws.specs.Lengths.{sum, sizes, size_at, planned_size}
use Rattle.laws.specs.Usable.{unusable}
use Rattle.rows.specs.declared.Counts.{Counts}
use Rattle.readers.specs.declared.subtable.Shape.{Shape}
use Rattle.readers.specs.Opening.{Whole}
use Rattle.rows.specs.Area.{part, items, used_in, used_of, column_in}
use Rattle.rows.specs.Length.{planned_length}
use Rattle.rows.specs.Planned.{Planned}
use Rattle.subtables.specs.Kept.{Named}
use Rattle.measure.proofs.Kept.{no_kept, a_kept, planned_length_lem, length-items}
use Rattle.objects.specs.Runs.{run_in, names_none, RunReady}
use Rattle.objects.proofs.Filled.{Filled, filled_none, filled_room, filled_more, filled_all}

-- ---- one run

pub ready_usable : {s : List ℕ} {run : Run} {w : List ℕ} → RunReady s run w → (absent_subtable s run.outer ≡ false) × (bad_subtable s (subtable_at s run.outer) ≡ false)
unfolding unusable
ready_usable {s} {run} r = neither (absent_subtable s run.outer) (bad_subtable s (subtable_at s run.outer)) r.usable

-- the columns that w' holds name regions that are there and marked
pub ready_named : {s : List ℕ} {run : Run} {w w' : List ℕ} {p : Counts} → RunReady s run w → take 12288 w' ≡ take 12288 w
    → Planned s (subtable_at s run.outer) run.inners w' p → Named s (subtable_at s run.outer) w' p
unfolding names_none uses_region
ready_named {s} {run} {w} {w'} {p} r e q =
    let at = subtable_at s run.outer in
    let there : (j : ℕ) → j < p.wide + p.narrow → region_index s (subtable_at s run.outer) (column_in w' p.wide j) < region_count s
    = λ j h. leb-false (region_count s) (region_index s at (column_in w' p.wide j)) (no_kept q (λ c. leb (region_count s) (region_index s at c)) r.named j h) in
    record {
      there = there;
      marked = λ j h. let i = region_index s at (column_in w' p.wide j) in
          ap (λ (ws : List ℕ). has ws i) (part_same w' w 12288 e 8704 128 (omega arith))
          ∙ r.marked i (there j h) (a_kept q (λ c. eqb (region_index s at c) i) j h (eq-eqb i i refl));
    }

-- t is the run's subtable, and its columns p are planned in w₁
module _ {s w₁ : List ℕ} {t : Shape} {p : Counts} (w : List ℕ) (from to : ℕ) (e : take 12288 w₁ ≡ take 12288 w) (h : from ≤ to) (k : to ≤ 8192)
    (u : Whole s (subtable_at s (outer (get_or w from 0))) t) (q : Planned s t.at (items (part w from to)) w₁ p) where
  same-items : items (part w₁ from to) ≡ items (part w from to)
  same-items = ap (λ (ps : List ℕ). items ps) (part_same w₁ w 12288 e from (to - from) (omega arith))

  pub run_planned : Planned s t.at (items (part w₁ from to)) w₁ p
  run_planned = rw same-items q

  pub run_named : RunReady s (run_in w from to) w → Named s t.at w₁ p
  run_named r = rw u.place (ready_named r e (rw u.place at q))

  pub run_length : {n : ℕ} → length w ≡ 16384 → n ≡ size_at s (subtable_at s (outer (get_or w from 0))) (items (part w from to)) → n ≡ planned_length p.long p.wide p.narrow (to - from)
  run_length {n} l z = z ∙ rw (← u.place) (sym (planned_length_lem q) ∙ ap (planned_length p.long p.wide p.narrow) (length-items w from to h (omega arith)))

  pub run_bytes : {bytes : List ℕ} → bytes ≡ planned_bytes s t.at (used_of s w₁) (items (part w₁ from to)) (plan_of s t.at (items (part w₁ from to)))
      → bytes ≡ subtable_bytes s (used_of s w) (run_in w from to)
  unfolding subtable_bytes
  run_bytes b = b ∙ rw (same-items, u.place, part_same w₁ w 12288 e 8704 128 (omega arith))

-- ---- one after the other

-- the subtables of the first k runs are written, up to a place; used are the used regions
pub record Written (s : List ℕ) (rs left : List Run) (used w out : List ℕ) (k next : ℕ) : Type 0 where
  pub usable : any (λ run. unusable s run) left ≡ false
  pub named : bad_region_index s left ≡ false
  pub marked : (q : ℕ) → q < region_count s → is_used s left q ≡ true → has (used_in w) q ≡ true
  pub lengths : sizes s left ≡ drop k (sizes s rs)
  pub filled : Filled out next (flat (λ run. subtable_bytes s used run) left) (flat (λ run. subtable_bytes s used run) rs)

pub length_run : (s used : List ℕ) (run : Run) → length (subtable_bytes s used run) ≡ size_at s (subtable_at s run.outer) run.inners
unfolding subtable_bytes
length_run s used run = planned_size s (subtable_at s run.outer) used run.inners

length_runs : (s used : List ℕ) (rs : List Run) → length (flat (λ run. subtable_bytes s used run) rs) ≡ sum (sizes s rs)
unfolding flat sum sizes
length_runs s used [] = refl
length_runs s used (run ∷ rs) = rw (length-append, length_run s used run, length_runs s used rs)

module _ {s : List ℕ} {rs : List Run} {used w out : List ℕ} {k next : ℕ} {run : Run} {left : List Run} (t : Written s rs (run ∷ left) used w out k next) where
  pub written_ready : region_count s ≤ 4096 → RunReady s run w
  unfolding any bad_region_index some_column names_none is_used
  written_ready few = record {
    usable = (neither (unusable s run) _ t.usable).0;
    named = (neither (names_none s run) _ t.named).0;
    few = few;
    marked = λ q h e. t.marked q h (either_left (uses_region s (subtable_at s run.outer) run.inners q) (is_used s left q) e);
  }

  pub written_size : get_or (sizes s rs) k 0 ≡ size_at s (subtable_at s run.outer) run.inners
  unfolding sizes
  written_size =
      ap (λ (i : ℕ). get_or (sizes s rs) i 0) (sym (add-zero k))
      ∙ sym (get_or-drop k (sizes s rs) 0 0)
      ∙ ap (λ (ns : List ℕ). get_or ns 0 0) (sym t.lengths)

  pub written_there : k < length (sizes s rs)
  unfolding sizes
  written_there = omega (arith, ap length t.lengths, length-drop k (sizes s rs))

  pub written_room : next + length (subtable_bytes s used run) ≤ length out
  unfolding flat
  written_room = filled_room (subtable_bytes s used run) (flat (λ r. subtable_bytes s used r) left) t.filled

  pub written_more : {w' bytes : List ℕ} (stop : ℕ) → take 12288 w' ≡ take 12288 w → bytes ≡ subtable_bytes s used run → stop ≡ next + length (subtable_bytes s used run)
      → Written s rs left used w' (put_mid next (stop - next) out bytes) (k + 1) stop
  unfolding any bad_region_index some_column names_none is_used sizes flat
  written_more {w'} stop e b p = record {
    usable = (neither (unusable s run) _ t.usable).1;
    named = (neither (names_none s run) (bad_region_index s left) t.named).1;
    marked = λ q h u. ap (λ (ws : List ℕ). has ws q) (part_same w' w 12288 e 8704 128 (omega arith)) ∙ t.marked q h (either_right (uses_region s (subtable_at s run.outer) run.inners q) (is_used s left q) u);
    lengths = ap (drop 1) t.lengths ∙ drop-drop 1 k (sizes s rs);
    filled = filled_more (subtable_bytes s used run) (flat (λ r. subtable_bytes s used r) left) stop t.filled p b;
  }

pub written_none : {s : List ℕ} {rs : List Run} {used w out : List ℕ} → any (λ run. unusable s run) rs ≡ false → bad_region_index s rs ≡ false
    → ((q : ℕ) → q < region_count s → has (used_in w) q ≡ is_used s rs q) → length out ≡ sum (sizes s rs) → Written s rs rs used w out 0 0
written_none {s} {rs} {used} a b m l = record {
  usable = a;
  named = b;
  marked = λ q h e. m q h ∙ e;
  lengths = refl;
  filled = filled_none (l ∙ sym (length_runs s used rs));
}

pub written_all : {s : List ℕ} {rs : List Run} {used w out : List ℕ} {k next : ℕ} → Written s rs [] used w out k next → out ≡ flat (λ run. subtable_bytes s used run) rs
unfolding flat
written_all t = filled_all t.filled

-- the regions that the work area holds are the used ones
pub used_are : (s : List ℕ) (rs : List Run) (w : List ℕ) → ((q : ℕ) → q < region_count s → has (used_in w) q ≡ is_used s rs q) → used_of s w ≡ used_regions s rs
unfolding used_regions
used_are s rs w m = select_ext (has (used_in w)) (λ q. is_used s rs q) (region_count s) m

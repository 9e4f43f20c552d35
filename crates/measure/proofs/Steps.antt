-- One run after the other: what is measured, and what is left.
use Prim.Native.Nat.{ℕ, ◌+◌, ◌-◌, ◌*◌, ◌<◌, ◌≤◌}
use mathlib.Core.Path.{◌≡◌, refl, sym, ap, ◌∙◌}
use mathlib.Core.Bool.{Bool, true, false, false≢true}
use mathlib.Core.List.{List, [], ◌∷◌, ◌++◌, append_assoc, append-nil}
use native.Mathlib.Omega.{arith}
use native.Mathlib.Numerals.{add-one}
use lib.ListN.{length, get_or, take, drop, set, replicate, length-drop, length-replicate}
use lib.Seq.{drop-set-add, take-suc-set, take-set-le, length-take-le, take_at, drop_at, get_or-take, drop-length}
use lib.Dec.{leb, eqb}
use Rattle.lists.specs.Pick.{pick}
use Rattle.lists.specs.Search.{any}
use Rattle.lists.proofs.Cuts.{part_same, front_same}
use Rattle.bits.specs.Bits.{has}
use Rattle.bits.proofs.Sets.{has-zeros}
use borrow.Rule.Slice.PartMut.{put_mid}
use Rattle.opentype.specs.Store.{subtable_at, region_count}
use Rattle.opentype.specs.Subtable.{region_index}
use Rattle.rules.specs.declared.Refusal.{Refusal}
use Rattle.rules.specs.declared.Refusal.TheVariants.{AbsentSubtable, BadSubtable}
use Rattle.rules.specs.Numbers.{Outcome, refused}
use Rattle.rules.specs.Lists.{Run, runs, outer, outers_fall}
use Rattle.rules.specs.Open.{bad_store, absent_subtable, bad_subtable}
use Rattle.rules.specs.Regions.{uses_region, is_used}
use Rattle.rules.specs.StoreCut.{some_column, some_delta, bad_region_index, middle_width, subtables_or}
use Rattle.laws.specs.Lengths.{sum, size_at, sizes}
use Rattle.laws.specs.Pairs.{outers_climb}
use Rattle.laws.specs.Inside.{store_inside}
use Rattle.laws.specs.Usable.{in_array}
use Rattle.pairs.specs.Pairs.{RunEnd}
use Rattle.pairs.proofs.Laws.{run_left}
use Rattle.readers.specs.Opening.{Usable, Unusable}
use Rattle.readers.specs.declared.subtable.Shape.{Shape}
use Rattle.measure.specs.declared.Measure.{Measure}
use Rattle.rows.specs.declared.Counts.{Counts}
use Rattle.rows.specs.Area.{part, items, used_in, columns_in}
use Rattle.rows.specs.Planned.{Planned, Marked}
use Rattle.measure.specs.Measured.{NoneUsed, with_subtable, Step, Fits, Left, Whole}
use Rattle.measure.proofs.Kept.{any_kept, live_kept}

-- ---- one subtable

-- planned in w₁, marked in w₂, its length noted
module _ (s : List ℕ) (at : ℕ) (is w w₁ w₂ : List ℕ) (p : Counts) (m : Measure) (bad : Bool) (bytes regions : ℕ) where
  pub step_of : regions ≡ region_count s → length w₂ ≡ 16384 → m.count < 256 → Planned s at is w₁ p → take 12288 w₁ ≡ take 12288 w
      → bad ≡ any (λ c. leb regions (region_index s at c)) (columns_in w₁ p.wide p.narrow)
      → Marked s at regions (columns_in w₁ p.wide p.narrow) w₁ w₂
      → bytes ≡ size_at s at is
      → Step s at is w (set w₂ (8832 + m.count) bytes) m (with_subtable m p bad bytes)
  unfolding uses_region
  step_of g n few q same b k e =
      let room : m.count < length (drop 8832 w₂) = rw length-drop (omega arith) in
      record {
        count = refl;
        length = rw e;
        live = rw (live_kept q);
        index = rw (b, g, any_kept q (λ c. leb (region_count s) (region_index s at c)));
        middle = rw q.middle;
        used = λ r h. ap (λ (ws : List ℕ). has ws r) (part_same (set w₂ (8832 + m.count) bytes) w₂ 8832 (take-set-le 8832 w₂ (8832 + m.count) bytes (omega arith)) 8704 128 (omega arith))
            ∙ k.used r (rw g h)
            ∙ rw (part_same w₁ w 12288 same 8704 128 (omega arith), any_kept q (λ c. eqb (region_index s at c) r));
        noted = rw (drop-set-add 8832 w₂ m.count bytes, add-one, take-suc-set (drop 8832 w₂) m.count bytes room, k.high, part_same w₁ w 12288 same 8832 m.count (omega arith), e);
        low = take-set-le 8704 w₂ (8832 + m.count) bytes (omega arith) ∙ k.low ∙ front_same w₁ w 12288 same 8704 (omega arith);
      }

pub fits_more : {m : Measure} {from : ℕ} (to : ℕ) (p : Counts) (bad : Bool) {bytes : ℕ} → Fits m from → m.count < 256 → from ≤ to → bytes ≤ 8198 + 16384 * (to - from)
    → Fits (with_subtable m p bad bytes) to
fits_more to p bad f few h b = record { few = omega arith; small = omega (arith, f.small) }

pub none_used : (w v : List ℕ) → length w ≡ 16384 → v ≡ replicate 128 0 → NoneUsed (put_mid 8704 128 w v)
none_used w v n e =
    let f : length (take 8704 w) ≡ 8704 = length-take-le 8704 w (omega arith) in
    let l : length v ≡ 128 = rw (e, length-replicate) in
    record {
      is = λ q. ap (λ (ws : List ℕ). has ws q) (ap (take 128) (drop_at (take 8704 w) (v ++ drop 128 (drop 8704 w)) 8704 f) ∙ take_at v (drop 128 (drop 8704 w)) 128 l ∙ e)
          ∙ has-zeros 128 q;
    }

-- ---- what is left

three : (a b c : Bool) → pick (pick a true b) true c ≡ pick a true (pick b true c)
three true b c = refl
three false b c = refl

-- nothing is measured yet
pub record Nothing (m : Measure) : Type 0 where
  pub count : m.count ≡ 0
  pub length : m.length ≡ 0
  pub live : m.live ≡ false
  pub index : m.index ≡ false
  pub middle : m.middle ≡ false

pub left_all : (s : List ℕ) (rs : List Run) (w : List ℕ) {m : Measure} → Nothing m → NoneUsed w → Left s rs rs w m
left_all s rs w e none = record {
  noted = rw e.count;
  count = rw e.count (omega arith);
  total = rw e.length (omega arith);
  live = rw e.live;
  index = rw e.index;
  middle = rw e.middle;
  used = λ q h. rw (none.is q);
  subtables = λ next. refl;
}

pub left_more : {s : List ℕ} {rs left : List Run} {w w' : List ℕ} {m r : Measure} (run : Run) → Left s rs (run ∷ left) w m
    → absent_subtable s run.outer ≡ false → bad_subtable s (subtable_at s run.outer) ≡ false
    → Step s (subtable_at s run.outer) run.inners w w' m r → Left s rs left w' r
unfolding sizes sum some_delta bad_region_index middle_width some_column is_used any subtables_or
left_more {s} {rs} {left} {w} {w'} {m} {r} run l there good t = record {
  noted = rw (t.count, t.noted, append_assoc) l.noted;
  count = omega (arith, t.count, l.count);
  total = omega (arith, t.length, l.total);
  live = rw (t.live, three m.live) l.live;
  index = rw (t.index, three m.index) l.index;
  middle = rw (t.middle, three m.middle) l.middle;
  used = λ q h. rw (t.used q h, three (has (used_in w) q)) (l.used q h);
  subtables = λ next. l.subtables next ∙ rw (there, good);
}

pub left_refused : {s : List ℕ} {rs left : List Run} {w : List ℕ} {m : Measure} (run : Run) {q : Refusal} → Left s rs (run ∷ left) w m → Unusable s run.outer q
    → (next : Outcome) → subtables_or s rs next ≡ refused q
unfolding subtables_or
left_refused {s} {left = left} run {q} l u next =
    l.subtables next ∙ cases (absent_subtable s run.outer) (bad_subtable s (subtable_at s run.outer)) u.is u.why
  where
    cases : (a b : Bool) → q ≡ pick a AbsentSubtable BadSubtable → pick a true b ≡ true → pick a (refused AbsentSubtable) (pick b (refused BadSubtable) (subtables_or s left next)) ≡ refused q
    cases true b e h = rw e
    cases false true e h = rw e
    cases false false e h = absurd (false≢true h)

-- ---- a turn of the loop

-- m is what is found of the runs of the pairs before a place
pub record Turn (s pairs w : List ℕ) (m : Measure) (at : ℕ) : Type 0 where
  pub inside : at ≤ length pairs
  pub fits : Fits m at
  pub next : at < length pairs → m.count ≤ outer (get_or pairs at 0)
  pub left : Left s (runs pairs) (runs (drop at pairs)) w m

pub turn_first : (s pairs w : List ℕ) {m : Measure} → Nothing m → NoneUsed w → Turn s pairs w m 0
turn_first s pairs w e none = record {
  inside = omega arith;
  fits = record { few = omega (arith, e.count); small = omega (arith, e.length) };
  next = λ h. omega (arith, e.count);
  left = left_all s (runs pairs) w e none;
}

module _ {s w : List ℕ} {m : Measure} {n at end : ℕ} (h : n ≤ length w) (t : Turn s (take n w) w m at) (e : RunEnd w n at end) where
  -- the run that begins there, and those behind it
  here : Run
  here = record { outer = outer (get_or w at 0); inners = items (part w at end) }

  first_left : Left s (runs (take n w)) (here ∷ runs (drop end (take n w))) w m
  unfolding here
  first_left = rw (← run_left w n at end h e) t.left

  pub turn_refused : {q : Refusal} → Unusable s (outer (get_or w at 0)) q → (next : Outcome) → subtables_or s (runs (take n w)) next ≡ refused q
  unfolding here
  turn_refused u = left_refused here first_left u

  below : m.count ≤ outer (get_or w at 0)
  below =
      let l = length-take-le n w h in
      rw (get_or-take n w at 0 (omega (arith, e.one.after, e.inside))) at (t.next (omega (arith, e.one.after, e.inside)))

  pub turn_few : {u : Shape} → bad_store s ≡ false → Usable s (outer (get_or w at 0)) u → m.count < 256
  turn_few b u = omega (arith, below, in_array s (outer (get_or w at 0)) u.there, (store_inside s b).few)

  later : outers_fall (take n w) ≡ false → end < length (take n w) → m.count + 1 ≤ outer (get_or (take n w) end 0)
  later f g =
      let l = length-take-le n w h in
      let k : end < n = omega arith in
      let c = outers_climb (take n w) f at end (omega (arith, e.one.after)) g in
      let d = rw (get_or-take n w at 0 (omega (arith, e.one.after)), get_or-take n w end 0 k) at c in
      rw (get_or-take n w end 0 k) (omega (arith, below, d, e.other k))

  pub turn_more : {u : Shape} {w' : List ℕ} {r : Measure} → bad_store s ≡ false → outers_fall (take n w) ≡ false → Usable s (outer (get_or w at 0)) u
      → Step s u.at (items (part w at end)) w w' m r → Fits r end → Turn s (take n w) w' r end
  unfolding here
  turn_more b f u k f' = record {
    inside = rw (length-take-le n w h) e.inside;
    fits = f';
    next = λ g. rw k.count (later f g);
    left = left_more here first_left u.there u.whole.good (rw u.whole.place at k);
  }

-- all runs are measured
left_none : {s : List ℕ} {rs : List Run} {w : List ℕ} {m : Measure} (at : ℕ) → at ≤ 8192 → Fits m at → Left s rs [] w m → Whole s rs w m
unfolding sizes sum some_delta bad_region_index middle_width some_column is_used any subtables_or
left_none {w = w} {m = m} at h f l = record {
  few = f.few;
  small = omega (arith, f.few, f.small);
  noted = sym (append-nil (take m.count (drop 8832 w))) ∙ l.noted;
  count = omega (arith, l.count);
  total = omega (arith, l.total);
  live = sym (or_false m.live) ∙ l.live;
  index = sym (or_false m.index) ∙ l.index;
  middle = sym (or_false m.middle) ∙ l.middle;
  used = λ q g. sym (or_false (has (used_in w) q)) ∙ l.used q g;
  subtables = l.subtables;
}
  where
    or_false : (b : Bool) → pick b true false ≡ b
    or_false true = refl
    or_false false = refl

pub turn_end : {s pairs w : List ℕ} {m : Measure} {at : ℕ} → Turn s pairs w m at → at ≡ length pairs → at ≤ 8192 → Whole s (runs pairs) w m
unfolding runs
turn_end {s} {pairs} {w} {m} {at} t e h = left_none at h t.fits (rw (e, drop-length) at t.left)

-- A demand that holds makes its test true. So where a test fails, the demand doesn't hold of what was written.
use Prim.Native.Nat.{ℕ, suc, ◌^◌, ◌<◌, ◌≤◌}
use mathlib.Core.Path.{◌≡◌, refl, sym, ap, ◌∙◌}
use mathlib.Core.Bool.{Bool, true, false, not, true≢false}
use mathlib.Core.List.{List}
use native.Mathlib.Omega.{arith}
use lib.ListN.{length, take}
use lib.Dec.{ltb, leb, eqb}
use lib.IntN.{ℤ, pos, negsuc}
use borrow.Author.Tests.{eq-eqb, eqb-true, eqb-false, ltb-true, le-leb, not-true}
use Rattle.lists.specs.Pick.{pick, both, differ, differ_yes}
use Rattle.lists.specs.Search.{some}
use Rattle.lists.proofs.Choices.{decided, both_of, refuted}
use Rattle.lists.proofs.Each.{both_hold, some-not}
use Rattle.lists.proofs.Tests.{some_at}
use Rattle.lists.proofs.Found.{some_found}
use Rattle.cells.specs.Sign.{nil}
use Rattle.opentype.specs.Store.{subtable_at, subtable_count, region_count, axis_count}
use Rattle.opentype.specs.Subtable.{item_count, region_index, row_length}
use Rattle.opentype.specs.Map.{inner_bits}
use Rattle.opentype.specs.Table.{map_at, store_of, gives_pairs, glyph_outer, glyph_inner}
use Rattle.demands.specs.Reading.{weighted, delta_in, columns_in}
use Rattle.demands.specs.KeepsStore.{KeptStore, KeptSums, outers_before, pairs_of, outer_at, inner_at}
use Rattle.demands.specs.KeepsGlyphs.{KeptTable, KeptGlyphSums, old_at, new_at}
use Rattle.demands.specs.ShortestRows.{Form, form_length, tells, ShortestRows}
use Rattle.demands.specs.FewestInnerBits.{FewestInnerBits}
use Rattle.demands.specs.NoTrace.{Lean, NoTrace, NoTraceInTable}
use Rattle.instances.specs.Tests.{every, same, weigh, keeps, keeps_glyphs, not_longer, few_bits, is_lean, traceless, traceless_table}

-- ---- tests over numbers

every_of : (f : ℕ → Bool) (n : ℕ) → ((k : ℕ) → k < n → f k ≡ true) → every f n ≡ true
unfolding every
every_of f n h = rw (refuted (some (λ k. not (f k)) n) (λ e. let w = some_found (λ k. not (f k)) n e in true≢false (sym (h w.0 w.1) ∙ not-true (f w.0) w.2)))

every_at : (f : ℕ → Bool) (n k : ℕ) → every f n ≡ true → k < n → f k ≡ true
unfolding every
every_at f n k e h = by (f k) (some-not (λ j. not (f j)) n k (not-true (some (λ j. not (f j)) n) e) h)
  where
    by : (b : Bool) → not b ≡ false → b ≡ true
    by true e = refl
    by false e = absurd (true≢false e)

-- a test that is asked only where another holds
where_holds : (b x : Bool) → (b ≡ true → x ≡ true) → pick b x true ≡ true
where_holds true x h = h refl
where_holds false x h = refl

is_same : (x y : ℤ) → x ≡ y → same x y ≡ true
is_same x y e = rw e (own y)
  where
    own : (z : ℤ) → same z z ≡ true
    own (pos n) = eq-eqb n n refl
    own (negsuc n) = eq-eqb n n refl

not-nil : (z : ℤ) → (z ≡ pos 0 → ⊥) → not (nil z) ≡ true
not-nil (pos n) h = differ_yes n 0 (λ e. h (ap pos e))
not-nil (negsuc n) h = refl

-- ---- the demands

pub keeps-passes : {s pairs w : List ℕ} → KeptStore s pairs w → KeptSums s pairs w → keeps s pairs w ≡ true
unfolding keeps KeptSums
keeps-passes {s} {pairs} {w} kept sums = both_of (eqb (axis_count w) (axis_count s)) _ (eq-eqb _ _ kept.axes) (every_of _ (length pairs) (λ k h. is_same _ _ (sums weigh k h)))

pub glyphs_pass : {maps : ℕ} {t es u : List ℕ} → KeptTable maps t es u → KeptGlyphSums maps t es u → keeps_glyphs maps t es u ≡ true
unfolding keeps_glyphs KeptGlyphSums
glyphs_pass {maps} {t} {es} {u} kept sums =
    both_of (eqb (axis_count (store_of u)) (axis_count (store_of t))) _ (eq-eqb _ _ kept.axes)
    (every_of _ maps (λ m h. where_holds (gives_pairs t m) _ (λ g. every_of _ (length es) (λ n l. is_same _ _ (sums weigh m n (record { known = h; gives = g; inside = l }))))))

pub shortest_passes : (s pairs w : List ℕ) → ShortestRows s pairs w → (k : ℕ) → k < length pairs → (f : Form) → not_longer s pairs w k f ≡ true
unfolding not_longer ShortestRows
shortest_passes s pairs w short k h f =
    let o = outer_at pairs k in
    let told : ℕ → Bool = λ j. every (λ c. tells f c (delta_in s o (inner_at pairs j) c)) (columns_in s o) in
    where_holds (every (λ j. pick (eqb (outer_at pairs j) o) (told j) true) (length pairs)) _ (λ all.
    le-leb _ _ (short k h f (λ j c l e m.
    every_at (λ c. tells f c (delta_in s o (inner_at pairs j) c)) (columns_in s o) c
    (asked (eqb (outer_at pairs j) o) (told j) (eq-eqb (outer_at pairs j) o e) (every_at (λ i. pick (eqb (outer_at pairs i) o) (told i) true) (length pairs) j all l)) m)))
  where
    asked : (b x : Bool) → b ≡ true → pick b x true ≡ true → x ≡ true
    asked true x e h = h
    asked false x e h = absurd (true≢false (sym e))

pub bits_pass : {maps : ℕ} {t es u : List ℕ} → FewestInnerBits maps t es u → few_bits maps t es u ≡ true
unfolding few_bits
bits_pass {maps} {t} {es} {u} few =
    every_of _ maps (λ m h. where_holds (both (gives_pairs t m) (differ (length es) 0)) _ (λ g.
    let there = both_hold (gives_pairs t m) (differ (length es) 0) g in
    let some : length es ≡ 0 → ⊥ = eqb-false (length es) 0 (not-true (eqb (length es) 0) there.1) in
    every_of _ 16 (λ b l. where_holds (every (λ n. ltb (glyph_inner u m (new_at es n)) (2 ^ suc b)) (length es)) _ (λ enough.
    le-leb _ _ ((few.bits m h there.0 (omega (arith, some))).fewest (suc b) (omega arith)
    (λ n k. ltb-true _ _ (every_at (λ i. ltb (glyph_inner u m (new_at es i)) (2 ^ suc b)) (length es) n enough k)))))))

lean_passes : {w : List ℕ} → Lean w → is_lean w ≡ true
unfolding is_lean
lean_passes {w} lean =
    both_of _ _
    (every_of _ (subtable_count w) (λ o h. both_of _ _ (differ_yes (item_count w (subtable_at w o)) 0 (λ e. omega (arith, lean.subtables o h, e)))
    (every_of _ (columns_in w o) (λ c l. let r = lean.columns o c h l in
    some_at (λ i. not (nil (delta_in w o i c))) r.row (item_count w (subtable_at w o)) r.inside (not-nil _ r.live)))))
    (every_of _ (region_count w) (λ r h. let n = lean.regions r h in
    some_at (λ o. some (λ c. eqb (region_index w (subtable_at w o) c) r) (columns_in w o)) n.outer (subtable_count w) n.there
    (some_at (λ c. eqb (region_index w (subtable_at w n.outer) c) r) n.column (columns_in w n.outer) n.inside (eq-eqb _ r n.names))))

pub trace_passes : {s pairs w : List ℕ} → NoTrace s pairs w → traceless s pairs w ≡ true
unfolding traceless
trace_passes {s} {pairs} {w} none =
    both_of (is_lean w) _ (lean_passes none.lean)
    (every_of _ (subtable_count w) (λ o h. every_of _ (item_count w (subtable_at w o)) (λ i l.
    let p = none.rows o i h l in
    some_at (λ k. both (eqb (outers_before pairs (outer_at pairs k)) o) (eqb (pairs_of (take k pairs) (outer_at pairs k)) i)) p.place (length pairs) p.inside
    (both_of _ _ (eq-eqb _ o p.outer) (eq-eqb _ i p.inner)))))

pub table_trace_passes : {maps : ℕ} {t es u : List ℕ} → NoTraceInTable maps t es u → traceless_table maps t es u ≡ true
unfolding traceless_table
table_trace_passes {maps} {t} {es} {u} none =
    both_of (is_lean (store_of u)) _ (lean_passes none.lean)
    (every_of _ (subtable_count (store_of u)) (λ o h. every_of _ (item_count (store_of u) (subtable_at (store_of u) o)) (λ i l.
    let g = none.rows o i h l in
    some_at (λ m. both (gives_pairs t m) (some (λ n. both (eqb (glyph_outer u m (new_at es n)) o) (eqb (glyph_inner u m (new_at es n)) i)) (length es))) g.map maps g.listed.known
    (both_of (gives_pairs t g.map) _ g.listed.gives
    (some_at (λ n. both (eqb (glyph_outer u g.map (new_at es n)) o) (eqb (glyph_inner u g.map (new_at es n)) i)) g.place (length es) g.listed.inside
    (both_of _ _ (eq-eqb _ o g.outer) (eq-eqb _ i g.inner)))))))

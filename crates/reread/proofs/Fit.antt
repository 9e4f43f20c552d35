-- The kept deltas fit the cells that the plan of rules 1 to 3 gives them, as row 9 was not given.
use Prim.Native.Nat.{ℕ, ◌+◌, ◌/◌, ◌^◌, ◌<◌, ◌≤◌}
use mathlib.Core.Path.{◌≡◌, refl}
use mathlib.Core.Bool.{Bool, true, false, false≢true}
use mathlib.Core.List.{List}
use native.Mathlib.Omega.{arith}
use lib.ListN.{length, get_or, length-map}
use lib.Dec.{ltb, leb}
use lib.IntN.{ℤ, pos}
use lib.Signed.{mag}
use borrow.Author.Tests.{ltb-false, le-ltb}
use Rattle.lists.specs.Pick.{pick, both}
use Rattle.lists.specs.Gather.{select}
use Rattle.lists.specs.Search.{some, any, all}
use Rattle.lists.proofs.Each.{some-not, any-not, none_all, each_none, get_d_map}
use Rattle.lists.proofs.Selected.{select_sound}
use Rattle.cells.specs.Be.{be}
use Rattle.cells.specs.Sign.{sign, outside, nil}
use Rattle.opentype.specs.Subtable.{long, word_count, column_count, item_count, word_size, rest_size, row_at, cell_at, cell_size, cell, delta}
use Rattle.rules.specs.declared.Class.TheVariants.{Dropped, Narrow, Wide}
use Rattle.rules.specs.Columns.{plan_of, plan_with, kept_deltas, keeps_long, class_of, is_wide, is_narrow, narrow_limit}
use Rattle.rules.specs.StoreCut.{middle}
use Rattle.laws.specs.Long.{sign_small}
use Rattle.laid.proofs.Subtable.{Fits}

-- a delta lies in the range of the subtable's larger cells, whatever the bytes
delta_small : (s : List ℕ) (at i c : ℕ) → mag (delta s at i c) < 256 ^ word_size (long s at) / 2
unfolding delta cell cell_size
delta_small s at i c =
    there (leb (item_count s at) i) (leb (column_count s at) c) (long s at) (cell s at i c)
    (in_cell (long s at) (ltb c (word_count s at)) (λ n. be n s (row_at s at i + cell_at (long s at) (word_count s at) c)))
  where
    in_cell : (l word : Bool) (u : ℕ → ℕ) → let n : ℕ = pick word (word_size l) (rest_size l) in mag (sign (256 ^ n / 2) (u n)) < 256 ^ word_size l / 2
    in_cell true true u = sign_small 2147483648 (u 4) (omega arith)
    in_cell true false u = let h : mag (sign 32768 (u 2)) < 32768 = sign_small 32768 (u 2) (omega arith) in omega arith
    in_cell false true u = sign_small 32768 (u 2) (omega arith)
    in_cell false false u = let h : mag (sign 128 (u 1)) < 128 = sign_small 128 (u 1) (omega arith) in omega arith

    there : (a b l : Bool) (z : ℤ) → mag z < 256 ^ word_size l / 2 → mag (pick a (pos 0) (pick b (pos 0) z)) < 256 ^ word_size l / 2
    there true b true z h = omega arith
    there true b false z h = omega arith
    there false true true z h = omega arith
    there false true false z h = omega arith
    there false false l z h = h

pub kept_at : (s : List ℕ) (at : ℕ) (is : List ℕ) (c j : ℕ) → j < length is → get_or (kept_deltas s at is c) j (pos 0) ≡ delta s at (get_or is j 0) c
unfolding kept_deltas
kept_at s at is c j h = get_d_map (λ i. delta s at i c) 0 (pos 0) is j h

pub length_kept : (s : List ℕ) (at : ℕ) (is : List ℕ) (c : ℕ) → length (kept_deltas s at is c) ≡ length is
unfolding kept_deltas
length_kept s at is c = length-map is (λ i. delta s at i c)

-- a subtable that isn't kept long has no far delta
not_far : (s : List ℕ) (at : ℕ) (is : List ℕ) (c : ℕ) → c < column_count s at → keeps_long s at is ≡ false
    → any (λ z. outside 65535 z) (kept_deltas s at is c) ≡ false
unfolding keeps_long
not_far s at is c h e = by (long s at) refl e
  where
    F : ℕ → Bool
    F c = any (λ z. outside 65535 z) (kept_deltas s at is c)

    by : (l : Bool) → long s at ≡ l → both l (some F (column_count s at)) ≡ false → any (λ z. outside 65535 z) (kept_deltas s at is c) ≡ false
    by true p e = some-not F (column_count s at) c e h
    by false p e =
        each_none (λ z. outside 65535 z) (pos 0) (kept_deltas s at is c) (λ j g.
        let n = length_kept s at is c in
        let b : mag (delta s at (get_or is j 0) c) < 256 ^ word_size false / 2 = rw p at (delta_small s at (get_or is j 0) c) in
        rw (kept_at s at is c j (omega arith)) (le-ltb 65535 (mag (delta s at (get_or is j 0) c)) (omega arith)))

-- row 9 not given: without a far delta all lie in -32768..32767
not-middle : (zs : List ℤ) → middle zs ≡ false → any (λ z. outside 65535 z) zs ≡ false → any (λ z. outside 32767 z) zs ≡ false
unfolding middle
not-middle zs m e = rw (none_all (λ z. outside 65535 z) zs e) at m

near : (k : ℕ) (zs : List ℤ) (j : ℕ) → any (λ z. outside k z) zs ≡ false → j < length zs → mag (get_or zs j (pos 0)) ≤ k
near k zs j e h = ltb-false k (mag (get_or zs j (pos 0))) (any-not (λ z. outside k z) (pos 0) zs j e h)

narrow_near : (l : Bool) (zs : List ℤ) → is_narrow (class_of l zs) ≡ true → any (λ z. outside (narrow_limit l) z) zs ≡ false
unfolding class_of
narrow_near l zs e = by (all (λ z. nil z) zs) (any (λ z. outside (narrow_limit l) z) zs) e
  where
    by : (a b : Bool) → is_narrow (pick a Dropped (pick b Wide Narrow)) ≡ true → b ≡ false
    by true b e = absurd (false≢true e)
    by false true e = absurd (false≢true e)
    by false false e = refl

wide_fits : (l : Bool) (zs : List ℤ) (j : ℕ) → j < length zs → mag (get_or zs j (pos 0)) < 2 ^ 31 → (l ≡ false → any (λ z. outside 65535 z) zs ≡ false)
    → middle zs ≡ false → mag (get_or zs j (pos 0)) < 256 ^ word_size l / 2
wide_fits true zs j h b far m = b
wide_fits false zs j h b far m = let n = near 32767 zs j (not-middle zs m (far refl)) h in omega arith

narrow_fits : (l : Bool) (zs : List ℤ) (j : ℕ) → j < length zs → is_narrow (class_of l zs) ≡ true → middle zs ≡ false → mag (get_or zs j (pos 0)) < 256 ^ rest_size l / 2
narrow_fits true zs j h k m = let n = near 32767 zs j (not-middle zs m (narrow_near true zs k)) h in omega arith
narrow_fits false zs j h k m = let n = near 127 zs j (narrow_near false zs k) h in omega arith

-- the deltas are below 2 ^ 31
delta_31 : (s : List ℕ) (at i c : ℕ) → mag (delta s at i c) < 2 ^ 31
delta_31 s at i c = by (long s at) (delta_small s at i c)
  where
    by : (l : Bool) → mag (delta s at i c) < 256 ^ word_size l / 2 → mag (delta s at i c) < 2 ^ 31
    by true h = h
    by false h = omega arith

pub plan_fits : (s : List ℕ) (at : ℕ) (is : List ℕ) → ((c : ℕ) → c < column_count s at → middle (kept_deltas s at is c) ≡ false)
    → (j : ℕ) → j < length is → Fits s at (plan_of s at is) (get_or is j 0)
unfolding plan_of plan_with
plan_fits s at is m j h =
    let l = keeps_long s at is in
    let wide : ℕ → Bool = λ c. is_wide (class_of l (kept_deltas s at is c)) in
    let narrow : ℕ → Bool = λ c. is_narrow (class_of l (kept_deltas s at is c)) in
    let in_list : (b : ℕ) → j < length (kept_deltas s at is b) = λ b. rw (length_kept s at is b) h in
    record {
      wide = λ c g.
          let b = get_or (select wide (column_count s at)) c 0 in
          let q = select_sound wide (column_count s at) c g in
          rw (← kept_at s at is b j h)
          (wide_fits l (kept_deltas s at is b) j (in_list b) (rw (kept_at s at is b j h) (delta_31 s at (get_or is j 0) b)) (not_far s at is b q.0) (m b q.0));
      narrow = λ c g.
          let b = get_or (select narrow (column_count s at)) c 0 in
          let q = select_sound narrow (column_count s at) c g in
          rw (← kept_at s at is b j h) (narrow_fits l (kept_deltas s at is b) j (in_list b) q.1 (m b q.0));
    }

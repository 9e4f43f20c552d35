-- The old columns in their new order: each one once, all of them there, and where one is left out every kept delta is 0.
-- These are the fields `inside`, `once` and `dropped` of `KeptSubtable`, for `old = order (plan_of s at is)`.
use Prim.Native.Nat.{ℕ, ◌<◌, ◌≤◌}
use mathlib.Core.Path.{◌≡◌, refl}
use mathlib.Core.Bool.{Bool, true, false, not, false≢true, true≢false}
use mathlib.Core.List.{List}
use lib.ListN.{length, get_or}
use Rattle.lists.specs.Pick.{pick}
use Rattle.lists.specs.Search.{any, all}
use Rattle.lists.proofs.Selected.{pair_few, pair_inside, pair_holds, pair_once, pair_out}
use Rattle.cells.specs.Sign.{outside, nil}
use Rattle.opentype.specs.Subtable.{column_count}
use Rattle.rules.specs.declared.Class.{Class}
use Rattle.rules.specs.declared.Class.TheVariants.{Dropped, Narrow, Wide}
use Rattle.rules.specs.Columns.{plan_of, plan_with, order, kept_deltas, keeps_long, class_of, is_wide, is_narrow, narrow_limit, live}

not-both : (k : Class) → is_wide k ≡ true → is_narrow k ≡ true → ⊥
not-both Dropped a b = false≢true a
not-both Narrow a b = false≢true a
not-both Wide a b = false≢true b

pub order_inside : (s : List ℕ) (at : ℕ) (is : List ℕ) (c : ℕ) → c < length (order (plan_of s at is)) → get_or (order (plan_of s at is)) c 0 < column_count s at
unfolding plan_of plan_with
order_inside s at is c h = pair_inside _ _ (column_count s at) c h

pub order_few : (s : List ℕ) (at : ℕ) (is : List ℕ) → length (order (plan_of s at is)) ≤ column_count s at
unfolding plan_of plan_with
order_few s at is = pair_few _ _ (column_count s at) (λ b. not-both (class_of (keeps_long s at is) (kept_deltas s at is b)))

-- a column that is kept has a non-zero kept delta
pub order-live : (s : List ℕ) (at : ℕ) (is : List ℕ) (c : ℕ) → c < length (order (plan_of s at is)) → live s at is (get_or (order (plan_of s at is)) c 0) ≡ true
unfolding plan_of plan_with class_of live
order-live s at is c h =
    pair_holds _ _ (λ b. live s at is b) (column_count s at)
    (λ b e. wide (all (λ z. nil z) (kept_deltas s at is b)) (any (λ z. outside (narrow_limit (keeps_long s at is)) z) (kept_deltas s at is b)) e)
    (λ b e. narrow (all (λ z. nil z) (kept_deltas s at is b)) (any (λ z. outside (narrow_limit (keeps_long s at is)) z) (kept_deltas s at is b)) e)
    c h
  where
    wide : (a b : Bool) → is_wide (pick a Dropped (pick b Wide Narrow)) ≡ true → not a ≡ true
    wide true b e = e
    wide false b e = refl

    narrow : (a b : Bool) → is_narrow (pick a Dropped (pick b Wide Narrow)) ≡ true → not a ≡ true
    narrow true b e = e
    narrow false b e = refl

pub order_once : (s : List ℕ) (at : ℕ) (is : List ℕ) (c d : ℕ) → c < length (order (plan_of s at is)) → d < length (order (plan_of s at is))
    → get_or (order (plan_of s at is)) c 0 ≡ get_or (order (plan_of s at is)) d 0 → c ≡ d
unfolding plan_of plan_with
order_once s at is c d h k e = pair_once _ _ (column_count s at) (λ b. not-both (class_of (keeps_long s at is) (kept_deltas s at is b))) c d h k e

pub order_out : (s : List ℕ) (at : ℕ) (is : List ℕ) (b : ℕ) → b < column_count s at
    → ((c : ℕ) → c < length (order (plan_of s at is)) → get_or (order (plan_of s at is)) c 0 ≡ b → ⊥) → all (λ z. nil z) (kept_deltas s at is b) ≡ true
unfolding plan_of plan_with class_of
order_out s at is b l h =
    let o = pair_out _ _ (column_count s at) b l h in
    dropped (all (λ z. nil z) (kept_deltas s at is b)) (any (λ z. outside (narrow_limit (keeps_long s at is)) z) (kept_deltas s at is b)) o.0 o.1
  where
    dropped : (D B : Bool) → is_wide (pick D Dropped (pick B Wide Narrow)) ≡ false → is_narrow (pick D Dropped (pick B Wide Narrow)) ≡ false → D ≡ true
    dropped true B a e = refl
    dropped false true a e = absurd (true≢false a)
    dropped false false a e = absurd (true≢false e)

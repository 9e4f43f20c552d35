-- The kept columns are those with a non-zero kept delta: what is asked of the columns in their new order is asked of the live ones.
use Prim.Native.Nat.{ℕ, ◌+◌}
use Rattle.std.specs.Prelude.{◌≡◌, refl, Bool, false, not, List, length, ltb, ℤ}
use Rattle.std.proofs.Common.{sym, ap, ◌∙◌, length-append}
use Rattle.std.proofs.Math.Bool.{true}
use Rattle.lists.specs.Pick.{pick, both}
use Rattle.lists.specs.Gather.{select}
use Rattle.lists.specs.Search.{some, any, all}
use Rattle.lists.proofs.Anys.{any_append, any-select, any_there, some_or, some_ext}
use Rattle.cells.specs.Sign.{outside, nil}
use Rattle.opentype.specs.Subtable.{column_count}
use Rattle.rules.specs.declared.Class.TheVariants.{Dropped, Narrow, Wide}
use Rattle.rules.specs.Columns.{plan_of, plan_with, order, kept_deltas, keeps_long, class_of, is_wide, is_narrow, narrow_limit, live}

-- a column is wide, narrow, or all its kept deltas are 0
class_kept : (a is_long : Bool) (zs : List ℤ) → pick (both a (is_wide (class_of is_long zs))) true (both a (is_narrow (class_of is_long zs))) ≡ both a (not (all (λ z. nil z) zs))
unfolding class_of
class_kept a is_long zs = three a (all (λ z. nil z) zs) (any (λ z. outside (narrow_limit is_long) z) zs)
  where
    three : (a d w : Bool) → pick (both a (is_wide (pick d Dropped (pick w Wide Narrow)))) true (both a (is_narrow (pick d Dropped (pick w Wide Narrow)))) ≡ both a (not d)
    three true true w = refl
    three true false true = refl
    three true false false = refl
    three false d w = refl

module _ (s : List ℕ) (at : ℕ) (is : List ℕ) where
  pub any_order : (g : ℕ → Bool) → any g (order (plan_of s at is)) ≡ some (λ c. both (g c) (live s at is c)) (column_count s at)
  unfolding plan_of plan_with live
  any_order g =
      any_append g (select wide n) (select narrow n)
      ∙ rw (any-select wide g n, any-select narrow g n)
      (sym (some_or (λ c. both (g c) (wide c)) (λ c. both (g c) (narrow c)) n)
      ∙ some_ext (λ c. pick (both (g c) (wide c)) true (both (g c) (narrow c))) (λ c. both (g c) (live s at is c)) (λ c. kept c) n)
    where
      n : ℕ
      n = column_count s at

      wide : ℕ → Bool
      wide c = is_wide (class_of (keeps_long s at is) (kept_deltas s at is c))

      narrow : ℕ → Bool
      narrow c = is_narrow (class_of (keeps_long s at is) (kept_deltas s at is c))

      kept : (c : ℕ) → pick (both (g c) (wide c)) true (both (g c) (narrow c)) ≡ both (g c) (live s at is c)
      kept c = class_kept (g c) (keeps_long s at is) (kept_deltas s at is c)

  -- there is a kept column just if there is a live one
  pub some_kept : ltb 0 (length (plan_of s at is).wide + length (plan_of s at is).narrow) ≡ some (λ c. live s at is c) (column_count s at)
  some_kept =
      ap (ltb 0) (sym (length-append (plan_of s at is).wide (plan_of s at is).narrow))
      ∙ sym (any_there (order (plan_of s at is)))
      ∙ any_order (λ c. true)

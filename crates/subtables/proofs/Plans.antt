-- The plan that the work area holds is the one that document 01 asks for.
use Prim.Native.Nat.{ℕ, ◌+◌}
use mathlib.Core.Path.{◌≡◌, sym, ap, ◌∙◌}
use mathlib.Core.List.{List, ◌++◌, map}
use native.Mathlib.Nat.{zero-add}
use native.Mathlib.Omega.{arith}
use lib.ListN.{length, get_or, take, drop}
use lib.Seq.{take_at, drop_at, take_all}
use Rattle.lists.specs.Gather.{tab}
use Rattle.lists.proofs.Pieces.{length-tab}
use Rattle.lists.proofs.Tabs.{tab_ext, tab_add, tab-part, map-tab}
use Rattle.rules.specs.Lists.{inner}
use Rattle.rules.specs.Columns.{plan_of, order}
use Rattle.rows.specs.declared.Counts.{Counts}
use Rattle.rows.specs.Area.{items, column_in, columns_in}
use Rattle.rows.specs.Planned.{Planned}
use Rattle.subtables.specs.Written.{columns_from, plan_in}

-- the kept columns are the wide ones, then the narrow ones
pub columns_order : (w : List ℕ) (p : Counts) → columns_in w p.wide p.narrow ≡ order (plan_in w p)
unfolding columns_in plan_in columns_from
columns_order w p = tab_add (λ j. column_in w p.wide j) p.wide p.narrow ∙ simp zero-add

module _ {s : List ℕ} {at : ℕ} {is w : List ℕ} {p : Counts} (h : Planned s at is w p) where
  both_groups : columns_from w p.wide 0 p.wide ++ columns_from w p.wide p.wide p.narrow ≡ order (plan_of s at is)
  unfolding plan_in
  both_groups = sym (columns_order w p) ∙ h.kept

  wide_length : length (columns_from w p.wide 0 p.wide) ≡ p.wide
  unfolding columns_from
  wide_length = length-tab _ p.wide

  pub plan_in_lem : plan_in w p ≡ plan_of s at is
  unfolding plan_in
  plan_in_lem =
      let m = columns_from w p.wide 0 p.wide in
      let n = columns_from w p.wide p.wide p.narrow in
      let plan = plan_of s at is in
      let a : m ≡ plan.wide = sym (take_at m n p.wide wide_length) ∙ ap (take p.wide) both_groups ∙ take_at plan.wide plan.narrow p.wide (sym h.wide) in
      let b : n ≡ plan.narrow = sym (drop_at m n p.wide wide_length) ∙ ap (drop p.wide) both_groups ∙ drop_at plan.wide plan.narrow p.wide (sym h.wide) in
      rw (h.long, a, b)

-- the items of pairs, by place
pub items_tab : (ps : List ℕ) → tab (λ k. inner (get_or ps k 0)) (length ps) ≡ items ps
items_tab ps =
    sym (map-tab (λ p. inner p) (λ k. get_or ps k 0) (length ps))
    ∙ ap (map (λ p. inner p)) (tab_ext _ (λ k. get_or ps (0 + k) 0) (length ps) (λ k h. rw zero-add) ∙ tab-part ps 0 (length ps) (omega arith) ∙ take_all (length ps) ps (omega arith))

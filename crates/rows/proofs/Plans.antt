-- The planned columns are columns of the subtable.
use Prim.Native.Nat.{ℕ, ◌+◌}
use mathlib.Core.List.{List}
use native.Mathlib.Omega.{arith}
use lib.ListN.{length-append}
use Rattle.lists.proofs.Tabs.{get_d_tab}
use Rattle.lists.proofs.Selected.{pair_inside}
use Rattle.opentype.specs.Subtable.{column_count}
use Rattle.rules.specs.Columns.{plan_of, plan_with}
use Rattle.rows.specs.declared.Counts.{Counts}
use Rattle.rows.specs.Area.{column_in, columns_in}
use Rattle.rows.specs.Planned.{Planned, Inside}

pub planned_inside : {s : List ℕ} {at : ℕ} {is w : List ℕ} {p : Counts} → Planned s at is w p → Inside s at w p
unfolding columns_in plan_of plan_with
planned_inside {s} {at} {w = w} {p = p} h = record {
  few = h.few;
  each = λ j l. rw (← get_d_tab (λ k. column_in w p.wide k) 0 (p.wide + p.narrow) j l, h.kept)
      (pair_inside _ _ (column_count s at) j (rw length-append (omega (arith, h.wide, h.narrow))));
}

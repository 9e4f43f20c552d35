use mathlib.Core.Path.{refl}
use Rattle.maps.proofs.Ahead.{turn_listed, turn_gap}
use Rattle.maps.proofs.Bytes.{entered_none, entered_more}
use Rattle.maps.proofs.put_entries.Goals as goal
use Rattle.maps.proofs.put_entries.Goals.{then-is_listed, else-is_listed}

pub loop-id-init : goal.loop-id-init
loop-id-init c = entered_none _ _ _ _ _ c.requires.entries_fit.rise

pub loop-id-preserved : goal.loop-id-preserved
loop-id-preserved c = let i = c.loop-id.invariant in
    entered_more i
    (elim c.if-is_listed.branch [
      | then-is_listed y ↦ rw (y.k-is, y.entry-is) (turn_listed i.ahead c.is_listed.ensures y.if-is_listed.true y.entry_of-entry.ensures)
      | else-is_listed n ↦ rw (n.k-is, n.entry-is) (turn_gap i.ahead c.is_listed.ensures n.if-is_listed.false refl)
    ])
    c.put_entry.ensures

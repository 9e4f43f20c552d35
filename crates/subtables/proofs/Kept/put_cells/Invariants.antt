use Prim.Native.Nat.{◌*◌}
use Rattle.lists.proofs.Laid.{Laid}
use Rattle.subtables.proofs.Writing.{cell_in}
use Rattle.subtables.proofs.Kept.put_cells.Given as goal

abbrev pub invariant-loop-k : goal.invariant-loop-k
invariant-loop-k l = let t = l.self.subtable in Laid (cell_in t.bytes.now t.shape.at l.item l.size l.self.work.now l.wide l.first) l.initial.out l.k (l.k * l.size) l.out

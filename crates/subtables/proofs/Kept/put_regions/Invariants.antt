use Prim.Native.Nat.{◌*◌}
use Rattle.lists.proofs.Laid.{Laid}
use Rattle.subtables.proofs.Writing.{index_in}
use Rattle.subtables.proofs.Kept.put_regions.Given as goal

abbrev pub invariant-loop-j : goal.invariant-loop-j
invariant-loop-j l = let t = l.self.subtable in Laid (index_in t.bytes.now t.shape.at l.work l.p.wide) l.initial.out l.j (2 * l.j) l.out

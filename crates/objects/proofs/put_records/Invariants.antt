use Prim.Native.Nat.{◌+◌, ◌*◌}
use mathlib.Core.Path.{◌≡◌}
use Rattle.lists.proofs.Laid.{Laid}
use Rattle.objects.proofs.Lists.{record_of}
use Rattle.objects.proofs.put_records.Given as goal

abbrev pub invariant-loop-r : goal.invariant-loop-r
invariant-loop-r l = record {
  place : l.from ≡ l.regions.at + 4 + l.r * (6 * l.regions.axes);
  laid : Laid (record_of l.regions.store.bytes.now l.work) l.initial.out l.r l.next l.out;
}

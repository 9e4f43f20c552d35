use Rattle.std.proofs.Common.{◌≡◌}
use Rattle.std.proofs.lemmas.List.Edits.{sets}
use Rattle.cells.specs.Be.{be_bytes}
use Rattle.cells.proofs.put_number.Given as goal

abbrev pub invariant-loop-i : goal.invariant-loop-i
invariant-loop-i g l = sets l.out l.at (be_bytes l.i l.left) ≡ sets l.initial.out l.at (be_bytes l.initial.i l.v)

use Rattle.std.proofs.Common.{arith, ◌-◌, ◌≡◌, ap, ◌∙◌}
use Rattle.std.proofs.lemmas.List.Edits.{sets}
use Rattle.cells.specs.Be.{be_bytes}
use Rattle.cells.proofs.Cells.{put_last}
use Rattle.cells.proofs.put_number.Goals as goal

pub loop-i-preserved : goal.loop-i-preserved
loop-i-preserved g c = put_last c.loop-i.out c.args.at (c.loop-i.i - 1) c.loop-i.i c.loop-i.left (omega arith) ∙ c.loop-i.invariant

pub returns : goal.returns
unfolding be_bytes
returns g c =
    let none : 0 ≡ c.loop-i.i = omega arith in
    record { is = ap (λ i. sets c.loop-i.out c.args.at (be_bytes i c.loop-i.left)) none ∙ c.loop-i.invariant }

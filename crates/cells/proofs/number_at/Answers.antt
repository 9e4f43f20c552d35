use Rattle.std.proofs.Common.{◌<◌, ◌+◌, arith, ◌∙◌}
use Rattle.cells.proofs.Cells.{cell_none, cell_more, cell_of, cell_room, length-part, part_byte}
use Rattle.cells.proofs.number_at.Goals as goal
use Rattle.cells.proofs.number_at.Given.{Over}
use Rattle.cells.proofs.number_at.Goals.{After-from}

-- a byte is small
byte_small : (g : Over) (c : After-from g) → c.from.result < 256
byte_small g c =
    let l = length-part c.args.s.now c.args.at g.row.N c.requires.in_bounds in
    rw (c.from.ensures ∙ part_byte c.args.s.now c.args.at g.row.N c.loop-b.b-index (omega (arith, l))) (c.type_inv.s (c.args.at + c.loop-b.b-index)).fits

pub loop-b-init : goal.loop-b-init
loop-b-init g c = cell_none _ _

pub overflow_mul-n : goal.overflow_mul-n
overflow_mul-n g c =
    omega (arith, cell_room c.loop-b.b-index c.loop-b.invariant (omega (arith, length-part c.args.s.now c.args.at g.row.N c.requires.in_bounds)))

pub overflow_add-n : goal.overflow_add-n
overflow_add-n g c =
    let l = length-part c.args.s.now c.args.at g.row.N c.requires.in_bounds in
    omega (arith, cell_room c.loop-b.b-index c.loop-b.invariant (omega (arith, l)), byte_small g c)

pub loop-b-preserved : goal.loop-b-preserved
loop-b-preserved g c =
    let l = length-part c.args.s.now c.args.at g.row.N c.requires.in_bounds in
    cell_more c.loop-b.invariant _ (c.from.ensures ∙ part_byte c.args.s.now c.args.at g.row.N c.loop-b.b-index (omega (arith, l))) (byte_small g c)

pub returns : goal.returns
returns g c =
    let l = length-part c.args.s.now c.args.at g.row.N c.requires.in_bounds in
    cell_of c.loop-b.b-index c.loop-b.invariant (omega (arith, l))

use Rattle.frame.proofs.Heads.{header_laid}
use borrow.Author.Rules.{rules}
use native.Mathlib.Omega.{arith}
use Rattle.frame.proofs.header.put_header.Goals as goal

pub returns : goal.returns
returns c =
    let s = c.args.sources.now in
    header_laid s.maps s.table.now c.args.out.now (omega (arith, s.room)) (search rules) c.put_version.ensures _ c.requires.maps_bound.1 c.put_number.ensures (rw c.requires.as_many at c.put_offsets.ensures)

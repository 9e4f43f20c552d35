use lib.ListN.{length-append}
use Rattle.cells.proofs.Cells.{wrote_cat, length-be_bytes}
use Rattle.maps.proofs.put_head.Goals as goal

pub returns : goal.returns
returns c = wrote_cat (wrote_cat c.put_number.ensures c.put_number-2.ensures (rw length-be_bytes)) c.put_number-3.ensures (simp (length-append, length-be_bytes))

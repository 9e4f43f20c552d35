use lib.ListN.{length-append}
use Rattle.cells.proofs.Cells.{length-be_bytes, wrote_cat}
use Rattle.objects.proofs.Filled.{wrote_whole}
use Rattle.objects.proofs.put_header.Goals as goal

pub returns : goal.returns
returns c = let w = wrote_cat (wrote_cat c.put_number.ensures c.put_number-2.ensures (simp length-be_bytes)) c.put_number-3.ensures (simp (length-append, length-be_bytes)) in
    wrote_whole w (simp (length-append, length-be_bytes) c.requires.out_len)

use lib.ListN.{length-append}
use Rattle.cells.proofs.Cells.{wrote_cat, length-be_bytes}
use Rattle.sources.proofs.Pairs.{map_good}
use Rattle.maps.proofs.Plans.{pairs_same}
use Rattle.maps.proofs.Bytes.{fits, map_put}
use Rattle.maps.proofs.put_map.Goals as goal

pub put_entries-requires-clause-entries_fit : goal.put_entries-requires-clause-entries_fit
put_entries-requires-clause-entries_fit c =
    fits c.requires.ready c.requires.planned _ (pairs_same _ _ _ c.source.ensures) c.requires.narrow c.args.kept.now.numbered c.args.sources.now.octets (map_good _ _ _ c.args.sources.now.sound c.requires.m_bound)

pub returns : goal.returns
returns c =
    map_put c.requires.ready c.requires.planned _ (pairs_same _ _ _ c.source.ensures) c.requires.out_len
    (wrote_cat c.put_head.ensures c.put_entries.ensures (simp (length-append, length-be_bytes)))

use Rattle.sources.proofs.Pairs.{counts_is, pairs_are}
use Rattle.sources.proofs.named.Sources.past_in.Goals as goal

pub returns-then-counts : goal.returns-then-counts
returns-then-counts c =
    let is = c.source-source.ensures in
    rw (← counts_is _ _ _ is, ← c.counts.ensures, c.if-counts.true, ← pairs_are _ _ _ c.args.glyphs.now is) c.outer_past.ensures

pub returns-else-counts : goal.returns-else-counts
returns-else-counts c = rw (← counts_is _ _ _ c.source-source.ensures, ← c.counts.ensures, c.if-counts.false)

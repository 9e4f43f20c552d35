use mathlib.Core.Path.{◌∙◌}
use lib.Seq.{length-take-le}
use Rattle.subtables.proofs.Wholes.{whole_row, whole_written, small_front}
use Rattle.subtables.proofs.whole.Whole.put_row.Goals as goal

pub returns-then-item-t : goal.returns-then-item-t
returns-then-item-t c =
    let k = c.args.self.now.kept in
    let copied = c.copy_ahead.ensures ∙ c.source_from.ensures.value in
    copied ∙ whole_written k.subtable.opened c.args.self.now.whole c.args.item c.if-item-t.true (small_front _ c.copy_ahead.new.out (λ i. (c.type_inv.out i).fits) copied)

pub put_row-requires : goal.put_row-requires
put_row-requires c =
    length-take-le _ _ c.requires ∙ whole_row c.args.self.now.kept.subtable.opened c.args.self.now.whole

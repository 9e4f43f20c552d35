use Rattle.lists.specs.Pick.{chain}
use Rattle.opentype.specs.Store.{store_format, subtable_count}
use Rattle.rules.specs.Open.{bad_store}
use Rattle.readers.proofs.store.bad_store.Goals as goal

pub returns-then-s-lt8 : goal.returns-then-s-lt8
unfolding bad_store
returns-then-s-lt8 c = search chain

pub returns-then-number_at-ne1 : goal.returns-then-number_at-ne1
unfolding bad_store store_format
returns-then-number_at-ne1 c = search chain

pub returns-then-count-gt256 : goal.returns-then-count-gt256
unfolding bad_store store_format subtable_count
returns-then-count-gt256 c = search chain

pub returns : goal.returns
unfolding bad_store store_format subtable_count
returns c = rw (← c.number_at-count.ensures.is) (search chain)

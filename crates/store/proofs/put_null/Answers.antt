use Rattle.rules.specs.StoreCut.{null_store}
use Rattle.store.proofs.put_null.Goals as goal

pub returns : goal.returns
unfolding null_store
returns c = c.put_header.ensures

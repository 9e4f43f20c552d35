use Rattle.numbering.proofs.Indexing.{place_noted}
use Rattle.numbering.proofs.note_place.Goals as goal

pub returns-then-slot-last : goal.returns-then-slot-last
returns-then-slot-last c = simp place_noted

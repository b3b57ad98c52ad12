use Rattle.area.proofs.Laws.{laws, residents_cut}
use Rattle.area.proofs.resident_part.first.Goals as goal

pub first-requires : goal.first-requires
first-requires c = rw (residents_cut _ _ _ c.words.ensures) (search laws)

pub returns : goal.returns
returns c = rw (residents_cut _ _ _ c.words.ensures) at c.first.ensures

use Rattle.area.proofs.Laws.{laws, residents_cut}
use Rattle.area.proofs.resident_part.last.Goals as goal

pub last-requires : goal.last-requires
last-requires c = rw (residents_cut _ _ _ c.words.ensures) (search laws)

pub returns : goal.returns
returns c = rw (residents_cut _ _ _ c.words.ensures) at c.last.ensures

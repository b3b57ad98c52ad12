use Rattle.area.proofs.Laws.{laws, residents_cut}
use Rattle.area.proofs.resident_part.frame.Goals as goal

pub frame-requires : goal.frame-requires
frame-requires c = rw (residents_cut _ _ _ c.words.ensures) (search laws)

pub returns : goal.returns
returns c = rw (residents_cut _ _ _ c.words.ensures) at c.frame.ensures

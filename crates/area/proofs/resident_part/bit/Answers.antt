use Rattle.area.proofs.Laws.{laws, residents_cut}
use Rattle.area.proofs.resident_part.bit.Goals as goal

pub bit-requires : goal.bit-requires
bit-requires c = rw (residents_cut _ _ _ c.words.ensures) (search laws)

pub returns : goal.returns
returns c = rw (residents_cut _ _ _ c.words.ensures) at c.bit.ensures

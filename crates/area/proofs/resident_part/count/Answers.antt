use Rattle.area.proofs.Laws.{laws, residents_cut}
use Rattle.area.proofs.resident_part.count.Goals as goal

pub count-requires : goal.count-requires
count-requires c = rw (residents_cut _ _ _ c.words.ensures) (search laws)

pub returns : goal.returns
returns c = rw (residents_cut _ _ _ c.words.ensures) at c.count.ensures

use Rattle.area.proofs.Laws.{laws, residents_cut, residents_put}
use Rattle.area.proofs.resident_part.free.Goals as goal

pub free-requires : goal.free-requires
free-requires c = rw (residents_cut _ _ _ c.words.ensures) (search laws)

pub returns : goal.returns
returns c = residents_put _ _ _ _ c.requires.size (search laws) c.words.ensures _ (rw (residents_cut _ _ _ c.words.ensures) at c.free.ensures)

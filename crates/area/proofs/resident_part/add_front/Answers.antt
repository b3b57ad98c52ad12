use Rattle.area.proofs.Laws.{laws, residents_cut, residents_put}
use Rattle.area.proofs.resident_part.add_front.Goals as goal

pub add_front-requires : goal.add_front-requires
add_front-requires c = rw (residents_cut _ _ _ c.words.ensures) (search laws)

pub returns : goal.returns
returns c = let d = rw (residents_cut _ _ _ c.words.ensures) at c.add_front.ensures in record { answer = d.slot; became = residents_put _ _ _ _ c.requires.size (search laws) c.words.ensures _ d.words }

use Rattle.area.proofs.Laws.{laws, residents_cut, residents_put}
use Rattle.area.proofs.resident_part.add_end.Goals as goal

pub add_end-requires : goal.add_end-requires
add_end-requires c = rw (residents_cut _ _ _ c.words.ensures) (search laws)

pub returns : goal.returns
returns c = let d = rw (residents_cut _ _ _ c.words.ensures) at c.add_end.ensures in record { answer = d.slot; became = residents_put _ _ _ _ c.requires.size (search laws) c.words.ensures _ d.words }

use Rattle.area.proofs.Laws.{laws, residents_cut, residents_put}
use Rattle.area.proofs.resident_part.exchange_end.Goals as goal

pub exchange_end-requires : goal.exchange_end-requires
exchange_end-requires c = rw (residents_cut _ _ _ c.words.ensures) (search laws)

pub returns : goal.returns
returns c = residents_put _ _ _ _ c.requires.size (search laws) c.words.ensures _ (rw (residents_cut _ _ _ c.words.ensures) at c.exchange_end.ensures)

use Rattle.area.proofs.Laws.{laws, lookup_cut, lookup_put}
use Rattle.area.proofs.lookup_part.put.Goals as goal

pub put-requires : goal.put-requires
put-requires c = rw (lookup_cut _ _ _ c.words.ensures) c.requires.can

pub returns : goal.returns
returns c = lookup_put _ _ _ _ c.requires.size (search laws) c.words.ensures _ (rw (lookup_cut _ _ _ c.words.ensures) at c.put.ensures)

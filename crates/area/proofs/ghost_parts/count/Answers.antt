use Rattle.area.proofs.Laws.{laws, ghosts_cut}
use Rattle.area.proofs.ghost_parts.count.Goals as goal

pub count-requires : goal.count-requires
count-requires c = rw (ghosts_cut _ _ _ _ c.words.ensures) (search laws)

pub returns : goal.returns
returns c = rw (ghosts_cut _ _ _ _ c.words.ensures) at c.count.ensures

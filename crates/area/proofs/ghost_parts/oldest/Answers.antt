use Rattle.area.proofs.Laws.{laws, ghosts_cut}
use Rattle.area.proofs.ghost_parts.oldest.Goals as goal

pub oldest-requires : goal.oldest-requires
oldest-requires c = rw (ghosts_cut _ _ _ _ c.words.ensures) (search laws)

pub returns : goal.returns
returns c = rw (ghosts_cut _ _ _ _ c.words.ensures) at c.oldest.ensures

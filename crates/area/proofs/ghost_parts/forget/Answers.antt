use Rattle.area.proofs.Laws.{laws, ghosts_cut, ghosts_put}
use Rattle.area.proofs.ghost_parts.forget.Goals as goal

pub forget-requires : goal.forget-requires
forget-requires c = rw (ghosts_cut _ _ _ _ c.words.ensures) (search laws)

pub returns : goal.returns
returns c = ghosts_put _ _ _ _ c.requires.size (search laws) _ c.words.ensures _ (rw (ghosts_cut _ _ _ _ c.words.ensures) at c.forget.ensures)

use Rattle.area.proofs.Laws.{laws, ghosts_cut, ghosts_put}
use Rattle.area.proofs.ghost_parts.record.Goals as goal

pub record-requires : goal.record-requires
record-requires c = rw (ghosts_cut _ _ _ _ c.words.ensures) (search laws)

pub returns : goal.returns
returns c = let d = rw (ghosts_cut _ _ _ _ c.words.ensures) at c.record.ensures in record { answer = d.cell; became = ghosts_put _ _ _ _ c.requires.size (search laws) _ c.words.ensures _ d.words }

use Rattle.area.proofs.Laws.{lookup_cut}
use Rattle.area.proofs.Rooms.{lookup_reach}
use Rattle.area.proofs.lookup_part.dead.Goals as goal

pub dead-requires : goal.dead-requires
dead-requires c = rw (lookup_cut _ _ _ c.words.ensures) (lookup_reach _ _ c.requires.small c.requires.size _ c.requires.can)

pub returns : goal.returns
returns c = rw (lookup_cut _ _ _ c.words.ensures) at c.dead.ensures

use Rattle.std.proofs.Common.{refl}
use Rattle.area.proofs.ghost_parts.words.Goals as goal

pub returns : goal.returns
returns c = rw c.ghosts_at-a.ensures.at refl

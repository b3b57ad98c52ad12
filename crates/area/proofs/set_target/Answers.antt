use Rattle.area.proofs.Laws.{laws}
use Rattle.area.proofs.set_target.Goals as goal

pub bounds-area-2 : goal.bounds-area-2
bounds-area-2 c = search laws

pub returns : goal.returns
returns c = search laws

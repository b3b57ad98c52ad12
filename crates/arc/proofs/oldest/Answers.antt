-- `arc::oldest` meets its contract. Assumes nothing.
use Rattle.arc.proofs.Replacing.{chooses}
use Rattle.arc.proofs.oldest.Goals as goal

pub returns : goal.returns
returns c = search chooses

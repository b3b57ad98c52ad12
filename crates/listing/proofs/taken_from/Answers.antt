use Rattle.listing.proofs.Laws.{laws}
use Rattle.listing.proofs.taken_from.Goals as goal

pub loop-k-preserved : goal.loop-k-preserved
loop-k-preserved c = search laws

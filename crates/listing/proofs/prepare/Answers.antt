-- `listing::prepare` meets its contract. Assumes nothing.
use Rattle.listing.proofs.Laws.{laws}
use Rattle.listing.proofs.prepare.Goals as goal

pub returns-in_err-c : goal.returns-in_err-c
returns-in_err-c c = search laws

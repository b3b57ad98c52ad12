-- `batch::tally_up` meets its contract: words that open are what the inner batch asks. Assumes nothing.
use Rattle.batch.proofs.Passing.{laws}
use Rattle.batch.proofs.tally_up.Goals as goal

pub open-requires : goal.open-requires
open-requires c = search laws

pub run-requires : goal.run-requires
run-requires c = search laws

pub returns-in-Ok : goal.returns-in-Ok
returns-in-Ok c = search laws

pub returns-in-Err : goal.returns-in-Err
returns-in-Err c = search laws

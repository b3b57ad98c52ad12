-- `guests::step` meets its contract: a request that names none of the six changes nothing. Assumes nothing.
use Rattle.guests.proofs.Laws.{laws}
use Rattle.guests.proofs.step.Goals as goal

pub serve-served-requires : goal.serve-served-requires
serve-served-requires c = search laws

pub hits-requires : goal.hits-requires
hits-requires c = search laws

pub returns-then-guest-lt6 : goal.returns-then-guest-lt6
returns-then-guest-lt6 c = search laws

pub returns : goal.returns
returns c = search laws

-- `ghosts::check` meets its contract. Each arm is the definition's. Assumes nothing.
use Rattle.ghosts.proofs.Needs.{tests}
use Rattle.ghosts.proofs.check.Goals as goal

pub returns-then-c-n : goal.returns-then-c-n
returns-then-c-n c = search tests

pub check-requires : goal.check-requires
check-requires c = search tests

pub returns-then-check : goal.returns-then-check
returns-then-check c = search tests

pub returns-else-check : goal.returns-else-check
returns-else-check c = search tests

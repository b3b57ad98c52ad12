-- `inner_calls::remove` meets its contract. Assumes nothing.
use Rattle.inner_calls.proofs.Calling.{remove_absent, remove_gone}
use Rattle.inner_calls.proofs.remove.Goals as goal

pub returns-in_err-gone : goal.returns-in_err-gone
returns-in_err-gone c = search (remove_absent, c.in_err-gone.ensures)

pub returns : goal.returns
returns c = search (remove_gone, c.in_ok-gone.ensures)

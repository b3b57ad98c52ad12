-- `inner_calls::get` meets its contract. Assumes nothing.
use Rattle.inner_calls.proofs.Calling.{get_miss, get_hit}
use Rattle.inner_calls.proofs.get.Goals as goal

pub returns-in_err-hit : goal.returns-in_err-hit
returns-in_err-hit c = search (get_miss, c.in_err-hit.ensures)

pub returns : goal.returns
returns c = search (get_hit, c.in_ok-hit.ensures)

-- `inner_calls::peek` meets its contract. Assumes nothing.
use Rattle.inner_calls.proofs.Asking.{peek_see, peek_no}
use Rattle.inner_calls.proofs.peek.Goals as goal

pub returns-in_err-seen : goal.returns-in_err-seen
returns-in_err-seen c = search (peek_no, c.in_err-seen.ensures)

pub returns : goal.returns
returns c = search (peek_see, c.in_ok-seen.ensures)

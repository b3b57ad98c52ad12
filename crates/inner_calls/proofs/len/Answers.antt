-- `inner_calls::len` meets its contract. Assumes nothing.
use Rattle.inner_calls.proofs.Asking.{len_says}
use Rattle.inner_calls.proofs.len.Goals as goal

pub returns : goal.returns
returns c = search len_says

-- `inner_calls::t2_len` meets its contract. Assumes nothing.
use Rattle.inner_calls.proofs.Asking.{t2_says}
use Rattle.inner_calls.proofs.t2_len.Goals as goal

pub returns : goal.returns
returns c = search t2_says

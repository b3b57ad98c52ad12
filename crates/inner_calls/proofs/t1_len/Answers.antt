-- `inner_calls::t1_len` meets its contract. Assumes nothing.
use Rattle.inner_calls.proofs.Asking.{t1_says}
use Rattle.inner_calls.proofs.t1_len.Goals as goal

pub returns : goal.returns
returns c = search t1_says

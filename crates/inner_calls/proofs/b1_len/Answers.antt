-- `inner_calls::b1_len` meets its contract. Assumes nothing.
use Rattle.inner_calls.proofs.Asking.{b1_says}
use Rattle.inner_calls.proofs.b1_len.Goals as goal

pub returns : goal.returns
returns c = search b1_says

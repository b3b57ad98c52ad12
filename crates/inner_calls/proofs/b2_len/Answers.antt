-- `inner_calls::b2_len` meets its contract. Assumes nothing.
use Rattle.inner_calls.proofs.Asking.{b2_says}
use Rattle.inner_calls.proofs.b2_len.Goals as goal

pub returns : goal.returns
returns c = search b2_says

-- `inner_calls::p_value` meets its contract. Assumes nothing.
use Rattle.inner_calls.proofs.Asking.{target_says}
use Rattle.inner_calls.proofs.p_value.Goals as goal

pub returns : goal.returns
returns c = search target_says

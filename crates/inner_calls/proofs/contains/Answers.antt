-- `inner_calls::contains` meets its contract. Assumes nothing.
use Rattle.inner_calls.proofs.Asking.{holds}
use Rattle.inner_calls.proofs.contains.Goals as goal

pub returns : goal.returns
returns c = search holds

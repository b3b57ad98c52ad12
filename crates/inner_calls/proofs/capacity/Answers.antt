-- `inner_calls::capacity` meets its contract. Assumes nothing.
use Rattle.inner_calls.proofs.Asking.{capacity_says}
use Rattle.inner_calls.proofs.capacity.Goals as goal

pub returns : goal.returns
returns c = search capacity_says

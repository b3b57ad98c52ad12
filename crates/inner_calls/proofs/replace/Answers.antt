-- `inner_calls::replace` meets its contract. Assumes nothing.
use Rattle.inner_calls.proofs.Replacing.{puts_can, puts}
use Rattle.inner_calls.proofs.replace.Goals as goal

pub exchange-out-requires : goal.exchange-out-requires
exchange-out-requires c = search puts_can

pub returns : goal.returns
returns c = search puts

-- `inner_calls::clear` meets its contract. Assumes nothing.
use Rattle.inner_calls.proofs.Calling.{clear_did}
use Rattle.inner_calls.proofs.clear.Goals as goal

pub returns : goal.returns
returns c = search clear_did

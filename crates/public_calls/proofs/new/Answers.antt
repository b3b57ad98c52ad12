-- `public_calls::new` meets its contract. Assumes nothing.
use Rattle.public_calls.proofs.Laws.{making_of}
use Rattle.public_calls.proofs.new.Goals as goal

pub returns : goal.returns
returns c = search making_of

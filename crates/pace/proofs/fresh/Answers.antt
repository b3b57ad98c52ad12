-- `pace::fresh`: an area that opens is ready. Assumes nothing.
use Rattle.std.proofs.Common.{rules}
use Rattle.batch.proofs.Passing.{opened}
use Rattle.pace.proofs.fresh.Goals as goal

pub returns : goal.returns
returns c = search (opened, rules)

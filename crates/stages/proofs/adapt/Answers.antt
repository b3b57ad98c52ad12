-- `stages::adapt` meets its contract. Assumes nothing.
use Rattle.stages.proofs.Hitting.{hit_left}
use Rattle.stages.proofs.adapt.Goals as goal

pub returns : goal.returns
returns c = search hit_left

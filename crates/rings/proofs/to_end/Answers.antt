-- `rings::to_end` meets its contract. The second call asks what the move asks of the words after the first. Assumes nothing.
use Rattle.rings.proofs.Needs.{end_into}
use Rattle.rings.specs.Rings.{ended}
use Rattle.rings.proofs.Needs.{laws}
use Rattle.rings.proofs.to_end.Goals as goal

pub detach-requires : goal.detach-requires
detach-requires c = search laws

pub insert-requires : goal.insert-requires
insert-requires c = search end_into

pub returns : goal.returns
unfolding ended
returns c = cc

-- `replay::turn` meets its contract. Assumes nothing.
use Rattle.replay.proofs.Laws.{laws}
use Rattle.replay.proofs.turn.Goals as goal

pub refill-n-requires : goal.refill-n-requires
refill-n-requires c = search laws

pub turn-t-requires : goal.turn-t-requires
turn-t-requires c = search laws

pub write-more-requires : goal.write-more-requires
write-more-requires c = search laws

pub returns : goal.returns
returns c = record { stands = search laws; turned_to = search laws }

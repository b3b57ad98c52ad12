-- `replaying::feed` meets its contract. Assumes nothing.
use Rattle.replaying.proofs.Whole.{laws}
use Rattle.replaying.proofs.feed.Goals as goal

pub begin-requires : goal.begin-requires
begin-requires c = search laws

pub go_on-requires : goal.go_on-requires
go_on-requires c = search laws

pub returns-in-Start : goal.returns-in-Start
returns-in-Start c = search laws

pub returns-in-Running : goal.returns-in-Running
returns-in-Running c = search laws

pub returns-in-Ended : goal.returns-in-Ended
returns-in-Ended c = search laws

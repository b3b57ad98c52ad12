-- `ghosts::record` meets its contract. The cell is in a ring, spare or not; the count steps where it was spare. Assumes nothing.
use Rattle.ghosts.proofs.Needs.{asks_pick, asks_front, gives_spare, gives_oldest}
use Rattle.ghosts.proofs.record.Goals as goal

pub pick-e-requires : goal.pick-e-requires
pick-e-requires c = search asks_pick

pub to_front-requires : goal.to_front-requires
to_front-requires c = search asks_front

pub returns-then-n-c : goal.returns-then-n-c
returns-then-n-c c = search gives_spare

pub returns : goal.returns
returns c = search gives_oldest

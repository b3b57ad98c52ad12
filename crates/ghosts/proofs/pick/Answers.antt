-- `ghosts::pick` meets its contract. Each arm is the definition's. Assumes nothing.
use Rattle.ghosts.proofs.Needs.{asks_cells, picks_spare, picks_oldest}
use Rattle.ghosts.proofs.pick.Goals as goal

pub prev-requires : goal.prev-requires
prev-requires c = search asks_cells

pub returns-then-c-n : goal.returns-then-c-n
returns-then-c-n c = search picks_oldest

pub returns : goal.returns
returns c = search picks_spare

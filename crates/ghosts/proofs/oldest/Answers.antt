-- `ghosts::oldest` meets its contract. The sentinel of the list is a cell. Assumes nothing.
use Rattle.ghosts.proofs.Needs.{asks_list}
use Rattle.ghosts.proofs.oldest.Goals as goal

pub prev-requires : goal.prev-requires
prev-requires c = search asks_list

-- `residents::last` meets its contract. The sentinel of the list is a cell. Assumes nothing.
use Rattle.residents.proofs.Needs.{asks_list}
use Rattle.residents.proofs.last.Goals as goal

pub prev-requires : goal.prev-requires
prev-requires c = search asks_list

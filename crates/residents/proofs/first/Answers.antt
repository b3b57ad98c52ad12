-- `residents::first` meets its contract. The sentinel of the list is a cell. Assumes nothing.
use Rattle.residents.proofs.Needs.{asks_list}
use Rattle.residents.proofs.first.Goals as goal

pub next-requires : goal.next-requires
next-requires c = search asks_list

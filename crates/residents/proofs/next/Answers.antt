-- `residents::next` meets its contract. A slot is a cell. Assumes nothing.
use Rattle.residents.proofs.Needs.{asks_slot}
use Rattle.residents.proofs.next.Goals as goal

pub next-requires : goal.next-requires
next-requires c = search asks_slot

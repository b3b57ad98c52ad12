-- `residents::shift_front` meets its contract. The counts lie before the links, so that the links are as they were. Assumes nothing.
use Rattle.residents.proofs.Needs.{asks_front, gives_front}
use Rattle.residents.proofs.shift_front.Goals as goal

pub to_front-requires : goal.to_front-requires
to_front-requires c = search asks_front

pub returns : goal.returns
returns c = search gives_front

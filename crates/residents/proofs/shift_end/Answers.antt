-- `residents::shift_end` meets its contract. The counts lie before the links, so that the links are as they were. Assumes nothing.
use Rattle.residents.proofs.Needs.{asks_end, gives_end}
use Rattle.residents.proofs.shift_end.Goals as goal

pub to_end-requires : goal.to_end-requires
to_end-requires c = search asks_end

pub returns : goal.returns
returns c = search gives_end

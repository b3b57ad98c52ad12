-- `residents::check_ring` meets its contract. The test is that of the ring with the list's count. Assumes nothing.
use Rattle.residents.proofs.Checking.{ring_is}
use Rattle.residents.proofs.Needs.{asks_walk}
use Rattle.residents.proofs.check_ring.Goals as goal

pub check-requires : goal.check-requires
check-requires c = search asks_walk

pub returns : goal.returns
returns c = search ring_is

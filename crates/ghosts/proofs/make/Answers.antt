-- `ghosts::make` meets its contract. What the calls ask is the room for the list. Assumes nothing.
use Rattle.ghosts.proofs.Needs.{asks_list, asks_fill, gives_made}
use Rattle.ghosts.proofs.make.Goals as goal

pub empty-requires : goal.empty-requires
empty-requires c = search asks_list

pub fill-requires : goal.fill-requires
fill-requires c = search asks_fill

pub returns : goal.returns
returns c = search gives_made

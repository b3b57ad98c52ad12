-- `residents::make` meets its contract. The counts lie before the links. Assumes nothing.
use Rattle.residents.proofs.Making.{gives_made}
use Rattle.residents.proofs.make.Goals as goal

pub returns : goal.returns
returns c = search gives_made

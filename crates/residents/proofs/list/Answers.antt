-- `residents::list` meets its contract. The word of the slot is there. Assumes nothing.
use Rattle.residents.specs.Residents.{list_of}
use borrow.Author.Rules.{rules}
use Rattle.residents.proofs.list.Goals as goal

pub returns : goal.returns
unfolding list_of
returns c = search rules

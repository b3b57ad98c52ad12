-- `residents::set_list` meets its contract. The word of the slot is there. Assumes nothing.
use Rattle.residents.specs.Changes.{with_list}
use borrow.Author.Rules.{rules}
use Rattle.residents.proofs.set_list.Goals as goal

pub returns : goal.returns
unfolding with_list
returns c = search rules

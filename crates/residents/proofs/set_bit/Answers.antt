-- `residents::set_bit` meets its contract. The word of the slot is there. Assumes nothing.
use Rattle.residents.specs.Changes.{with_bit}
use borrow.Author.Rules.{rules}
use Rattle.residents.proofs.set_bit.Goals as goal

pub returns : goal.returns
unfolding with_bit
returns c = search rules

-- `residents::bit` meets its contract. The word of the slot is there. Assumes nothing.
use Rattle.residents.specs.Residents.{bit_of}
use borrow.Author.Rules.{rules}
use Rattle.residents.proofs.bit.Goals as goal

pub returns : goal.returns
unfolding bit_of
returns c = search rules

-- `residents::set_frame` meets its contract. The word of the slot is there. Assumes nothing.
use Rattle.residents.specs.Changes.{with_frame}
use borrow.Author.Rules.{rules}
use Rattle.residents.proofs.set_frame.Goals as goal

pub returns : goal.returns
unfolding with_frame
returns c = search rules

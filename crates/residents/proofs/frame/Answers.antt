-- `residents::frame` meets its contract. The word of the slot is there. Assumes nothing.
use Rattle.residents.specs.Residents.{frame_of}
use borrow.Author.Rules.{rules}
use Rattle.residents.proofs.frame.Goals as goal

pub returns : goal.returns
unfolding frame_of
returns c = search rules

-- `tails::set_prev` meets its contract: what is lent is the tail. Assumes nothing.
use Rattle.tails.proofs.Laws.{lent, back}
use Rattle.tails.proofs.set_prev.Goals as goal

pub set_prev-requires : goal.set_prev-requires
set_prev-requires c = rw lent c.requires.can

pub returns : goal.returns
returns c = rw (c.set_prev.ensures, lent) (back _ _ _)

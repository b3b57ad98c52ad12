-- `tails::prev` meets its contract: what is lent is the tail. Assumes nothing.
use Rattle.tails.proofs.Laws.{lent}
use Rattle.tails.proofs.prev.Goals as goal

pub prev-requires : goal.prev-requires
prev-requires c = rw lent c.requires.can

pub returns : goal.returns
returns c = rw lent at c.prev.ensures

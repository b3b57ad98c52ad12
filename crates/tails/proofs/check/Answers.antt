-- `tails::check` meets its contract: what is lent is the tail. Assumes nothing.
use Rattle.tails.proofs.Laws.{lent}
use Rattle.tails.proofs.check.Goals as goal

pub check-requires : goal.check-requires
check-requires c = rw lent c.requires.can

pub returns : goal.returns
returns c = rw lent at c.check.ensures

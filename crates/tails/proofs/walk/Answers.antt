-- `tails::walk` meets its contract: what is lent is the tail. Assumes nothing.
use Rattle.tails.proofs.Laws.{lent}
use Rattle.tails.proofs.walk.Goals as goal

pub walk-requires-clause-walk : goal.walk-requires-clause-walk
walk-requires-clause-walk g c = rw lent c.requires.walk.can

pub returns : goal.returns
returns g c = rw lent at c.walk.ensures

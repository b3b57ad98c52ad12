-- `tails::insert` meets its contract: what is lent is the tail. Assumes nothing.
use Rattle.tails.proofs.Laws.{lent, back}
use Rattle.tails.proofs.insert.Goals as goal

pub insert-requires : goal.insert-requires
insert-requires c = rw lent c.requires.can

pub returns : goal.returns
returns c = rw (c.insert.ensures, lent) (back _ _ _)

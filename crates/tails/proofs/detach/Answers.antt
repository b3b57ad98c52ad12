-- `tails::detach` meets its contract: what is lent is the tail. Assumes nothing.
use Rattle.tails.proofs.Laws.{lent, back}
use Rattle.tails.proofs.detach.Goals as goal

pub detach-requires : goal.detach-requires
detach-requires c = rw lent c.requires.can

pub returns : goal.returns
returns c = rw (c.detach.ensures, lent) (back _ _ _)

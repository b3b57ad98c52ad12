-- `tails::fill` meets its contract: what is lent is the tail. Assumes nothing.
use Rattle.tails.proofs.Laws.{lent, back}
use Rattle.tails.proofs.fill.Goals as goal

pub fill-requires : goal.fill-requires
fill-requires c = rw lent c.requires.can

pub returns : goal.returns
returns c = rw (c.fill.ensures, lent) (back _ _ _)

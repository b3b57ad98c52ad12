-- `tails::to_front` meets its contract: what is lent is the tail. Assumes nothing.
use Rattle.tails.proofs.Laws.{lent, back}
use Rattle.tails.proofs.to_front.Goals as goal

pub to_front-requires : goal.to_front-requires
to_front-requires c = rw lent c.requires.can

pub returns : goal.returns
returns c = rw (c.to_front.ensures, lent) (back _ _ _)

-- `tails::to_end` meets its contract: what is lent is the tail. Assumes nothing.
use Rattle.tails.proofs.Laws.{lent, back}
use Rattle.tails.proofs.to_end.Goals as goal

pub to_end-requires : goal.to_end-requires
to_end-requires c = rw lent c.requires.can

pub returns : goal.returns
returns c = rw (c.to_end.ensures, lent) (back _ _ _)

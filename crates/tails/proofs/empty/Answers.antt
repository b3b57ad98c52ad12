-- `tails::empty` meets its contract: what is lent is the tail. Assumes nothing.
use Rattle.tails.proofs.Laws.{lent, back}
use Rattle.tails.proofs.empty.Goals as goal

pub empty-requires : goal.empty-requires
empty-requires c = rw lent c.requires.can

pub returns : goal.returns
returns c = rw (c.empty.ensures, lent) (back _ _ _)

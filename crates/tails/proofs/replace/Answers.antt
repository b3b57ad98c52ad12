-- `tails::replace` meets its contract: what is lent is the tail. Assumes nothing.
use Rattle.tails.proofs.Laws.{lent, back}
use Rattle.tails.proofs.replace.Goals as goal

pub replace-requires : goal.replace-requires
replace-requires c = rw lent c.requires.can

pub returns : goal.returns
returns c = rw (c.replace.ensures, lent) (back _ _ _)

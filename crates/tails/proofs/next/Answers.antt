-- `tails::next` meets its contract: what is lent is the tail. Assumes nothing.
use Rattle.tails.proofs.Laws.{lent}
use Rattle.tails.proofs.next.Goals as goal

pub next-requires : goal.next-requires
next-requires c = rw lent c.requires.can

pub returns : goal.returns
returns c = rw lent at c.next.ensures

-- `rings::replace` meets its contract. The second call asks what the change asks of the words after the first. Assumes nothing.
use Rattle.rings.proofs.Needs.{replace_into}
use Rattle.rings.specs.Rings.{replaced}
use Rattle.rings.proofs.Needs.{laws}
use Rattle.rings.proofs.replace.Goals as goal

pub next-n-requires : goal.next-n-requires
next-n-requires c = search laws

pub detach-requires : goal.detach-requires
detach-requires c = search laws

pub insert-requires : goal.insert-requires
insert-requires c = search replace_into

pub returns : goal.returns
unfolding replaced
returns c = cc

-- `rings::to_front` meets its contract. The second call asks what the move asks of the words after the first. Assumes nothing.
use Rattle.rings.proofs.Needs.{front_root, front_places, front_is, laws}
use Rattle.rings.proofs.to_front.Goals as goal

pub detach-requires : goal.detach-requires
detach-requires c = search laws

pub next-f-requires : goal.next-f-requires
next-f-requires c = search front_root

pub place-requires : goal.place-requires
place-requires c = search front_places

pub returns : goal.returns
returns c = front_is _ _ _ _ _ _ c.requires c.detach.ensures c.next-f.ensures c.place.ensures

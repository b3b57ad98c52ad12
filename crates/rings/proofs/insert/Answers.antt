-- `rings::insert` meets its contract: its place is before f, after what stands there. Assumes nothing.
use Rattle.rings.specs.Rings.{inserted}
use Rattle.rings.proofs.Needs.{insert_at_lem, insert_places}
use Rattle.rings.proofs.insert.Goals as goal

pub prev-p-requires : goal.prev-p-requires
prev-p-requires c = search insert_at_lem

pub place-requires : goal.place-requires
place-requires c = search insert_places

pub returns : goal.returns
unfolding inserted
returns c = cc

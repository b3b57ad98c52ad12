-- `inner_calls::insert` meets its contract. Assumes nothing.
use Rattle.inner_calls.proofs.Calling.{insert_nothing}
use Rattle.inner_calls.proofs.Inserting.{whole_room, way_slot, way_can, whole_stays, whole_comes}
use Rattle.inner_calls.proofs.insert.Goals as goal

pub returns-then-c-eq0 : goal.returns-then-c-eq0
returns-then-c-eq0 c = search insert_nothing

pub prepare-requires : goal.prepare-requires
prepare-requires c = search whole_room

pub update-requires : goal.update-requires
update-requires c = search way_slot

pub enter-requires : goal.enter-requires
enter-requires c = search way_can

pub returns-in-Stays : goal.returns-in-Stays
returns-in-Stays c = search whole_stays

pub returns-in-Comes : goal.returns-in-Comes
returns-in-Comes c = search whole_comes

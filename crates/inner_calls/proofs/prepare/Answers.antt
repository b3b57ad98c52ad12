-- `inner_calls::prepare` meets its contract. Assumes nothing.
use Rattle.inner_calls.proofs.Inserting.{way_stays, way_b1, way_b2}
use Rattle.inner_calls.proofs.Laws.{way_comes}
use Rattle.stages.proofs.Entering.{b1_cell, b2_cell}
use Rattle.inner_calls.proofs.prepare.Goals as goal

pub adapt-requires : goal.adapt-requires
adapt-requires c = search b1_cell

pub adapt-requires-in-InB2 : goal.adapt-requires-in-InB2
adapt-requires-in-InB2 c = search b2_cell

pub returns-in-Resident : goal.returns-in-Resident
returns-in-Resident c = search way_stays

pub returns-in-InB1 : goal.returns-in-InB1
returns-in-InB1 c = search way_b1

pub returns-in-InB2 : goal.returns-in-InB2
returns-in-InB2 c = search way_b2

pub returns-in-Nowhere : goal.returns-in-Nowhere
returns-in-Nowhere c = search way_comes

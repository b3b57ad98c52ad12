-- `store::make_place` meets its contract. Assumes nothing.
use Rattle.store.proofs.Placing.{place_asks, place_laws}
use Rattle.store.proofs.make_place.Goals as goal

pub record-g-requires : goal.record-g-requires
record-g-requires c = search place_laws

pub ghost_place-y-requires : goal.ghost_place-y-requires
ghost_place-y-requires c = place_asks _ _ _ c.requires _ _ c.record-g.ensures

pub take-requires : goal.take-requires
take-requires c = search place_laws

pub returns-then-n-c : goal.returns-then-n-c
returns-then-n-c c = search place_laws

pub returns : goal.returns
returns c = search place_laws

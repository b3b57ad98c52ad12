-- `store::enter_front` meets its contract. Assumes nothing.
use Rattle.store.proofs.Entering.{enter_adds, enter_puts, enter_front_left}
use Rattle.store.proofs.Laws.{laws}
use Rattle.store.proofs.enter_front.Goals as goal

pub find-place-requires : goal.find-place-requires
find-place-requires c = search laws

pub add_front-e-requires : goal.add_front-e-requires
add_front-e-requires c = rw c.number-l.ensures (enter_adds _ _ _ _ c.requires)

pub put-requires : goal.put-requires
put-requires c = enter_puts _ _ c.args.j _ c.requires _ c.find-place.ensures _ _ _ c.add_front-e.ensures

pub returns : goal.returns
returns c = enter_front_left _ _ _ _ c.requires _ c.find-place.ensures _ _ _ c.ranges.f.fits _ (rw c.number-l.ensures at c.add_front-e.ensures) _ c.put.ensures

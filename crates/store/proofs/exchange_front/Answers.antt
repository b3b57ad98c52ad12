-- `store::exchange_front` meets its contract. Assumes nothing.
use Rattle.residents.specs.Changes.{added_front}
use Rattle.store.proofs.Exchanging.{exchange_renames, exchange_finds, exchange_slots, exchange_puts, exchange_front_left}
use Rattle.store.proofs.Laws.{laws}
use Rattle.store.proofs.exchange_front.Goals as goal

pub rename-requires : goal.rename-requires
rename-requires c = search exchange_renames

pub find-place-requires : goal.find-place-requires
find-place-requires c = search exchange_finds

pub exchange_front-requires : goal.exchange_front-requires
exchange_front-requires c = rw c.number-l.ensures (exchange_slots _ _ _ _ _ c.requires _ _ c.make_place-y.ensures _ c.rename.ensures _)

pub put-requires : goal.put-requires
put-requires c = exchange_puts _ _ _ _ _ c.requires _ _ c.make_place-y.ensures _ c.rename.ensures _ c.find-place.ensures _ (added_front _ _ _ _) c.exchange_front.ensures

pub returns : goal.returns
returns c = record { left = exchange_front_left _ _ _ _ _ c.requires _ _ c.make_place-y.ensures _ c.rename.ensures _ _ c.ranges.f.fits _ _ c.find-place.ensures _ (rw c.number-l.ensures at c.exchange_front.ensures) _ c.put.ensures; out = search laws }

-- `store::drop_oldest` meets its contract. Assumes nothing.
use Rattle.store.proofs.Ghosts.{oldest_fits, oldest_takes}
use Rattle.store.proofs.Laws.{laws}
use Rattle.store.proofs.drop_oldest.Goals as goal

pub forget-requires : goal.forget-requires
forget-requires c = oldest_fits _ _ _ _ c.requires c.oldest-g.ensures

pub ghost_place-y-requires : goal.ghost_place-y-requires
ghost_place-y-requires c = search laws

pub take-requires : goal.take-requires
take-requires c = oldest_takes _ _ _ _ c.requires c.oldest-g.ensures _ c.forget.ensures _ c.ghost_place-y.ensures

pub returns : goal.returns
returns c = search laws

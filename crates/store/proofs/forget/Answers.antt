-- `store::forget` meets its contract. Assumes nothing.
use Rattle.store.proofs.Ghosts.{forget_fits}
use Rattle.store.proofs.Laws.{laws}
use Rattle.store.proofs.forget.Goals as goal

pub forget-requires : goal.forget-requires
forget-requires c = forget_fits _ _ _ _ _ c.requires

pub ghost_place-y-requires : goal.ghost_place-y-requires
ghost_place-y-requires c = search laws

pub take-requires : goal.take-requires
take-requires c = search laws

pub returns : goal.returns
returns c = search laws

-- `store::to_front` meets its contract. Assumes nothing.
use Rattle.store.proofs.Laws.{laws}
use Rattle.store.proofs.to_front.Goals as goal

pub promote-requires : goal.promote-requires
promote-requires c = search laws

pub returns : goal.returns
returns c = search laws

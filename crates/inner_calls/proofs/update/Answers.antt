-- `inner_calls::update` meets its contract. Assumes nothing.
use Rattle.inner_calls.proofs.Updating.{update_slot, updates}
use Rattle.inner_calls.proofs.update.Goals as goal

pub touch-requires : goal.touch-requires
touch-requires c = update_slot _ _ _ _ c.requires _ c.set_frame.ensures

pub returns : goal.returns
returns c = search updates

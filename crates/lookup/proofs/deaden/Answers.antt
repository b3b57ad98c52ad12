use Rattle.lookup.proofs.Needs.{looping}
use Rattle.lookup.proofs.deaden.Goals as goal

pub loop-i-init : goal.loop-i-init
loop-i-init c = search looping

pub set_prev-requires : goal.set_prev-requires
set_prev-requires c = search looping

pub loop-i-preserved : goal.loop-i-preserved
loop-i-preserved c = search looping

use Rattle.lookup.proofs.Needs.{looping}
use Rattle.lookup.proofs.clear.Goals as goal

pub loop-i-init : goal.loop-i-init
loop-i-init c = search looping

pub empty-requires : goal.empty-requires
empty-requires c = search looping

pub loop-i-preserved : goal.loop-i-preserved
loop-i-preserved c = search looping

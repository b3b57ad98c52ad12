use Rattle.rings.proofs.Filling.{laws}
use Rattle.rings.proofs.fill.Goals as goal

pub loop-i-init : goal.loop-i-init
loop-i-init c = search laws

pub link-requires : goal.link-requires
link-requires c = search laws

pub loop-i-preserved : goal.loop-i-preserved
loop-i-preserved c = search laws

pub link-requires-2 : goal.link-requires-2
link-requires-2 c = search laws

pub returns : goal.returns
returns c = search laws

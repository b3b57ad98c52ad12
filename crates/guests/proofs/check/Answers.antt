use Rattle.guests.proofs.Laws.{laws}
use Rattle.guests.proofs.check.Goals as goal

pub loop-guest-init : goal.loop-guest-init
loop-guest-init c = search laws

pub ready-requires : goal.ready-requires
ready-requires c = search laws

pub returns-then-not-ready : goal.returns-then-not-ready
returns-then-not-ready c = search laws

pub loop-guest-smaller : goal.loop-guest-smaller
loop-guest-smaller c = search laws

pub loop-guest-preserved : goal.loop-guest-preserved
loop-guest-preserved c = search laws

pub returns : goal.returns
returns c = search laws

use Rattle.trace.proofs.Checks.{laws}
use Rattle.trace.proofs.check.Goals as goal

pub loop-cursor-smaller : goal.loop-cursor-smaller
loop-cursor-smaller c = search laws

pub loop-cursor-preserved : goal.loop-cursor-preserved
loop-cursor-preserved c = search laws

pub returns-in-End : goal.returns-in-End
returns-in-End c = search laws

pub returns-in-Refused : goal.returns-in-Refused
returns-in-Refused c = search laws

use Rattle.lookup.proofs.Finding.{laws}
use Rattle.lookup.proofs.find.Goals as goal

pub overflow_add-s : goal.overflow_add-s
overflow_add-s c = search laws

pub loop-cur-init : goal.loop-cur-init
loop-cur-init c = search laws

pub next_of-cur-requires-then-w-cur : goal.next_of-cur-requires-then-w-cur
next_of-cur-requires-then-w-cur c = search laws

pub loop-cur-smaller : goal.loop-cur-smaller
loop-cur-smaller c = search laws

pub loop-cur-preserved : goal.loop-cur-preserved
loop-cur-preserved c = search laws

pub returns-else-w-cur : goal.returns-else-w-cur
returns-else-w-cur c = search laws

pub returns : goal.returns
returns c = search laws

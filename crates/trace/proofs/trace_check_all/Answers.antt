-- `trace::trace_check_all` meets its contract. Assumes nothing.
use Rattle.trace.proofs.Answers.{laws}
use Rattle.trace.proofs.trace_check_all.Goals as goal

pub returns-then-out-lt3 : goal.returns-then-out-lt3
returns-then-out-lt3 c = search laws

pub returns : goal.returns
returns c = search laws

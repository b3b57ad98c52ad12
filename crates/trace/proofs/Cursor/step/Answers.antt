-- `trace::Cursor::step` meets its contract: the rest of the trace from the cursor on is what `drop` leaves of it. Assumes nothing.
use Rattle.trace.proofs.Arms.{laws}
use Rattle.trace.proofs.Cursor.step.Goals as goal

pub returns-then-trace-at : goal.returns-then-trace-at
returns-then-trace-at c = search laws

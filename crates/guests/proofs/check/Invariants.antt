-- `guests::check` meets its contract: the guests so far are ready. Assumes nothing.
use Rattle.guests.proofs.Laws.{CheckedTo}
use Rattle.guests.proofs.check.Given as goal

abbrev pub invariant-loop-guest : goal.invariant-loop-guest
invariant-loop-guest l = CheckedTo l.words l.guest

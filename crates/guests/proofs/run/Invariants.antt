-- `guests::run` meets its contract: the invariant is that the requests so far did what the rules say, each on its own guest. Assumes nothing.
use Rattle.guests.proofs.Laws.{RunTo}
use Rattle.guests.proofs.run.Given as goal

abbrev pub invariant-loop-i : goal.invariant-loop-i
invariant-loop-i l = RunTo l.guests l.pages l.frames l.initial.words l.words l.n l.i

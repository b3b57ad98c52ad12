-- `replaying::go_on` meets its contract. Assumes nothing.
use Rattle.replaying.proofs.Whole.{laws}
use Rattle.replaying.proofs.go_on.Goals as goal

pub overflow_sub-countable : goal.overflow_sub-countable
overflow_sub-countable c = search laws

pub returns-then-countable-given : goal.returns-then-countable-given
returns-then-countable-given c = search laws

pub run-requires : goal.run-requires
run-requires c = search laws

pub returns : goal.returns
returns c = search laws

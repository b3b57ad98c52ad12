-- `bench_calls::timed_check` meets its contract, by the laws of Laws.antt. Assumes nothing.
use Rattle.bench_calls.proofs.Laws.{laws}
use Rattle.bench_calls.proofs.timed_check.Goals as goal

pub check-requires : goal.check-requires
check-requires c = search laws

pub returns-then-check : goal.returns-then-check
returns-then-check c = search laws

pub returns : goal.returns
returns c = search laws

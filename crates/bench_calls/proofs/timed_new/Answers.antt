-- `bench_calls::timed_new` meets its contract, by the laws of Laws.antt. Assumes nothing.
use Rattle.bench_calls.proofs.Laws.{laws}
use Rattle.bench_calls.proofs.timed_new.Goals as goal

pub returns-in-Ok : goal.returns-in-Ok
returns-in-Ok c = search laws

pub returns-in-Err : goal.returns-in-Err
returns-in-Err c = search laws

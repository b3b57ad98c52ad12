-- `bench_calls::timed_get` meets its contract, by the laws of Laws.antt. Assumes nothing.
use Rattle.bench_calls.proofs.Laws.{laws}
use Rattle.bench_calls.proofs.timed_get.Goals as goal

pub returns-in-Ok-Some : goal.returns-in-Ok-Some
returns-in-Ok-Some c = search laws

pub returns-in-Ok-None : goal.returns-in-Ok-None
returns-in-Ok-None c = search laws

pub returns-in-Err : goal.returns-in-Err
returns-in-Err c = search laws

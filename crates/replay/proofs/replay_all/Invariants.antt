-- `replay::replay_all` meets its contract. The loop's invariant: the replay can go on, and turns one after the other led to where it stands.
-- Assumes nothing.
use Rattle.replay.proofs.Laws.{Going}
use Rattle.replay.proofs.replay_all.Given as goal

abbrev pub invariant-loop : goal.invariant-loop
invariant-loop l = Going l.initial.area l.initial.bytes l.initial.out l.s l.area l.bytes l.out l.counter

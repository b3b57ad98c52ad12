-- `numbers::read_long` meets its contract. The loop's invariant: what was read so far, in front of what the definition says of the rest, is the whole
-- answer. Assumes nothing.
use Rattle.numbers.proofs.Loop.{Turn}
use Rattle.numbers.proofs.read_long.Given as goal

abbrev pub invariant-loop-at : goal.invariant-loop-at
invariant-loop-at l = Turn l.most l.limit l.s l.last l.value l.scale l.at

-- `stages::turn` meets its contract. Assumes nothing.
use Rattle.stages.proofs.Turning.{turn_first, turn_second}
use Rattle.stages.proofs.turn.Goals as goal

pub returns-then-prefers_t1 : goal.returns-then-prefers_t1
returns-then-prefers_t1 c = search turn_first

pub returns : goal.returns
returns c = search turn_second

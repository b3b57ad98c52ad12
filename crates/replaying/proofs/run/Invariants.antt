-- `replaying::run` meets its contract. The loop's invariant: what was still to be told at the start is the lines in the buffer, and then what is still to be
-- told. The measure is the bytes that are left. Assumes nothing.
use Prim.Native.Nat.{◌-◌}
use lib.ListN.{length}
use Rattle.replaying.proofs.Operating.{RunTo}
use Rattle.replaying.proofs.run.Given as goal

abbrev pub invariant-loop-at : goal.invariant-loop-at
invariant-loop-at l = RunTo l.fn.r l.initial.area l.bytes l.last l.initial.out l.need l.area l.out l.at l.n l.put

abbrev pub decreases-loop-at : goal.decreases-loop-at
decreases-loop-at l = length l.bytes - l.at

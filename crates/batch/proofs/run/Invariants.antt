-- `batch::run` meets its contract: what was done so far, with the run of the rest of the trace, is the batch of the whole. The measure is the bytes that are left.
-- Assumes nothing.
use Prim.Native.Nat.{◌-◌}
use lib.ListN.{length}
use Rattle.batch.proofs.Turning.{RunTo}
use Rattle.batch.proofs.run.Given as goal

abbrev pub invariant-loop-op : goal.invariant-loop-op
invariant-loop-op l = RunTo l.kind l.c l.trace l.initial.area l.area l.cursor.at l.done l.counts

abbrev pub decreases-loop-op : goal.decreases-loop-op
decreases-loop-op l = length l.trace - l.cursor.at

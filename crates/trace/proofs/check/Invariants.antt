-- `trace::check` meets its contract: what was counted so far, with the reading of the rest, is the answer for the whole. The measure is the bytes that
-- are left. Assumes nothing.
use Prim.Native.Nat.{◌-◌}
use lib.ListN.{length}
use Rattle.trace.proofs.Checks.{ReadTo}
use Rattle.trace.proofs.check.Given as goal

abbrev pub invariant-loop-cursor : goal.invariant-loop-cursor
invariant-loop-cursor l = ReadTo l.trace l.operations l.cursor.at

abbrev pub decreases-loop-cursor : goal.decreases-loop-cursor
decreases-loop-cursor l = length l.trace - l.cursor.at

-- `pace::run_pieces`: the area is ready. Assumes nothing.
use Rattle.std.proofs.Common.{◌≡◌, length}
use Rattle.pace.specs.Ready.{Ready}
use Rattle.pace.proofs.run_pieces.Given as goal

abbrev pub invariant-loop-piece : goal.invariant-loop-piece
invariant-loop-piece l = (Ready l.kind l.c l.area) × (length l.area ≡ length l.initial.area)

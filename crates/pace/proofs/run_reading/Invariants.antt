-- `pace::run_reading`: the area is ready. Assumes nothing.
use Rattle.std.proofs.Common.{◌≡◌, length}
use Rattle.pace.specs.Ready.{Ready}
use Rattle.pace.proofs.run_reading.Given as goal

abbrev pub invariant-loop : goal.invariant-loop
invariant-loop l =
    (Ready l.kind l.c l.area)
    × (length l.area ≡ length l.initial.area)
    × (length l.bytes ≡ length l.initial.bytes)

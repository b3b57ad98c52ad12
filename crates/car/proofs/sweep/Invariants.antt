-- `car::sweep` meets its contract. The loop's invariant: the replacement of the area as it was is the steps so far, and then the replacement of the area as it is. The measure is how many are referenced. Assumes nothing.
use Rattle.rules.specs.Car.{referenced}
use Rattle.area.specs.Stored.{state_in}
use Rattle.car.proofs.Replacing.{Sweeps}
use Rattle.car.proofs.sweep.Given as goal

abbrev pub invariant-loop-side : goal.invariant-loop-side
invariant-loop-side l = Sweeps l.c l.initial.area l.area l.in_b2 l.steps

abbrev pub decreases-loop-side : goal.decreases-loop-side
decreases-loop-side l = referenced (state_in l.c l.area).lists

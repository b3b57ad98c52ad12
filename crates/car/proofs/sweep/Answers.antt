-- `car::sweep` meets its contract. Assumes nothing.
use Rattle.car.proofs.Replacing.{sweep_starts, sweep_small, sweep_falls, sweep_again, sweep_ends}
use Rattle.car.proofs.sweep.Goals as goal

pub loop-side-init : goal.loop-side-init
loop-side-init c = search sweep_starts

pub overflow_add-steps : goal.overflow_add-steps
overflow_add-steps c = search sweep_small

pub loop-side-smaller : goal.loop-side-smaller
loop-side-smaller c = search sweep_falls

pub loop-side-preserved : goal.loop-side-preserved
loop-side-preserved c = search sweep_again

pub returns-in-Some : goal.returns-in-Some
returns-in-Some c = search sweep_ends

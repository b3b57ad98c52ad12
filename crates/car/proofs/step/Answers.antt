-- `car::step` meets its contract. Assumes nothing.
use Rattle.car.proofs.Replacing.{step_passes, step_meets}
use Rattle.car.proofs.step.Goals as goal

pub returns-then-referenced : goal.returns-then-referenced
returns-then-referenced c = search step_passes

pub returns : goal.returns
returns c = search step_meets

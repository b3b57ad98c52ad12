-- Both policies are lawful. Assumes nothing.
use Rattle.contracts.specs.Policy.{policy_of}
use Rattle.rules.specs.declared.Kind.{Kind}
use Rattle.rules.specs.declared.Kind.TheVariants as kinds
use Rattle.stages.proofs.Lawful.{Lawful}
use Rattle.arc.proofs.Calling.{lawful as arc_lawful}
use Rattle.car.proofs.Calling.{lawful as car_lawful}
use Rattle.inner_calls.specs.Kinds.{stages_of}

pub lawful : (K : Kind) → Lawful (policy_of K) (stages_of K)
lawful kinds.Arc = arc_lawful
lawful kinds.Car = car_lawful

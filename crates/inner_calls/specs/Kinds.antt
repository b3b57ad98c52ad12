-- What differs between the policies, by the kind. Assumes nothing.
use Rattle.rules.specs.Arc.{trimmed}
use Rattle.contracts.specs.Policy.{policy_of}
use Rattle.rules.specs.declared.Kind.{Kind}
use Rattle.rules.specs.declared.Kind.TheVariants as kinds
use Rattle.stages.specs.Stages.{Stages}
use Rattle.arc.specs.Insert as arc
use Rattle.car.specs.Insert as car

abbrev pub stages_of : (k : Kind) → Stages (policy_of k)
stages_of kinds.Arc = arc.stages
stages_of kinds.Car = car.stages

-- what comes before a plain miss
abbrev pub trimmed_of : (k : Kind) → (policy_of k).State → (policy_of k).State
trimmed_of kinds.Arc s = trimmed s
trimmed_of kinds.Car s = s

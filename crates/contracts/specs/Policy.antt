-- A policy, as the calls see it: what of an area's state it looks at, and its rules. Assumes nothing.
use Rattle.std.specs.Prelude.{cond, List, ℕ}
use Rattle.std.proofs.Math.Option.{Option, some, none}
use Rattle.rules.specs.Calls.{Call, Done, Record}
use Rattle.rules.specs.Arc as arc
use Rattle.rules.specs.Car as car
use Rattle.rules.specs.Car.{Car}
use Rattle.area.specs.Area.{capacity_of}
use Rattle.area.specs.Stored.{state_in, arc_of}
use Rattle.state_check.specs.Check.{state_test}
use Rattle.rules.specs.declared.Kind.{Kind}
use Rattle.rules.specs.declared.Kind.TheVariants as kinds

pub record Policy : Type 1 where
  -- its states, and its view of the state that an area holds
  pub State : Type 0
  pub view : Car → State
  -- its kind in the header
  pub kind : ℕ
  -- its rules: an empty state of a capacity, the calls, the order of a listing, and what a state must obey
  pub new : ℕ → State
  pub does : Call → State → Done State
  pub listing : State → List Record
  pub WellFormed : State → Type 0

-- ARC, which forgets slots, bits and the order of the free slots; CAR, which sees all
abbrev pub arc_policy : Policy
arc_policy = record { State = arc.Arc; view = arc_of; kind = 1; new = arc.new; does = arc.does; listing = arc.listing; WellFormed = arc.WellFormed }

abbrev pub car_policy : Policy
car_policy = record { State = Car; view = λ s. s; kind = 2; new = car.new; does = car.does; listing = car.listing; WellFormed = car.WellFormed }

abbrev pub policy_of : Kind → Policy
policy_of kinds.Arc = arc_policy
policy_of kinds.Car = car_policy

module _ (P : Policy) where
  -- the state of an area of capacity c, in the policy's view
  abbrev pub state_of : ℕ → List ℕ → P.State
  state_of c w = P.view (state_in c w)

  -- what any words read as: a well-formed state of the policy, or nothing
  unfoldable pub reads : List ℕ → Option P.State
  reads w = cond (state_test P.kind w) (some (state_of (capacity_of w) w)) none

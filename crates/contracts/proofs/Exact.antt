-- What the calls need of a policy: the state test of its kind tells its well-formed states from all other words, an empty cache is its `new`, no call changes the
-- capacity, none is refused with 3, and a question changes nothing. ARC and CAR have it. Assumes nothing.
use mathlib.Core.Path.{◌≡◌, refl, ap}
use mathlib.Core.Bool.{true, false}
use mathlib.Core.List.{List}
use Prim.Native.Nat.{ℕ, ◌≤◌}
use Rattle.rules.specs.State.{max_capacity}
use Rattle.rules.specs.Calls.{Call, Question, Capacity, Ask, Number, asked}
use Rattle.rules.specs.Arc as arc
use Rattle.rules.specs.Car as car
use Rattle.rules.specs.Car.{Car}
use Rattle.rules.proofs.Closure.{arc_new, car_new}
use Rattle.area.specs.Area.{capacity_of}
use Rattle.area.specs.Stored.{arc_of, Writes}
use Rattle.state_check.specs.Check.{Words, state_test}
use Rattle.state_check.proofs.State.{arc_sound, car_sound, arc_complete, car_complete}
use Rattle.contracts.specs.Policy.{Policy, arc_policy, car_policy, policy_of, state_of}
use Rattle.rules.specs.declared.Kind.{Kind}
use Rattle.rules.specs.declared.Kind.TheVariants as kinds
use Rattle.contracts.proofs.Capacity.{arc_keeps, car_keeps}
use Rattle.contracts.proofs.Accepting.{is3, arc_accepts, car_accepts}

pub record Exact (P : Policy) : Type 0 where
  pub sound : (w : List ℕ) → Words w → state_test P.kind w ≡ true → P.WellFormed (state_of P (capacity_of w) w)
  pub complete : (w : List ℕ) (s : Car) → Writes P.kind w s → P.WellFormed (P.view s) → state_test P.kind w ≡ true
  pub new_is : (c : ℕ) → P.view (car.new c) ≡ P.new c
  pub new_well : (c : ℕ) → c ≤ max_capacity → P.WellFormed (P.new c)
  pub capacity : (s : Car) → (P.does (Ask Capacity) (P.view s)).answer ≡ Number s.lists.c
  pub keeps : (k : Call) (s : P.State) → (P.does (Ask Capacity) (P.does k s).state).answer ≡ (P.does (Ask Capacity) s).answer
  pub accepts : (k : Call) (s : P.State) → is3 (P.does k s).answer ≡ false
  pub asks : (q : Question) (s : P.State) → (P.does (Ask q) s).state ≡ s

arc_new_is : (c : ℕ) → arc_of (car.new c) ≡ arc.new c
unfolding arc_of arc.new car.new
arc_new_is c = refl

arc_capacity : (s : Car) → (arc.does (Ask Capacity) (arc_of s)).answer ≡ Number s.lists.c
unfolding arc.does asked arc_of
arc_capacity s = refl

arc_same_lem : (k : Call) (s : arc.Arc) → (arc.does (Ask Capacity) (arc.does k s).state).answer ≡ (arc.does (Ask Capacity) s).answer
unfolding arc.does asked
arc_same_lem k s = ap Number (arc_keeps k s)

arc_asks : (q : Question) (s : arc.Arc) → (arc.does (Ask q) s).state ≡ s
unfolding arc.does
arc_asks q s = refl

pub arc_exact : Exact arc_policy
arc_exact = record { sound = λ w words q. (arc_sound w words q).1; complete = arc_complete; new_is = arc_new_is; new_well = arc_new; capacity = arc_capacity; keeps = arc_same_lem; accepts = arc_accepts; asks = arc_asks }

car_capacity : (s : Car) → (car.does (Ask Capacity) s).answer ≡ Number s.lists.c
unfolding car.does asked
car_capacity s = refl

car_same_lem : (k : Call) (s : Car) → (car.does (Ask Capacity) (car.does k s).state).answer ≡ (car.does (Ask Capacity) s).answer
unfolding car.does asked
car_same_lem k s = ap Number (car_keeps k s)

car_asks : (q : Question) (s : Car) → (car.does (Ask q) s).state ≡ s
unfolding car.does
car_asks q s = refl

pub car_exact : Exact car_policy
car_exact = record { sound = λ w words q. (car_sound w words q).1; complete = car_complete; new_is = λ c. refl; new_well = car_new; capacity = car_capacity; keeps = car_same_lem; accepts = car_accepts; asks = car_asks }

-- by the kind
pub exact_of : (k : Kind) → Exact (policy_of k)
exact_of kinds.Arc = arc_exact
exact_of kinds.Car = car_exact

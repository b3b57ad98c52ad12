-- Closure: `new` makes a well-formed state, every call on a well-formed state leaves one, and so does every run of calls: both
-- policies, any page and frame, capacities 0 to 1,024. Assumes nothing.
use mathlib.Core.List.{List, [], ◌∷◌}
use Prim.Native.Nat.{ℕ, ◌≤◌}
use Rattle.rules.specs.Lists.{Each}
use Rattle.rules.specs.State.{max_capacity}
use Rattle.rules.specs.Calls.{Call, InRange, Done, run}
use Rattle.rules.specs.Arc
use Rattle.rules.specs.Car
use Rattle.rules.proofs.Ranges.{empty_ranged, arc_ranged, car_ranged}
use Rattle.rules.proofs.ClosureArc
use Rattle.rules.proofs.ClosureCar

-- ---- one call
pub arc_new : (c : ℕ) → c ≤ max_capacity → Arc.WellFormed (Arc.new c)
unfolding Arc.new
arc_new c k = record { obeys = ClosureArc.new_obeys c; ranged = empty_ranged c k }

pub car_new : (c : ℕ) → c ≤ max_capacity → Car.WellFormed (Car.new c)
unfolding Car.new
car_new c k = record { obeys = ClosureCar.new_obeys c; ranged = empty_ranged c k }

pub arc_call : (k : Call) (s : Arc.Arc) → InRange k → Arc.WellFormed s → Arc.WellFormed (Arc.does k s).state
arc_call k s h w = record { obeys = ClosureArc.does_obeys k s w.obeys; ranged = arc_ranged k s h w.ranged }

pub car_call : (k : Call) (s : Car.Car) → InRange k → Car.WellFormed s → Car.WellFormed (Car.does k s).state
car_call k s h w = record { obeys = ClosureCar.does_obeys k s w.obeys; ranged = car_ranged k s h w.ranged }

-- ---- a run of calls: what every call keeps, a run keeps
run_keeps : {S : Type 0} (does : Call → S → Done S) (P : S → Type 0) → ((k : Call) (s : S) → InRange k → P s → P (does k s).state)
    → (ks : List Call) (s : S) → Each InRange ks → P s → P (run does ks s).state
unfolding run
run_keeps does P h [] s r p = p
run_keeps does P h (k ∷ ks) s r p = run_keeps does P h ks (does k s).state r.1 (h k s r.0 p)

pub arc_run : (ks : List Call) (s : Arc.Arc) → Each InRange ks → Arc.WellFormed s → Arc.WellFormed (run Arc.does ks s).state
arc_run = run_keeps Arc.does Arc.WellFormed arc_call

pub car_run : (ks : List Call) (s : Car.Car) → Each InRange ks → Car.WellFormed s → Car.WellFormed (run Car.does ks s).state
car_run = run_keeps Car.does Car.WellFormed car_call

-- What a listing reads of an area: the plan, and one resident after the other. Assumes nothing.
use Rattle.std.specs.Prelude.{◌≡◌, cond, List, map, ℕ, suc, ◌<◌, ltb, length, get_or, Result, Ok, Err}
use Rattle.refusals.specs.declared.Refusal.{Refusal}
use Rattle.refusals.specs.declared.Refusal.TheVariants.{State, Room}
use Rattle.rules.specs.Car.{Car}
use Rattle.area_state.specs.States.{resident_at}
use Rattle.area.specs.Area.{capacity_of}
use Rattle.area.specs.Stored.{Stored, state_in}
use Rattle.state_check.specs.Check.{state_test}
use Rattle.contracts.specs.Policy.{policy_of}
use Rattle.rules.specs.declared.Kind.{Kind}
use Rattle.listing.specs.Order.{order, past}
use Rattle.listing.specs.declared.Record.{Record}
use Rattle.listing.specs.declared.Plan.{Plan}
use Rattle.listing.specs.declared.Step.{Step}

-- the slots of an area of capacity c in the order of its listing
abbrev pub order_in : Kind → ℕ → List ℕ → List ℕ
order_in kind c w = order kind (state_in c w)

-- the resident of a slot as a record; the records of a listing
unfoldable pub record_at : Car → ℕ → Record
record_at s e = record { page = (resident_at e s).page; frame = (resident_at e s).frame }

unfoldable pub records_in : Kind → List ℕ → List Record
records_in kind w = map (record_at (state_in (capacity_of w) w)) (order_in kind (capacity_of w) w)

-- the plan of a listing that is accepted: as many records as there are residents, from the first slot on
abbrev pub accepted : ℕ → List ℕ → Plan
accepted d l = record { count = length l; first = get_or l 0 d }

-- THE PLAN of a listing into so many records: refusal 3 before refusal 6
unfoldable pub plan_of : Kind → List ℕ → ℕ → Result Plan Refusal
plan_of kind w room =
    let l = order_in kind (capacity_of w) w in
    cond (state_test (policy_of kind).kind w)
    (cond (ltb room (length l)) (Err Room) (Ok (accepted (past kind (capacity_of w)) l)))
    (Err State)

-- slot e is one of the listing's
pub record StandsIn (kind : Kind) (c : ℕ) (w : List ℕ) (e : ℕ) : Type 0 where
  pub stored : Stored c w
  pub place : ℕ
  pub less : place < length (order_in kind c w)
  pub at : get_or (order_in kind c w) place 0 ≡ e

abbrev pub Stands : Kind → List ℕ → ℕ → Type 0
Stands kind w e = StandsIn kind (capacity_of w) w e

-- n comes after slot e
pub record Follows (kind : Kind) (c : ℕ) (w : List ℕ) (e n : ℕ) : Type 0 where
  pub next : (j : ℕ) → j < length (order_in kind c w) → get_or (order_in kind c w) j 0 ≡ e → n ≡ get_or (order_in kind c w) (suc j) (past kind c)

-- THE STEP: the resident of slot e, and what comes after it
pub record StepIs (kind : Kind) (w : List ℕ) (e : ℕ) (r : Step) : Type 0 where
  pub resident : r.resident ≡ record_at (state_in (capacity_of w) w) e
  pub follows : Follows kind (capacity_of w) w e r.next

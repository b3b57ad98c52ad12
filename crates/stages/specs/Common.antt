-- What the code that both policies share asks and answers. Assumes nothing.
use Rattle.std.specs.Prelude.{◌≡◌, Bool, List, ℕ, ◌<◌, ◌≤◌, Option, Some, None}
use Rattle.std.proofs.Math.Option.{some, none}
use Rattle.rules.specs.State.{residents, resident}
use Rattle.rules.specs.declared.Side.{Side}
use Rattle.rules.specs.Stages.{aimed, ghost_hit, turn}
use Rattle.rules.specs.Car.{Car, car}
use Rattle.area_state.specs.States.{resident_at}
use Rattle.area.specs.Stored.{Stored, state_in}
use Rattle.store.specs.Store.{IsSlot}

-- the slot of a page's resident, if there is one
abbrev pub SlotIs : ℕ → List ℕ → ℕ → Option ℕ → Type 0
SlotIs c w x (Some e) = IsSlot c w e × (resident x (state_in c w).lists ≡ some (resident_at e (state_in c w)))
SlotIs c w x None = resident x (state_in c w).lists ≡ none

-- the target that a ghost hit of a side moves to
pub record AimIs (c : ℕ) (w : List ℕ) (i : Side) (r : ℕ) : Type 0 where
  pub is : r ≡ aimed i (state_in c w).lists
  pub low : r ≤ c

-- the state after a ghost hit
abbrev pub hit_at : Side → ℕ → Car → Car
hit_at i x s = car (ghost_hit i x s.lists) s.free

-- an area with a resident
pub record HasResident (c : ℕ) (w : List ℕ) : Type 0 where
  pub stored : Stored c w
  pub some : 0 < residents (state_in c w).lists

-- the side whose list, or clock, the rules replace from
pub record TurnIs (c : ℕ) (w : List ℕ) (hit : Bool) (r : Side) : Type 0 where
  pub is : r ≡ turn hit (state_in c w).lists

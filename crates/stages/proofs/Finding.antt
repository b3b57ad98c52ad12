-- The area as a store: what every call has at hand, and what `find` told, of the case that it is. Assumes nothing.
use mathlib.Core.Path.{◌≡◌, refl, subst, ap, ◌∙◌}
use mathlib.Core.List.{List}
use Prim.Native.Nat.{ℕ, ◌+◌, ◌^◌, ◌<◌, ◌≤◌}
use native.Mathlib.Omega.{arith}
use lib.ListN.{length}
use Rattle.rules.specs.State.{list, residents}
use Rattle.rules.specs.declared.Side.TheVariants.{First as first, Second as second}
use Rattle.rules.specs.Car.{Obeys, Resident as Clocked}
use Rattle.rules.proofs.ClosureCar.{slots_left}
use Rattle.area_state.specs.Parts.{number_of, state_of}
use Rattle.area_state.specs.States.{resident_at}
use Rattle.area_state.proofs.Sides.{number_below}
use Rattle.area_state.proofs.Reading.{resident_at_lem, slot_is, state_obeys}
use Rattle.area.specs.Area.{parts_of, target_of}
use Rattle.area.specs.Stored.{Stored, state_in}
use Rattle.store.specs.Store.{IsSlot, FoundIs}
use Rattle.store.specs.declared.Found.{Found}

-- ---- the area
pub state_c : (c : ℕ) (w : List ℕ) → (state_in c w).lists.c ≡ c
unfolding state_in state_of
state_c c w = refl

pub state_target : (c : ℕ) (w : List ℕ) → (state_in c w).lists.target ≡ target_of w
unfolding state_in state_of parts_of
state_target c w = refl

pub slot_at : (c : ℕ) (w : List ℕ) (e : ℕ) → IsSlot c w e → (resident_at e (state_in c w)).more.slot ≡ e
unfolding state_in
slot_at c w e t = ap (λ (r : Clocked). r.more.slot) (resident_at_lem c (parts_of c w) (number_of t.side) e (number_below t.side) t.slot.member) ∙ slot_is c (parts_of c w) e

module _ (c : ℕ) (w : List ℕ) (s : Stored c w) where
  pub obeys : Obeys (state_in c w)
  unfolding state_in
  obeys = state_obeys c (parts_of c w) s.holds

  pub free_slot : residents (state_in c w).lists < c → 0 < length (state_in c w).free
  free_slot l = omega (arith, slots_left (state_in c w) obeys, state_c c w)

  -- ---- how many are resident
  module _ (m n : ℕ) (p : m ≡ length (list first (state_in c w).lists)) (q : n ≡ length (list second (state_in c w).lists)) where
    pub residents_fit : m + n < 2 ^ 64
    residents_fit = let z : c ≤ 1024 = s.holds.small in omega (arith, obeys.sound.room, state_c c w)

-- ---- the arms of a match
module _ (c : ℕ) (w : List ℕ) (x : ℕ) where
  module _ (r : Found) (h : FoundIs c w x r) where
    pub found_as : (a : Found) → r ≡ a → FoundIs c w x a
    found_as a q = subst (λ (y : Found). FoundIs c w x y) q h

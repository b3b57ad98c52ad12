-- The state is well formed where the pages of the lookup are words. Assumes nothing.
use mathlib.Core.Path.{refl}
use mathlib.Core.Logic.{inl, inr}
use mathlib.Core.List.{List, [], ◌∷◌, map}
use Prim.Native.Nat.{ℕ, ◌*◌, ◌^◌, ◌<◌}
use native.Mathlib.Omega.{arith}
use Rattle.rules.specs.Lists.{Each}
use Rattle.rules.specs.State.{Fits, IsPage, Ranged}
use Rattle.rules.specs.declared.Side.{Side}
use Rattle.rules.specs.declared.Side.TheVariants.{First as first, Second as second}
use Rattle.rules.specs.Car.{WellFormed}
use Rattle.rings.specs.Members.{Mem}
use Rattle.lookup.specs.Part.{page_of}
use Rattle.area_state.specs.Parts.{Parts, ghost_place, Holds, resident_of, ghost_of, state_of}
use Rattle.area_state.proofs.Sides.{place_below}
use Rattle.area_state.proofs.HoldsAs.{named, slots_of, live_in, spare_in}
use Rattle.area_state.proofs.Pages.{slot_below, live_below}
use Rattle.area_state.proofs.Reading.{state_obeys}

each_map : {A : Type 0} (P : A → Type 0) (f : ℕ → A) (xs : List ℕ) → ((x : ℕ) → Mem x xs → P (f x)) → Each P (map f xs)
each_map P f [] h = tt
each_map P f (x ∷ xs) h = (h x (inl refl), each_map P f xs (λ y k. h y (inr k)))

module _ (c : ℕ) (p : Parts) (h : Holds c p) (words : (x : ℕ) → x < 3 * c → page_of p.lookup x < 2 ^ 64) where
  resident_fits : (i x : ℕ) → i < 2 → Mem x (slots_of c p i) → Fits (resident_of c p x)
  unfolding resident_of
  resident_fits i x l k = let b : x < c = slot_below c p (slots_of c p) (live_in c p) (spare_in c p) (named c p h) i x (omega arith) k in (words x (omega arith), (h.residents.slots i x l k).frame)

  ghost_fits : (i : Side) (g : ℕ) → Mem g (live_in c p i) → IsPage (ghost_of i c p g)
  unfolding ghost_of
  ghost_fits i g k = words (ghost_place i c g) (place_below i c g (live_below c p (slots_of c p) (live_in c p) (spare_in c p) (named c p h) i g k))

  pub state_ranged : Ranged (state_of c p).lists
  unfolding state_of
  state_ranged =
      record {
        capacity = h.small;
        recent = each_map (λ e. Fits e) (resident_of c p) (slots_of c p 0) (λ x k. resident_fits 0 x (omega arith) k);
        frequent = each_map (λ e. Fits e) (resident_of c p) (slots_of c p 1) (λ x k. resident_fits 1 x (omega arith) k);
        ghosts1 = each_map IsPage (ghost_of first c p) (live_in c p first) (ghost_fits first);
        ghosts2 = each_map IsPage (ghost_of second c p) (live_in c p second) (ghost_fits second);
      }

  pub state_well_formed : WellFormed (state_of c p)
  state_well_formed = record { obeys = state_obeys c p h; ranged = state_ranged }

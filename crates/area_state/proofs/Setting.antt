-- The target, the frame of a resident and its bit are set. Assumes nothing.
use mathlib.Core.Path.{◌≡◌, refl, sym, ap, ◌∙◌}
use mathlib.Core.List.{List}
use Prim.Native.Nat.{ℕ, ◌^◌, ◌<◌, ◌≤◌}
use native.Mathlib.Omega.{arith}
use lib.Dec.{eqb}
use Rattle.rules.specs.State.{with_frame, changed_in, changed}
use Rattle.rules.specs.declared.Side.{Side}
use Rattle.rules.specs.Car.{Car, car, Resident, with_bit}
use Rattle.rings.specs.Members.{Mem}
use Rattle.residents.specs.Residents.{Residents}
use Rattle.residents.specs.Changes.{with_frame as frame_words, with_bit as bit_words}
use Rattle.residents.proofs.Words.{frame_here, bit_here, same_frame, same_bit, bit_with_frame, frame_with_bit}
use Rattle.residents.proofs.Slots.{set_frame_residents, set_bit_residents}
use Rattle.area_state.specs.Parts.{Parts, set_target, set_residents, number_of, Holds, resident_of, ghost_of, state_of}
use Rattle.area_state.specs.Changes.{framed, marked}
use Rattle.area_state.specs.States.{framed_at, marked_at, aimed_at}
use Rattle.area_state.proofs.Maps.{changed_map}
use Rattle.area_state.proofs.Sides.{number_below}
use Rattle.area_state.proofs.HoldsAs.{HoldsAs, named, slots_of, live_in, spare_in, state_as, residents_as, ghosts_as, Becomes, reads_as, becomes, states_same}
use Rattle.area_state.proofs.Pages.{slot_below, one_slot}
use Rattle.area_state.proofs.Reading.{resident_at_lem}
use Rattle.area_state.proofs.Lists.{resident_same}
use Rattle.area_state.proofs.Slots.{rearranged}

-- the target
pub set_target_becomes : (c : ℕ) (p : Parts) → Holds c p → (t : ℕ) → t ≤ c → Becomes c (set_target t p) (aimed_at t (state_of c p))
unfolding aimed_at state_of resident_of ghost_of
set_target_becomes c p h t low =
    record {
      holds = record { small = h.small; target = low; residents = h.residents; ghosts = h.ghosts; table = h.table; listed = h.listed; free = h.free; recorded = h.recorded; spare = h.spare };
      reads = refl;
    }

-- a resident changed where it stands, of a state of named lists
changed_as : (x c t : ℕ) (g : Resident → Resident) (T : Side → List Resident) (B : Side → List ℕ) (f : List ℕ) → car (changed_in x g (state_as c t T B f).lists) (state_as c t T B f).free ≡ state_as c t (λ j. changed x g (T j)) B f
unfolding state_as
changed_as x c t g T B f = refl

-- the words v are the residents' with slot e changed, which is then read as g says
module _ (c : ℕ) (p : Parts) (h : Holds c p) (i e : ℕ) (hi : i < 2) (k : Mem e (slots_of c p i)) where
  a : HoldsAs c p (slots_of c p) (live_in c p) (spare_in c p)
  a = named c p h

  low : e < c
  low = slot_below c p (slots_of c p) (live_in c p) (spare_in c p) a i e (omega arith) k

  changes : (v : List ℕ) (g : Resident → Resident) → Residents v c (slots_of c p) → resident_of c (set_residents v p) e ≡ g (resident_of c p e) → ((x : ℕ) → x < c → (x ≡ e → ⊥) → resident_of c (set_residents v p) x ≡ resident_of c p x)
      → Becomes c (set_residents v p) (car (changed_in (resident_of c p e).page g (state_of c p).lists) (state_of c p).free)
  unfolding ghost_of
  changes v g r here others =
      becomes c (set_residents v p) (slots_of c p) (live_in c p) (spare_in c p)
      (rearranged c p (slots_of c p) (live_in c p) (spare_in c p) a v (slots_of c p) r (λ u x hu m. (u, hu, m)) (λ x m. m))
      (car (changed_in (resident_of c p e).page g (state_of c p).lists) (state_of c p).free)
      (states_same c p.target p.target (residents_as c (set_residents v p) (slots_of c p)) (λ j. changed (resident_of c p e).page g (residents_as c p (slots_of c p) j)) (ghosts_as c p (live_in c p)) (ghosts_as c p (live_in c p)) (slots_of c p 2) (slots_of c p 2)
      refl
      (λ j. let hj : number_of j < 2 = number_below j in sym (changed_map (resident_of c p) (resident_of c p e).page e refl g (resident_of c (set_residents v p)) (slots_of c p (number_of j)) here
      (λ x m n. others x (slot_below c p (slots_of c p) (live_in c p) (spare_in c p) a (number_of j) x (omega arith) m) n)
      (λ x m q. one_slot c p (slots_of c p) (live_in c p) (spare_in c p) a (number_of j) i x e hj hi m k q)))
      (λ j. refl)
      refl
      ∙ sym (ap (λ (s : Car). car (changed_in (resident_of c p e).page g s.lists) s.free) (reads_as c p (slots_of c p) (live_in c p) (spare_in c p) a) ∙ changed_as (resident_of c p e).page c p.target g (residents_as c p (slots_of c p)) (ghosts_as c p (live_in c p)) (slots_of c p 2)))

  -- A FRAME
  pub framed_becomes : (f : ℕ) → f < 2 ^ 32 → Becomes c (framed e f p) (framed_at e f (state_of c p))
  unfolding framed framed_at resident_of
  framed_becomes f hf =
      rw (resident_at_lem c p i e hi k)
      (changes (frame_words e f p.residents) (with_frame f) (set_frame_residents p.residents c (slots_of c p) h.residents e low f hf)
      (rw (frame_here p.residents c e low h.residents.room.head f, bit_with_frame p.residents c e low f) refl)
      (λ x l n. let s = same_frame p.residents c e low x l n f in resident_same c p (set_residents (frame_words e f p.residents) p) x refl s.frame s.bit))

  -- A BIT
  pub marked_becomes : (b : ℕ) → b < 2 → Becomes c (marked c e b p) (marked_at e (eqb b 1) (state_of c p))
  unfolding marked marked_at resident_of
  marked_becomes b hb =
      rw (resident_at_lem c p i e hi k)
      (changes (bit_words c e b p.residents) (with_bit (eqb b 1)) (set_bit_residents p.residents c (slots_of c p) h.residents e low b hb)
      (rw (bit_here p.residents c e low h.residents.room.head b, frame_with_bit p.residents c e low b) refl)
      (λ x l n. let s = same_bit p.residents c e low x l n b in resident_same c p (set_residents (bit_words c e b p.residents) p) x refl s.frame s.bit))

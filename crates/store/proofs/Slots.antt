-- The operations on one resident by its slot. In order: a bit as a word; what the calls ask; what they read; what they leave. Assumes nothing.
use mathlib.Core.Path.{◌≡◌, refl, ap}
use mathlib.Core.Bool.{Bool, true, false}
use mathlib.Core.List.{List}
use Prim.Native.Nat.{ℕ, ◌*◌, ◌^◌, ◌<◌, ◌≤◌}
use native.Mathlib.Omega.{arith}
use lib.Dec.{eqb}
use mir.Val.{bool_byte}
use Rattle.rules.specs.declared.Side.{Side}
use Rattle.residents.specs.Residents.{frame_of, bit_of}
use Rattle.residents.specs.Changes.{with_frame, with_bit, promoted, sent_back, freed, IsResident}
use Rattle.lookup.specs.Buckets.{places_of}
use Rattle.lookup.specs.Part.{page_of}
use Rattle.lookup.specs.Changes.{taken, CanTake}
use Rattle.area_state.specs.Parts.{set_target, set_residents, set_lookup, number_of, resident_of}
use Rattle.area_state.specs.Changes.{framed, marked, to_front, to_end, removed}
use Rattle.area_state.specs.States.{resident_at, framed_at, marked_at, aimed_at, fronted_at, ended_at, removed_at}
use Rattle.area_state.proofs.Sides.{number_below}
use Rattle.area_state.proofs.Reading.{resident_at_lem}
use Rattle.area_state.proofs.Sizes.{frame_below}
use Rattle.area_state.proofs.Slots.{is_resident, has_slot}
use Rattle.area_state.proofs.Setting.{set_target_becomes, framed_becomes, marked_becomes}
use Rattle.area_state.proofs.Moving.{to_front_becomes, to_end_becomes}
use Rattle.area_state.proofs.Leaving.{may_take_slot, removed_becomes}
use Rattle.area.specs.Area.{residents_in, lookup_in, parts_of, Fit, Became}
use Rattle.area.specs.Stored.{Stored, state_in, Left}
use Rattle.area.proofs.Storing.{left}
use Rattle.store.specs.Store.{HasSlot, IsSlot}
use Rattle.store.proofs.Steps.{lookup_after, fits_after, then_lookup}

-- a bit as a word
pub byte_low : (b : Bool) → bool_byte b < 2
byte_low true = omega arith
byte_low false = omega arith

pub byte_is : (b : Bool) → eqb (bool_byte b) 1 ≡ b
byte_is true = refl
byte_is false = refl

-- a slot of a list is a slot
pub is_slot : (c : ℕ) (w : List ℕ) (i : Side) (e : ℕ) → HasSlot c w i e → IsSlot c w e
is_slot c w i e h = record { side = i; slot = h }

module _ (c : ℕ) (w : List ℕ) (e : ℕ) (t : IsSlot c w e) where
  below : e < c
  below = (has_slot c (parts_of c w) t.slot.stored.holds (number_of t.side) e (number_below t.side) t.slot.member).slot

  fit : (A : Type 0) → A → Fit c w A
  fit A a = record { small = t.slot.stored.holds.small; size = t.slot.stored.size; can = a }

  -- ---- what the calls ask
  pub slot_fits : Fit c w (e < c)
  slot_fits = fit (e < c) below

  pub place_fits : Fit c w (e < 3 * c)
  place_fits = fit (e < 3 * c) (let l : e < c = below in omega arith)

  pub resident_fits : Fit c w (IsResident (residents_in c w) c e)
  unfolding parts_of
  resident_fits = fit (IsResident (residents_in c w) c e) (is_resident c (parts_of c w) t.slot.stored.holds (number_of t.side) e (number_below t.side) t.slot.member)

  -- ---- what they read
  at_slot_lem : resident_at e (state_in c w) ≡ resident_of c (parts_of c w) e
  unfolding state_in
  at_slot_lem = resident_at_lem c (parts_of c w) (number_of t.side) e (number_below t.side) t.slot.member

  pub frame_reads : (r : ℕ) → r ≡ frame_of (residents_in c w) e → r ≡ (resident_at e (state_in c w)).frame
  unfolding parts_of resident_of
  frame_reads r q = rw at_slot_lem q

  -- a frame is a u32
  pub frame_fits : (r : ℕ) → r ≡ frame_of (residents_in c w) e → r < 2 ^ 32
  unfolding parts_of
  frame_fits r q = rw q (frame_below c (parts_of c w) t.slot.stored.holds (number_of t.side) e (number_below t.side) t.slot.member)

  pub bit_reads : (r : ℕ) → r ≡ bit_of (residents_in c w) c e → eqb r 1 ≡ (resident_at e (state_in c w)).more.bit
  unfolding parts_of resident_of
  bit_reads r q = rw at_slot_lem (ap (λ (n : ℕ). eqb n 1) q)

  pub page_reads : (r : ℕ) → r ≡ page_of (lookup_in c w) e → r ≡ (resident_at e (state_in c w)).page
  unfolding parts_of resident_of
  page_reads r q = rw at_slot_lem q

  -- ---- what they leave
  module _ (v : List ℕ) where
    pub frame_left : (f : ℕ) → f < 2 ^ 32 → Became c w v (set_residents (with_frame e f (residents_in c w)) (parts_of c w)) → Left c w v (framed_at e f (state_in c w))
    unfolding parts_of state_in framed
    frame_left f h b = left c w v (framed e f (parts_of c w)) (framed_at e f (state_in c w)) t.slot.stored b (framed_becomes c (parts_of c w) t.slot.stored.holds (number_of t.side) e (number_below t.side) t.slot.member f h)

    pub bit_left : (b : Bool) → Became c w v (set_residents (with_bit c e (bool_byte b) (residents_in c w)) (parts_of c w)) → Left c w v (marked_at e b (state_in c w))
    unfolding parts_of state_in marked
    bit_left b a = left c w v (marked c e (bool_byte b) (parts_of c w)) (marked_at e b (state_in c w)) t.slot.stored a (rw (byte_is b) at (marked_becomes c (parts_of c w) t.slot.stored.holds (number_of t.side) e (number_below t.side) t.slot.member (bool_byte b) (byte_low b)))

    pub front_left : Became c w v (set_residents (promoted c e (residents_in c w)) (parts_of c w)) → Left c w v (fronted_at e (state_in c w))
    unfolding parts_of state_in to_front
    front_left b = left c w v (to_front c e (parts_of c w)) (fronted_at e (state_in c w)) t.slot.stored b (to_front_becomes c (parts_of c w) t.slot.stored.holds (number_of t.side) e (number_below t.side) t.slot.member)

    pub end_left : Became c w v (set_residents (sent_back c e (residents_in c w)) (parts_of c w)) → Left c w v (ended_at e (state_in c w))
    unfolding parts_of state_in to_end
    end_left b = left c w v (to_end c e (parts_of c w)) (ended_at e (state_in c w)) t.slot.stored b (to_end_becomes c (parts_of c w) t.slot.stored.holds (number_of t.side) e (number_below t.side) t.slot.member)

    -- the resident leaves
    module _ (b : Became c w v (set_residents (freed c e (residents_in c w)) (parts_of c w))) where
      pub remove_takes : Fit c v (CanTake (lookup_in c v) (places_of c) e)
      remove_takes =
          fits_after c w v (set_residents (freed c e (residents_in c w)) (parts_of c w)) b (CanTake (lookup_in c v) (places_of c) e) t.slot.stored
          (rw (lookup_after c w v (set_residents (freed c e (residents_in c w)) (parts_of c w)) b) (may_take_slot c (parts_of c w) t.slot.stored.holds (number_of t.side) e (number_below t.side) t.slot.member))

      pub remove_left : (u : List ℕ) → Became c v u (set_lookup (taken (places_of c) e (lookup_in c v)) (parts_of c v)) → Left c w u (removed_at e (state_in c w))
      unfolding parts_of state_in removed
      remove_left u d =
          left c w u (removed c e (parts_of c w)) (removed_at e (state_in c w)) t.slot.stored
          (then_lookup c w v (set_residents (freed c e (residents_in c w)) (parts_of c w)) b u (taken (places_of c) e) d)
          (removed_becomes c (parts_of c w) t.slot.stored.holds (number_of t.side) e (number_below t.side) t.slot.member)

-- the target
pub target_left : (c : ℕ) (w v : List ℕ) (t : ℕ) → Stored c w → t ≤ c → Became c w v (set_target t (parts_of c w)) → Left c w v (aimed_at t (state_in c w))
unfolding state_in
target_left c w v t s h b = left c w v (set_target t (parts_of c w)) (aimed_at t (state_in c w)) s b (set_target_becomes c (parts_of c w) s.holds t h)

-- A new resident enters T1 or T2. In order: what the calls ask; what they leave, at the front and at the end. Assumes nothing.
use mathlib.Core.Path.{◌≡◌, refl}
use mathlib.Core.Bool.{Bool}
use mathlib.Core.List.{List}
use Prim.Native.Nat.{ℕ, ◌^◌, ◌<◌}
use mir.Val.{bool_byte}
use lib.ListN.{length}
use Rattle.rules.specs.declared.Side.{Side}
use Rattle.residents.specs.Changes.{top_of, added_front, added_end, CanAdd}
use Rattle.lookup.specs.Buckets.{buckets_of, places_of}
use Rattle.lookup.specs.Lookup.{find_of, look, none}
use Rattle.lookup.specs.Changes.{put_in, CanPut}
use Rattle.area_state.specs.Parts.{set_residents, set_lookup, number_of, state_of}
use Rattle.area_state.specs.Changes.{entered_lookup, entered_front, entered_end}
use Rattle.area_state.specs.States.{entered_at_front, entered_at_end}
use Rattle.area_state.proofs.Sides.{number_below}
use Rattle.area_state.proofs.HoldsAs.{slots_of}
use Rattle.area_state.proofs.Entering.{may_add, may_put}
use Rattle.area_state.proofs.Adding.{entered_front_becomes, entered_end_becomes}
use Rattle.area.specs.Area.{residents_in, lookup_in, parts_of, Fit, Became, Answered}
use Rattle.area.specs.Stored.{state_in, Left}
use Rattle.area.proofs.Storing.{left}
use Rattle.store.specs.Store.{CanEnter}
use Rattle.store.proofs.Steps.{lookup_after, fits_after, became_as, then_lookup}
use Rattle.store.proofs.Slots.{byte_low, byte_is}
use Rattle.store.proofs.Finding.{held_nowhere}

module _ (c : ℕ) (w : List ℕ) (j : Side) (x : ℕ) (t : CanEnter c w x) where
  some : 0 < length (slots_of c (parts_of c w) 2)
  unfolding state_in state_of
  some = t.room

  -- ---- what the calls ask
  pub enter_adds : Fit c w (CanAdd (residents_in c w) c (number_of j))
  unfolding parts_of
  enter_adds = record { small = t.stored.holds.small; size = t.stored.size; can = may_add c (parts_of c w) t.stored.holds some (number_of j) (number_below j) }

  nowhere : look (parts_of c w).lookup (places_of c) (buckets_of c) x ≡ none
  unfolding state_in
  nowhere = held_nowhere c (parts_of c w) t.stored.holds x t.fresh t.unrecorded

  -- the residents are r, the slot e, and place is what `find` gave before
  module _ (place : ℕ) (q : place ≡ find_of (lookup_in c w) (places_of c) (buckets_of c) x) (v : List ℕ) (e : ℕ) (r : List ℕ) (d : Answered c w v e (top_of c (residents_in c w)) (set_residents r (parts_of c w))) where
    pub enter_puts : Fit c v (CanPut (lookup_in c v) (places_of c) place e)
    unfolding parts_of
    enter_puts =
        fits_after c w v (set_residents r (parts_of c w)) d.became (CanPut (lookup_in c v) (places_of c) place e) t.stored
        (rw (lookup_after c w v (set_residents r (parts_of c w)) d.became, q, d.answer) (may_put c (parts_of c w) t.stored.holds some x))

    enters : (u : List ℕ) → Became c v u (set_lookup (put_in (places_of c) place e x (lookup_in c v)) (parts_of c v)) → Became c w u (set_lookup (entered_lookup c x (parts_of c w)) (set_residents r (parts_of c w)))
    unfolding parts_of entered_lookup
    enters u k =
        became_as c w u (set_lookup (put_in (places_of c) place e x (lookup_in c w)) (set_residents r (parts_of c w)))
        (then_lookup c w v (set_residents r (parts_of c w)) d.became u (put_in (places_of c) place e x) k)
        (set_lookup (put_in (places_of c) (find_of (lookup_in c w) (places_of c) (buckets_of c) x) (top_of c (residents_in c w)) x (lookup_in c w)) (set_residents r (parts_of c w)))
        (rw (q, d.answer) refl)

  -- ---- what they leave
  module _ (place : ℕ) (q : place ≡ find_of (lookup_in c w) (places_of c) (buckets_of c) x) (v : List ℕ) (e f : ℕ) (hf : f < 2 ^ 32) (b : Bool) where
    pub enter_front_left : Answered c w v e (top_of c (residents_in c w)) (set_residents (added_front c (number_of j) f (bool_byte b) (residents_in c w)) (parts_of c w)) → (u : List ℕ) → Became c v u (set_lookup (put_in (places_of c) place e x (lookup_in c v)) (parts_of c v)) → Left c w u (entered_at_front j x f b (state_in c w))
    unfolding parts_of state_in entered_front
    enter_front_left d u k =
        left c w u (entered_front c (number_of j) x f (bool_byte b) (parts_of c w)) (entered_at_front j x f b (state_of c (parts_of c w))) t.stored
        (enters place q v e (added_front c (number_of j) f (bool_byte b) (residents_in c w)) d u k)
        (rw (byte_is b) at (entered_front_becomes c (parts_of c w) t.stored.holds some x f (bool_byte b) j nowhere hf (byte_low b)))

    pub enter_end_left : Answered c w v e (top_of c (residents_in c w)) (set_residents (added_end c (number_of j) f (bool_byte b) (residents_in c w)) (parts_of c w)) → (u : List ℕ) → Became c v u (set_lookup (put_in (places_of c) place e x (lookup_in c v)) (parts_of c v)) → Left c w u (entered_at_end j x f b (state_in c w))
    unfolding parts_of state_in entered_end
    enter_end_left d u k =
        left c w u (entered_end c (number_of j) x f (bool_byte b) (parts_of c w)) (entered_at_end j x f b (state_of c (parts_of c w))) t.stored
        (enters place q v e (added_end c (number_of j) f (bool_byte b) (residents_in c w)) d u k)
        (rw (byte_is b) at (entered_end_becomes c (parts_of c w) t.stored.holds some x f (bool_byte b) j nowhere hf (byte_low b)))

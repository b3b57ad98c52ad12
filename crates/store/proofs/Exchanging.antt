-- A resident is put out, and a page takes its slot. In order: the state between, which no area holds; what the calls ask; what they leave. Assumes nothing.
use mathlib.Core.Path.{◌≡◌, refl, ap, ◌∙◌}
use mathlib.Core.Bool.{Bool}
use mathlib.Core.List.{List}
use Prim.Native.Nat.{ℕ, ◌^◌, ◌<◌}
use native.Mathlib.Omega.{arith}
use mir.Val.{bool_byte}
use lib.ListN.{length}
use Rattle.rules.specs.Car.{Car}
use Rattle.rules.specs.declared.Side.{Side}
use Rattle.residents.specs.Changes.{freed, top_of, added_front, added_end, CanExchange as CanExchangeSlot}
use Rattle.residents.proofs.Exchange.{freed_top}
use Rattle.ghosts.specs.Ghosts.{recorded}
use Rattle.lookup.specs.Buckets.{buckets_of, places_of}
use Rattle.lookup.specs.Lookup.{find_of, look, CanFind, none}
use Rattle.lookup.specs.Changes.{renamed, put_in, CanRename, CanPut}
use Rattle.area_state.specs.Parts.{Parts, ghosts_of, set_residents, set_ghosts, set_lookup, number_of, state_of}
use Rattle.area_state.specs.Changes.{is_full, cleared_for, evicted, entered_lookup, entered_front, entered_end}
use Rattle.area_state.specs.States.{evicted_at, entered_at_front, entered_at_end}
use Rattle.area_state.proofs.Sides.{number_below}
use Rattle.area_state.proofs.HoldsAs.{slots_of, Becomes}
use Rattle.area_state.proofs.Slots.{is_resident}
use Rattle.area_state.proofs.Finding.{may_find}
use Rattle.area_state.proofs.Evicting.{may_rename, evicted_becomes}
use Rattle.area_state.proofs.Entering.{may_put}
use Rattle.area_state.proofs.Adding.{entered_front_becomes, entered_end_becomes}
use Rattle.area.specs.Area.{residents_in, lookup_in, parts_of, Fit, Became}
use Rattle.area.specs.Stored.{state_in, Left}
use Rattle.area.proofs.Storing.{left}
use Rattle.store.specs.Store.{AnySlot, IsSlot, GivesPlace, CanExchange}
use Rattle.store.proofs.Steps.{residents_after_lem, lookup_after, fits_after, became_as, then, then_lookup}
use Rattle.store.proofs.Slots.{byte_low, byte_is, is_slot}
use Rattle.store.proofs.Finding.{held_nowhere}

module _ (c : ℕ) (w : List ℕ) (i : Side) (e x : ℕ) (t : CanExchange c w i e x) where
  pub exchange_any : AnySlot c w i
  exchange_any = record { number = e; slot = t.slot }

  pub exchange_slot : IsSlot c w e
  exchange_slot = is_slot c w i e t.slot

  -- ---- the parts once the resident is out, as an eviction alone would leave them
  gone : Parts
  gone = evicted i c e (parts_of c w)

  goes : Becomes c gone (evicted_at i e (state_of c (parts_of c w)))
  unfolding gone
  goes = evicted_becomes c (parts_of c w) t.slot.stored.holds (number_of i) e (number_below i) t.slot.member i

  some : 0 < length (slots_of c gone 2)
  unfolding state_of evicted_at
  some = let n : length (state_of c gone).free ≡ length (evicted_at i e (state_of c (parts_of c w))).free = ap (λ (s : Car). length s.free) goes.reads in omega arith

  -- its slot is the top free one
  top : top_of c gone.residents ≡ e
  unfolding gone evicted
  top = freed_top (parts_of c w).residents c e (is_resident c (parts_of c w) t.slot.stored.holds (number_of i) e (number_below i) t.slot.member)

  nowhere : look gone.lookup (places_of c) (buckets_of c) x ≡ none
  unfolding state_in
  nowhere = held_nowhere c gone goes.holds x (rw goes.reads t.fresh) (rw goes.reads t.unrecorded)

  -- ---- what the calls ask, one after the other
  module _ (v : List ℕ) (y : ℕ) (g : GivesPlace c w v i y) where
    placed : Parts
    placed = set_lookup (cleared_for (is_full i c (parts_of c w)) (places_of c) y (parts_of c w).lookup) (set_ghosts i (recorded c (ghosts_of i (parts_of c w))) (parts_of c w))

    pub exchange_renames : Fit c v (CanRename (lookup_in c v) (places_of c) e y)
    unfolding placed
    exchange_renames =
        fits_after c w v placed g.became (CanRename (lookup_in c v) (places_of c) e y) t.slot.stored
        (rw (lookup_after c w v placed g.became, g.place) (may_rename c (parts_of c w) t.slot.stored.holds (number_of i) e (number_below i) t.slot.member i))

    module _ (u : List ℕ) (d : Became c v u (set_lookup (renamed (places_of c) e y (lookup_in c v)) (parts_of c v))) where
      -- all but the residents is as it will be
      half : Parts
      half = set_lookup gone.lookup (set_ghosts i (recorded c (ghosts_of i (parts_of c w))) (parts_of c w))

      halved : Became c w u half
      unfolding placed half gone evicted
      halved =
          became_as c w u (set_lookup (renamed (places_of c) e y placed.lookup) placed) (then_lookup c w v placed g.became u (renamed (places_of c) e y) d)
          (set_lookup (evicted i c e (parts_of c w)).lookup (set_ghosts i (recorded c (ghosts_of i (parts_of c w))) (parts_of c w)))
          (rw g.place refl)

      pub exchange_finds : Fit c u (CanFind (lookup_in c u) (places_of c) (buckets_of c) x)
      unfolding half
      exchange_finds = fits_after c w u half halved (CanFind (lookup_in c u) (places_of c) (buckets_of c) x) t.slot.stored (rw (lookup_after c w u half halved) (may_find c gone goes.holds x))

      pub exchange_slots : (j : Side) → Fit c u (CanExchangeSlot (residents_in c u) c e (number_of j))
      unfolding half
      exchange_slots j =
          fits_after c w u half halved (CanExchangeSlot (residents_in c u) c e (number_of j)) t.slot.stored
          (record { resident = rw (residents_after_lem c w u half halved) (is_resident c (parts_of c w) t.slot.stored.holds (number_of i) e (number_below i) t.slot.member); side = number_below j })

      -- the residents are r; place is what `find` gave before
      module _ (place : ℕ) (q : place ≡ find_of (lookup_in c u) (places_of c) (buckets_of c) x) (o : List ℕ) (r : List ℕ → List ℕ) (k : Became c u o (set_residents (r (freed c e (residents_in c u))) (parts_of c u))) where
        place_is_fact : place ≡ find_of gone.lookup (places_of c) (buckets_of c) x
        unfolding half
        place_is_fact = q ∙ ap (λ (l : List ℕ). find_of l (places_of c) (buckets_of c) x) (lookup_after c w u half halved)

        moved : Parts
        moved = set_residents (r (freed c e (parts_of c w).residents)) half

        moves : Became c w o moved
        unfolding moved half parts_of
        moves =
            became_as c w o (set_residents (r (freed c e (residents_in c u))) (parts_of c u)) (then c w u half halved o (set_residents (r (freed c e (residents_in c u))) (parts_of c u)) k) moved
            (ap (λ (p : Parts). set_residents (r (freed c e p.residents)) p) halved.parts)

        pub exchange_puts : Fit c o (CanPut (lookup_in c o) (places_of c) place e)
        unfolding moved half
        exchange_puts =
            fits_after c w o moved moves (CanPut (lookup_in c o) (places_of c) place e) t.slot.stored
            (rw (lookup_after c w o moved moves, place_is_fact) (rw top at (may_put c gone goes.holds some x)))

        enters : (z : List ℕ) → Became c o z (set_lookup (put_in (places_of c) place e x (lookup_in c o)) (parts_of c o)) → Became c w z (set_lookup (entered_lookup c x gone) (set_residents (r gone.residents) gone))
        unfolding moved half gone evicted entered_lookup
        enters z a =
            became_as c w z (set_lookup (put_in (places_of c) place e x moved.lookup) moved) (then_lookup c w o moved moves z (put_in (places_of c) place e x) a)
            (set_lookup (put_in (places_of c) (find_of gone.lookup (places_of c) (buckets_of c) x) (top_of c gone.residents) x gone.lookup) (set_residents (r gone.residents) gone))
            (rw (place_is_fact, top) refl)

      -- ---- what they leave
      module _ (j : Side) (f : ℕ) (hf : f < 2 ^ 32) (b : Bool) (place : ℕ) (q : place ≡ find_of (lookup_in c u) (places_of c) (buckets_of c) x) (o : List ℕ) where
        pub exchange_front_left : Became c u o (set_residents (added_front c (number_of j) f (bool_byte b) (freed c e (residents_in c u))) (parts_of c u)) → (z : List ℕ) → Became c o z (set_lookup (put_in (places_of c) place e x (lookup_in c o)) (parts_of c o)) → Left c w z (entered_at_front j x f b (evicted_at i e (state_in c w)))
        unfolding state_in entered_front
        exchange_front_left k z a =
            rw goes.reads at
            (left c w z (entered_front c (number_of j) x f (bool_byte b) gone) (entered_at_front j x f b (state_of c gone)) t.slot.stored
            (enters place q o (added_front c (number_of j) f (bool_byte b)) k z a)
            (rw (byte_is b) at (entered_front_becomes c gone goes.holds some x f (bool_byte b) j nowhere hf (byte_low b))))

        pub exchange_end_left : Became c u o (set_residents (added_end c (number_of j) f (bool_byte b) (freed c e (residents_in c u))) (parts_of c u)) → (z : List ℕ) → Became c o z (set_lookup (put_in (places_of c) place e x (lookup_in c o)) (parts_of c o)) → Left c w z (entered_at_end j x f b (evicted_at i e (state_in c w)))
        unfolding state_in entered_end
        exchange_end_left k z a =
            rw goes.reads at
            (left c w z (entered_end c (number_of j) x f (bool_byte b) gone) (entered_at_end j x f b (state_of c gone)) t.slot.stored
            (enters place q o (added_end c (number_of j) f (bool_byte b)) k z a)
            (rw (byte_is b) at (entered_end_becomes c gone goes.holds some x f (bool_byte b) j nowhere hf (byte_low b))))

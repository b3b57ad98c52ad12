-- A ghost list gives a cell for a page that is to be recorded. Assumes nothing.
use mathlib.Core.Path.{◌≡◌, refl, sym, ap, ◌∙◌}
use mathlib.Core.Bool.{true}
use mathlib.Core.List.{List}
use Prim.Native.Nat.{ℕ, ◌<◌, ◌≤◌}
use native.Mathlib.Omega.{arith}
use borrow.Author.Tests.{eq-eqb, ne_eqb}
use Rattle.rules.specs.declared.Side.{Side}
use Rattle.ghosts.specs.Ghosts.{count_of, record_cell, recorded, CanRecord}
use Rattle.ghosts.proofs.Recording.{record_cell_lem}
use Rattle.lookup.specs.Buckets.{places_of}
use Rattle.lookup.specs.Changes.{taken, CanTake}
use Rattle.area_state.specs.Parts.{Parts, ghosts_of, set_ghosts, set_lookup, number_of, ghost_place}
use Rattle.area_state.specs.Changes.{record_place_of, is_full}
use Rattle.area_state.proofs.Sides.{number_below}
use Rattle.area_state.proofs.HoldsAs.{live_in, spare_in}
use Rattle.area_state.proofs.Slots.{has_slot}
use Rattle.area_state.proofs.Cells.{gives}
use Rattle.area_state.proofs.Evicting.{may_record, may_take_oldest}
use Rattle.area.specs.Area.{ghosts_in, lookup_in, parts_of, Fit, Became, Answered}
use Rattle.store.specs.Store.{HasSlot, AnySlot, GivesPlace}
use Rattle.store.proofs.Steps.{ghosts_in_lem, lookup_after, fits_after, became_as, then_lookup}

module _ (c : ℕ) (w : List ℕ) (i : Side) (a : AnySlot c w i) where
  e : ℕ
  e = a.number

  t : HasSlot c w i e
  unfolding e
  t = a.slot

  pub place_counts : Fit c w Unit
  place_counts = record { small = t.stored.holds.small; size = t.stored.size; can = tt }

  pub place_records : Fit c w (CanRecord (ghosts_in i c w) c)
  place_records =
      record {
        small = t.stored.holds.small;
        size = t.stored.size;
        can = rw (sym (ghosts_in_lem i c w)) (may_record c (parts_of c w) t.stored.holds (number_of i) e (number_below i) t.member i);
      }

  -- the ghost list has given the cell g; the words are v
  module _ (v : List ℕ) (g : ℕ) (d : Answered c w v g (record_cell c (ghosts_in i c w)) (set_ghosts i (recorded c (ghosts_in i c w)) (parts_of c w))) where
    after : Parts
    after = set_ghosts i (recorded c (ghosts_of i (parts_of c w))) (parts_of c w)

    given : Became c w v after
    unfolding after
    given = became_as c w v (set_ghosts i (recorded c (ghosts_in i c w)) (parts_of c w)) d.became (set_ghosts i (recorded c (ghosts_of i (parts_of c w))) (parts_of c w)) (rw (ghosts_in_lem i c w) refl)

    cell_is : g ≡ record_cell c (ghosts_of i (parts_of c w))
    cell_is = d.answer ∙ ap (record_cell c) (sym (ghosts_in_lem i c w))

    cell_low : g < c
    cell_low =
        let l : e < c = (has_slot c (parts_of c w) t.stored.holds (number_of i) e (number_below i) t.member).slot in
        let some : 0 < c = omega arith in
        rw (cell_is, record_cell_lem (ghosts_of i (parts_of c w)) c (live_in c (parts_of c w) i) (spare_in c (parts_of c w) i) some (t.stored.holds.ghosts i))
        (gives (ghosts_of i (parts_of c w)) c (live_in c (parts_of c w) i) (spare_in c (parts_of c w) i) some (t.stored.holds.ghosts i)).low

    pub place_asks : (c ≤ 1024) × (g < c)
    place_asks = (t.stored.holds.small, cell_low)

    module _ (y : ℕ) (q : y ≡ ghost_place i c g) (n : ℕ) (k : n ≡ count_of (ghosts_in i c w)) where
      place_is_fact : y ≡ record_place_of i c (parts_of c w)
      unfolding record_place_of
      place_is_fact = q ∙ ap (ghost_place i c) cell_is

      count_is : n ≡ count_of (ghosts_of i (parts_of c w))
      count_is = k ∙ ap count_of (sym (ghosts_in_lem i c w))

      -- it was full: the oldest page leaves the lookup
      module _ (z : n ≡ c) where
        is_full_fact : is_full i c (parts_of c w) ≡ true
        unfolding is_full
        is_full_fact = eq-eqb (count_of (ghosts_of i (parts_of c w))) c (sym count_is ∙ z)

        pub full_takes : Fit c v (CanTake (lookup_in c v) (places_of c) y)
        unfolding after
        full_takes =
            fits_after c w v after given (CanTake (lookup_in c v) (places_of c) y) t.stored
            (rw (lookup_after c w v after given, place_is_fact) (may_take_oldest c (parts_of c w) t.stored.holds (number_of i) e (number_below i) t.member i is_full_fact))

        pub full_gives : (u : List ℕ) → Became c v u (set_lookup (taken (places_of c) y (lookup_in c v)) (parts_of c v)) → GivesPlace c w u i y
        unfolding after
        full_gives u b = record { place = place_is_fact; became = rw is_full_fact (then_lookup c w v after given u (taken (places_of c) y) b) }

      -- it had room
      pub room_gives : (n ≡ c → ⊥) → GivesPlace c w v i y
      unfolding is_full after
      room_gives z = record { place = place_is_fact; became = rw (ne_eqb (count_of (ghosts_of i (parts_of c w))) c (λ m. z (count_is ∙ m))) given }

pub ruleset place_laws = (place_counts, place_records, full_takes, full_gives, room_gives)

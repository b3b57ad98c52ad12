-- The slots at the ends of a list. Assumes nothing.
use mathlib.Core.Path.{◌≡◌, sym, ap, ◌∙◌}
use mathlib.Core.Option.{some}
use mathlib.Core.List.{List, ◌∷◌, map}
use Prim.Native.Nat.{ℕ, ◌+◌, ◌<◌}
use lib.ListN.{length, drop, length-map}
use Rattle.rules.specs.State.{list}
use Rattle.rules.specs.declared.Side.{Side}
use Rattle.rules.specs.Car.{Resident}
use Rattle.cells.specs.Cells.{next_of, prev_of}
use Rattle.rings.specs.Members.{Mem}
use Rattle.residents.specs.Residents.{links_of}
use Rattle.area_state.specs.Parts.{number_of, resident_of, state_of}
use Rattle.area_state.specs.States.{resident_at}
use Rattle.area_state.proofs.Sides.{number_below}
use Rattle.area_state.proofs.HoldsAs.{slots_of}
use Rattle.area_state.proofs.Reading.{resident_at_lem}
use Rattle.area_state.proofs.Lists.{list_is}
use Rattle.area_state.proofs.Ends.{first_slot, first_list, last_slot, last_list}
use Rattle.area.specs.Area.{residents_in, parts_of}
use Rattle.area.specs.Stored.{state_in}
use Rattle.store.specs.Store.{HasSlot, HasSome, FirstIs, LastIs}

-- a list by its first and the rest
first_and_rest : {A : Type 0} (l : List A) (a : A) (m : List A) → l ≡ a ∷ m → l ≡ a ∷ drop 1 l
first_and_rest l a m q = q ∙ ap (λ (k : List _). a ∷ k) (sym (ap (drop 1) q))

module _ (c : ℕ) (w : List ℕ) (i : Side) (e : ℕ) (t : HasSome c w i) where
  some_slot : 0 < length (slots_of c (parts_of c w) (number_of i))
  unfolding state_in
  some_slot =
      let n : length (list i (state_of c (parts_of c w)).lists) ≡ length (slots_of c (parts_of c w) (number_of i)) = ap length (list_is i c (parts_of c w)) ∙ length-map (slots_of c (parts_of c w) (number_of i)) (resident_of c (parts_of c w)) in
      rw n at t.some

  module _ (m : Mem e (slots_of c (parts_of c w) (number_of i))) where
    end_slot : HasSlot c w i e
    end_slot = record { stored = t.stored; member = m }

    end_at_lem : resident_at e (state_in c w) ≡ resident_of c (parts_of c w) e
    unfolding state_in
    end_at_lem = resident_at_lem c (parts_of c w) (number_of i) e (number_below i) m

  -- the first
  module _ (q : e ≡ next_of (links_of c (residents_in c w)) (c + number_of i)) where
    is_next : e ≡ next_of (links_of c (parts_of c w).residents) (c + number_of i)
    unfolding parts_of
    is_next = q

    pub first_is : FirstIs c w i e
    unfolding state_in
    first_is =
        let m = first_slot c (parts_of c w) t.stored.holds i e some_slot is_next in
        record {
          slot = end_slot m;
          first = rw (end_at_lem m) (first_and_rest (list i (state_of c (parts_of c w)).lists) (resident_of c (parts_of c w) e) (map (resident_of c (parts_of c w)) (drop 1 (slots_of c (parts_of c w) (number_of i)))) (first_list c (parts_of c w) t.stored.holds i e some_slot is_next));
        }

  -- the last
  module _ (q : e ≡ prev_of (links_of c (residents_in c w)) (c + number_of i)) where
    is_prev : e ≡ prev_of (links_of c (parts_of c w).residents) (c + number_of i)
    unfolding parts_of
    is_prev = q

    pub last_is : LastIs c w i e
    unfolding state_in
    last_is =
        let m = last_slot c (parts_of c w) t.stored.holds i e some_slot is_prev in
        record { slot = end_slot m; last = last_list c (parts_of c w) t.stored.holds i e some_slot is_prev ∙ ap (λ (r : Resident). some r) (sym (end_at_lem m)) }

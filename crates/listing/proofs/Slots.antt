-- The slots of a listing. In order: each is a slot that is taken; the first, and what comes after a slot, as the code finds them. Assumes nothing.
use mathlib.Core.Path.{◌≡◌, refl, sym, ap, ◌∙◌}
use mathlib.Core.Bool.{cond}
use mathlib.Core.Logic.{◌⊎◌, inl, inr, ⊎_elim}
use mathlib.Core.List.{List, [], ◌∷◌}
use Prim.Native.Nat.{ℕ, suc, ◌+◌, ◌-◌, ◌<◌, ◌≤◌}
use native.Mathlib.Omega.{arith}
use lib.Dec.{eqb, ltb}
use lib.ListN.{get_or}
use borrow.Author.Tests.{ltb-true, ltb-false, eqb-true}
use Rattle.rules.specs.Lists.{one, times}
use Rattle.rules.specs.declared.Side.{Side}
use Rattle.rules.specs.declared.Side.TheVariants.{First as first, Second as second}
use Rattle.rules.specs.Car.{taken}
use Rattle.rules.proofs.ListLaws.{by_test}
use Rattle.rings.specs.Members.{Mem, Below}
use Rattle.rings.proofs.Members.{mem_append}
use Rattle.area_state.specs.Parts.{state_of, number_of}
use Rattle.area_state.proofs.Sides.{number_below}
use Rattle.area_state.proofs.Slots.{has_slot}
use Rattle.area.specs.Area.{parts_of}
use Rattle.area.specs.Stored.{Stored, state_in}
use Rattle.store.specs.Store.{IsSlot, slots_at, NextIs}
use Rattle.store.proofs.Order.{slots_are}
use Rattle.rules.specs.declared.Kind.{Kind}
use Rattle.rules.specs.declared.Kind.TheVariants as kinds
use Rattle.listing.specs.Order.{taken_from, order, past}
use Rattle.listing.specs.Steps.{order_in, StandsIn, Follows}
use Rattle.listing.proofs.Rising.{rising_first, rising_next, rising_taken}
use Rattle.listing.proofs.Joined.{mem_get_d, joined_first, joined_next}

-- a number that stands in a list is one of it
mem_times : (k : ℕ) (l : List ℕ) → 0 < times k l → Mem k l
mem_times k [] h = absurd (let z : ⊥ = omega arith in z)
mem_times k (x ∷ l) h = by_test (λ b. eqb k x ≡ b → 0 < one b + times k l → (k ≡ x) ⊎ Mem k l) (eqb k x) (λ _ q _. inl (eqb-true k x q)) (λ _ _ m. inr (mem_times k l (omega arith))) refl h

module _ (c : ℕ) (w : List ℕ) (s : Stored c w) where
  -- the state has the capacity c
  pub capacity_is : (state_in c w).lists.c ≡ c
  unfolding state_in state_of
  capacity_is = refl

  -- ---- each is a slot that is taken
  slot_in : (i : Side) (e : ℕ) → Mem e (slots_at i c w) → IsSlot c w e
  slot_in i e m = record { side = i; slot = record { stored = s; member = rw (slots_are c w s i) at m } }

  pub order_slot : (kind : Kind) (e : ℕ) → Mem e (order_in kind c w) → IsSlot c w e
  unfolding order
  order_slot kinds.Arc e m = ⊎_elim (slot_in first e) (slot_in second e) (mem_append e (slots_at first c w) (slots_at second c w) m)
  order_slot kinds.Car e m =
      let t : 0 < times e (slots_at first c w) + times e (slots_at second c w) = ltb-true 0 (taken e (state_in c w).lists) (rising_taken (state_in c w).lists 0 (state_in c w).lists.c e m) in
      by_test (λ b. ltb 0 (times e (slots_at first c w)) ≡ b → IsSlot c w e) (ltb 0 (times e (slots_at first c w)))
      (λ _ q. slot_in first e (mem_times e (slots_at first c w) (ltb-true 0 _ q)))
      (λ _ q. slot_in second e (mem_times e (slots_at second c w) (let z : times e (slots_at first c w) ≤ 0 = ltb-false 0 _ q in omega arith)))
      refl

  below : (i : Side) → Below c (slots_at i c w)
  below i = rw (slots_are c w s i) (s.holds.residents.rings (number_of i) (let l : number_of i < 2 = number_below i in omega arith)).below

  -- ---- the first
  pub first_arc : (e r : ℕ) → e ≡ get_or (slots_at first c w) 0 (c + 0) → r ≡ cond (eqb e c) (get_or (slots_at second c w) 0 (c + 1)) e → r ≡ get_or (order_in kinds.Arc c w) 0 (past kinds.Arc c)
  unfolding order
  first_arc e r p q =
      let z : c + 0 ≡ c = omega arith in
      let y : e ≡ get_or (slots_at first c w) 0 c = rw z at p in
      q ∙ rw y (joined_first c (slots_at first c w) (slots_at second c w) (below first))

  pub first_car : (r : ℕ) → r ≡ taken_from (state_in c w).lists 0 (c - 0) → r ≡ get_or (order_in kinds.Car c w) 0 (past kinds.Car c)
  unfolding order
  first_car r q =
      let z : c - 0 ≡ c = omega arith in
      q ∙ rw z (sym (rw capacity_is (rising_first (state_in c w).lists 0 c c (omega arith))))

  -- ---- what comes after a slot
  pub next_arc : (e n r : ℕ) → NextIs c w e n → r ≡ cond (eqb n c) (get_or (slots_at second c w) 0 (c + 1)) n → Follows kinds.Arc c w e r
  unfolding order
  next_arc e n r p q =
      let z : c + 0 ≡ c = omega arith in
      record {
        next = λ j less at. q ∙ joined_next c (slots_at first c w) (slots_at second c w) n e j (below first) (below second) (λ k h y. p.next first k h y ∙ ap (get_or (slots_at first c w) (suc k)) z) (λ k h y. p.next second k h y) less at;
      }

  pub next_car : (e r : ℕ) → e < c → r ≡ taken_from (state_in c w).lists (e + 1) (c - (e + 1)) → Follows kinds.Car c w e r
  unfolding order
  next_car e r low q =
      let z : e + 1 ≡ suc e = omega arith in
      let y : r ≡ taken_from (state_in c w).lists (suc e) (c - (e + 1)) = q ∙ ap (λ (k : ℕ). taken_from (state_in c w).lists k (c - (e + 1))) z in
      record { next = λ j less at. y ∙ sym (rising_next (state_in c w).lists 0 (state_in c w).lists.c c j e (c - (e + 1)) (omega (arith, capacity_is)) (omega arith) less at) }

-- ---- a slot of the listing is a slot
module _ (kind : Kind) (c : ℕ) (w : List ℕ) (e : ℕ) (t : StandsIn kind c w e) where
  pub stands_slot : IsSlot c w e
  stands_slot = order_slot c w t.stored kind e (rw t.at at (mem_get_d (order_in kind c w) t.place t.less))

  pub stands_below : e < c
  stands_below = let h = stands_slot in (has_slot c (parts_of c w) h.slot.stored.holds (number_of h.side) e (number_below h.side) h.slot.member).slot

-- The slots of a list one after the other, and which slots are taken. In order: the cells of a ring by their places; the slots of a list; the taken ones. Assumes nothing.
use mathlib.Core.Path.{◌≡◌, sym, ap, ◌∙◌, refl}
use mathlib.Core.Bool.{Bool, true, false, false≢true, not}
use mathlib.Core.Logic.{◌⊎◌, inl, inr}
use mathlib.Core.List.{List, [], ◌∷◌}
use Prim.Native.Nat.{ℕ, zero, suc, ◌+◌, ◌<◌}
use native.Mathlib.Nat.{not-suc-le-zero, le_of_suc-le-suc}
use native.Mathlib.Omega.{arith}
use lib.Dec.{eqb, ltb}
use lib.ListN.{length, get_or}
use borrow.Author.Tests.{eqb-true, eq-eqb, lt-ltb, le-ltb}
use Rattle.rules.specs.Lists.{one, times}
use Rattle.rules.specs.declared.Side.{Side}
use Rattle.rules.specs.Car.{slots, taken}
use Rattle.cells.specs.Cells.{next_of, prev_of}
use Rattle.rings.specs.Members.{Mem}
use Rattle.rings.specs.Rings.{Links}
use Rattle.rings.proofs.Members.{same_or_other}
use Rattle.residents.specs.Residents.{links_of}
use Rattle.lookup.specs.Buckets.{places_of}
use Rattle.lookup.specs.Part as lookup
use Rattle.lookup.specs.Lookup.{Dead}
use Rattle.area_state.specs.Parts.{number_of, state_of}
use Rattle.area_state.proofs.Counts.{times_fresh, times_member}
use Rattle.area_state.proofs.Lists.{list_is}
use Rattle.area_state.proofs.Sides.{number_below}
use Rattle.area_state.proofs.HoldsAs.{named, slots_of, live_in, spare_in}
use Rattle.area_state.proofs.Pages.{slots_apart, slots_distinct, slot_somewhere, dead_not_held}
use Rattle.area_state.proofs.Reading.{slots_read, state_slotted}
use Rattle.area.specs.Area.{residents_in, lookup_in, parts_of}
use Rattle.area.specs.Stored.{Stored, state_in}
use Rattle.store.specs.Store.{slots_at, NextIs}

-- ---- the cells of a ring by their places
links_first : (l : List ℕ) (a : ℕ) (xs : List ℕ) (b : ℕ) → Links l a xs b → next_of l a ≡ get_or xs 0 b
links_first l a [] b h = h.0
links_first l a (x ∷ xs) b h = h.0

links_next : (l : List ℕ) (a : ℕ) (xs : List ℕ) (b j e : ℕ) → Links l a xs b → j < length xs → get_or xs j 0 ≡ e → next_of l e ≡ get_or xs (suc j) b
links_next l a [] b j e h less at = absurd (not-suc-le-zero less)
links_next l a (x ∷ xs) b zero e h less at = rw (sym at) (links_first l x xs b h.2)
links_next l a (x ∷ xs) b (suc j) e h less at = links_next l x xs b j e h.2 (le_of_suc-le-suc less) at

module _ (c : ℕ) (w : List ℕ) (s : Stored c w) where
  -- ---- the slots of a list
  pub slots_are : (i : Side) → slots_at i c w ≡ slots_of c (parts_of c w) (number_of i)
  unfolding state_in
  slots_are i = ap slots (list_is i c (parts_of c w)) ∙ slots_read c (parts_of c w) (slots_of c (parts_of c w) (number_of i))

  ring : (i : Side) → Links (links_of c (residents_in c w)) (c + number_of i) (slots_of c (parts_of c w) (number_of i)) (c + number_of i)
  unfolding parts_of
  ring i = (s.holds.residents.rings (number_of i) (let l : number_of i < 2 = number_below i in omega arith)).links

  pub start_is : (i : Side) (r : ℕ) → r ≡ next_of (links_of c (residents_in c w)) (c + number_of i) → r ≡ get_or (slots_at i c w) 0 (c + number_of i)
  start_is i r q = q ∙ links_first _ (c + number_of i) (slots_of c (parts_of c w) (number_of i)) (c + number_of i) (ring i) ∙ ap (λ (l : List ℕ). get_or l 0 (c + number_of i)) (sym (slots_are i))

  after : (e r : ℕ) (i : Side) (j : ℕ) → r ≡ next_of (links_of c (residents_in c w)) e → j < length (slots_at i c w) → get_or (slots_at i c w) j 0 ≡ e → r ≡ get_or (slots_at i c w) (suc j) (c + number_of i)
  after e r i j q less at =
      q
      ∙ links_next _ (c + number_of i) (slots_of c (parts_of c w) (number_of i)) (c + number_of i) j e (ring i) (rw (slots_are i) at less) (rw (slots_are i) at at)
      ∙ ap (λ (l : List ℕ). get_or l (suc j) (c + number_of i)) (sym (slots_are i))

  pub next_is : (e r : ℕ) → r ≡ next_of (links_of c (residents_in c w)) e → NextIs c w e r
  next_is e r q = record { next = λ i j less at. after e r i j q less at }

  -- ---- the taken slots: those whose place is not dead
  module _ (e : ℕ) (low : e < c) where
    once : taken e (state_in c w).lists + times e (slots_of c (parts_of c w) 2) ≡ 1
    unfolding state_in state_of
    once = state_slotted c (parts_of c w) s.holds e ∙ ap one (lt-ltb e c low)

    -- in list i, of three
    In : ℕ → Type 0
    In i = Mem e (slots_of c (parts_of c w) i)

    free_dead : In 2 → (eqb (prev_of (lookup.links_of (places_of c) (lookup_in c w)) e) e ≡ true) × (ltb 0 (taken e (state_in c w).lists) ≡ false)
    unfolding Dead parts_of In
    free_dead m =
        let z : times e (slots_of c (parts_of c w) 2) ≡ 1 = times_member e (slots_of c (parts_of c w) 2) (slots_distinct c (parts_of c w) _ _ _ (named c (parts_of c w) s.holds) 2 (omega arith)) m in
        (eq-eqb _ e (s.holds.free e m), le-ltb 0 (taken e (state_in c w).lists) (omega (arith, once)))

    held_live : (i : ℕ) → i < 2 → In i → (eqb (prev_of (lookup.links_of (places_of c) (lookup_in c w)) e) e ≡ true → ⊥) × (ltb 0 (taken e (state_in c w).lists) ≡ true)
    unfolding Dead parts_of In
    held_live i side m =
        let z : times e (slots_of c (parts_of c w) 2) ≡ 0 = times_fresh e (slots_of c (parts_of c w) 2) (slots_apart c (parts_of c w) _ _ _ (named c (parts_of c w) s.holds) i 2 (omega arith) (omega arith) (omega arith) e m) in
        (λ q. dead_not_held c (parts_of c w) _ _ _ (named c (parts_of c w) s.holds) e (eqb-true _ e q) (s.holds.listed i e side m), lt-ltb 0 (taken e (state_in c w).lists) (omega (arith, once)))

    both : (d : Bool) → d ≡ eqb (prev_of (lookup.links_of (places_of c) (lookup_in c w)) e) e → ((d ≡ true) × (ltb 0 (taken e (state_in c w).lists) ≡ false)) ⊎ ((d ≡ true → ⊥) × (ltb 0 (taken e (state_in c w).lists) ≡ true))
    unfolding In
    both d q = let r = slot_somewhere c (parts_of c w) (slots_of c (parts_of c w)) (live_in c (parts_of c w)) (spare_in c (parts_of c w)) (named c (parts_of c w) s.holds) e low in go r.0 r.1 r.2 (same_or_other r.0 2)
      where
        go : (i : ℕ) → i < 3 → In i → (i ≡ 2) ⊎ (i ≡ 2 → ⊥) → ((d ≡ true) × (ltb 0 (taken e (state_in c w).lists) ≡ false)) ⊎ ((d ≡ true → ⊥) × (ltb 0 (taken e (state_in c w).lists) ≡ true))
        go i hi m (inl z) = let r = free_dead (rw z at m) in inl (q ∙ r.0, r.1)
        go i hi m (inr n) = let r = held_live i (omega arith) m in inr ((λ y. r.0 (sym q ∙ y)), r.1)

    -- a slot is taken where it is not dead
    pub taken_is : (d : Bool) → d ≡ eqb (prev_of (lookup.links_of (places_of c) (lookup_in c w)) e) e → not d ≡ ltb 0 (taken e (state_in c w).lists)
    taken_is d q = go d (both d q)
      where
        go : (t : Bool) → ((t ≡ true) × (ltb 0 (taken e (state_in c w).lists) ≡ false)) ⊎ ((t ≡ true → ⊥) × (ltb 0 (taken e (state_in c w).lists) ≡ true)) → not t ≡ ltb 0 (taken e (state_in c w).lists)
        go true (inl r) = sym r.1
        go true (inr r) = absurd (r.0 refl)
        go false (inl r) = absurd (false≢true r.0)
        go false (inr r) = sym r.1

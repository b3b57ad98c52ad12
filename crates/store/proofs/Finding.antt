-- Where a page is. In order: a page that the state has nowhere, the lookup has nowhere; what the call asks; the lookup's answer as the code has it; what each answer says of the state.
-- Assumes nothing.
use mathlib.Core.Path.{◌≡◌, refl, sym, ap, ◌∙◌}
use mathlib.Core.Bool.{Bool, true, false}
use Rattle.std.specs.Prelude.{Option, Some, None}
use mathlib.Core.Option.{Option as Maybe, some, none}
use mathlib.Core.List.{List}
use Prim.Native.Nat.{ℕ, zero, suc, ◌+◌, ◌-◌, ◌*◌, ◌<◌, ◌≤◌}
use native.Mathlib.Omega.{arith}
use lib.Dec.{ltb}
use borrow.Author.Tests.{ltb-true, ltb-false}
use Rattle.rules.specs.State.{resident}
use Rattle.rules.specs.declared.Side.{Side}
use Rattle.rules.specs.declared.Side.TheVariants.{First as first, Second as second}
use Rattle.rules.specs.Calls.{Place as RulesPlace, ghost, nowhere}
use Rattle.rules.specs.Stages.{place_of}
use Rattle.rules.specs.Car.{Resident as CarResident}
use Rattle.lookup.specs.Buckets.{buckets_of, places_of}
use Rattle.lookup.specs.Lookup.{Place, at, look, answered, bucket_in, CanFind, none as no_place}
use Rattle.lookup.proofs.Table.{held_below}
use Rattle.lookup.proofs.Look.{look_held, answer_some, answer_none}
use Rattle.area_state.specs.Parts.{Parts, Holds, number_of, ghost_place, resident_of, state_of}
use Rattle.area_state.proofs.Reading.{resident_at_lem}
use Rattle.area_state.proofs.Finding.{may_find, found_slot, found_resident, found_cell, ghost_no_resident, found_ghost, absent_no_resident, found_nowhere}
use Rattle.area.specs.Area.{side_of, lookup_in, parts_of, Fit}
use Rattle.area.specs.Stored.{Stored, state_in}
use Rattle.store.specs.Store.{HasGhost, FoundIs}
use Rattle.store.proofs.Slots.{is_slot}
use Rattle.store.specs.declared.Found.TheVariants.{Resident, InB1, InB2, Nowhere}

-- one answer is not another
how_many : {A : Type 0} → Maybe A → ℕ
how_many none = 0
how_many (some a) = 1

not_none : {A : Type 0} (o : Maybe A) (a : A) → o ≡ none → o ≡ some a → ⊥
unfolding how_many
not_none o a p q = let z : ◌≡◌ {A = ℕ} 0 1 = ap how_many (sym p ∙ q) in omega arith

lists : RulesPlace → ℕ
lists nowhere = 0
lists (ghost i) = 1

not_nowhere : (o : RulesPlace) (i : Side) → o ≡ nowhere → o ≡ ghost i → ⊥
unfolding lists
not_nowhere o i p q = let z : ◌≡◌ {A = ℕ} 0 1 = ap lists (sym p ∙ q) in omega arith

-- the side of a list's number has that number
number_of_lem : (i : ℕ) → i < 2 → number_of (side_of i) ≡ i
number_of_lem zero h = refl
number_of_lem (suc zero) h = refl
number_of_lem (suc (suc n)) h = absurd (let z : ⊥ = omega arith in z)

-- ---- a page that the state has nowhere, the lookup has nowhere
module _ (c : ℕ) (p : Parts) (h : Holds c p) (x : ℕ) where
  -- an answer is a place of the lookup
  place_low : (y : ℕ) → look p.lookup (places_of c) (buckets_of c) x ≡ at y → y < 3 * c
  place_low y e = held_below p.lookup (places_of c) (buckets_of c) (bucket_in p.lookup (places_of c)) h.table y (look_held p.lookup (places_of c) (buckets_of c) h.table x y e)

  pub held_nowhere : resident x (state_of c p).lists ≡ none → place_of x (state_of c p).lists ≡ nowhere → look p.lookup (places_of c) (buckets_of c) x ≡ no_place
  held_nowhere a b = go (look p.lookup (places_of c) (buckets_of c) x) refl
    where
      cell : (y : ℕ) → look p.lookup (places_of c) (buckets_of c) x ≡ at y → (i : Side) (g : ℕ) → g < c → y ≡ ghost_place i c g → ⊥
      cell y e i g l is = not_nowhere (place_of x (state_of c p).lists) i b (found_ghost c p h x y e i g l is)

      past : (y : ℕ) → look p.lookup (places_of c) (buckets_of c) x ≡ at y → c ≤ y → (t : Bool) → ltb y (2 * c) ≡ t → ⊥
      past y e l true k = let h : y < 2 * c = ltb-true y (2 * c) k in cell y e first (y - c) (omega arith) (omega arith)
      past y e l false k = let h : 2 * c ≤ y = ltb-false y (2 * c) k in let m : y < 3 * c = place_low y e in cell y e second (y - 2 * c) (omega arith) (omega arith)

      off : (y : ℕ) → look p.lookup (places_of c) (buckets_of c) x ≡ at y → (t : Bool) → ltb y c ≡ t → ⊥
      off y e true k = not_none (resident x (state_of c p).lists) (resident_of c p y) a (found_resident c p h x y e (ltb-true y c k))
      off y e false k = past y e (ltb-false y c k) (ltb y (2 * c)) refl

      go : (z : Place) → look p.lookup (places_of c) (buckets_of c) x ≡ z → look p.lookup (places_of c) (buckets_of c) x ≡ no_place
      go (at y) e = absurd (off y e (ltb y c) refl)
      go no_place e = e

module _ (c : ℕ) (w : List ℕ) (s : Stored c w) (x : ℕ) where
  pub may_look : Fit c w (CanFind (lookup_in c w) (places_of c) (buckets_of c) x)
  unfolding parts_of
  may_look = record { small = s.holds.small; size = s.size; can = may_find c (parts_of c w) s.holds x }

  -- ---- the answer is none
  pub finds_nowhere : (o : Option ℕ) → o ≡ answered (look (lookup_in c w) (places_of c) (buckets_of c) x) → o ≡ None → FoundIs c w x Nowhere
  unfolding state_in parts_of
  finds_nowhere o q n =
      let e = answer_none (lookup_in c w) (places_of c) (buckets_of c) s.holds.table x o q n in
      (absent_no_resident c (parts_of c w) s.holds x e, found_nowhere c (parts_of c w) s.holds x e)

  -- ---- the answer is the place y
  module _ (o : Option ℕ) (q : o ≡ answered (look (lookup_in c w) (places_of c) (buckets_of c) x)) (y : ℕ) (t : o ≡ Some y) where
    is_at : look (parts_of c w).lookup (places_of c) (buckets_of c) x ≡ at y
    unfolding parts_of
    is_at = answer_some (lookup_in c w) (places_of c) (buckets_of c) s.holds.table x o y q t

    low : y < 3 * c
    low = place_low c (parts_of c w) s.holds x y is_at

    -- ---- what it says
    pub finds_slot : y < c → FoundIs c w x (Resident y)
    unfolding state_in
    finds_slot h =
        let e = is_at in
        let l = found_slot c (parts_of c w) s.holds x y e h in (
          is_slot c w (side_of l.number) y (record { stored = s; member = rw (number_of_lem l.number l.side) l.member }),
          found_resident c (parts_of c w) s.holds x y e h ∙ ap (λ (r : CarResident). some r) (sym (resident_at_lem c (parts_of c w) l.number y l.side l.member)),
        )

    module _ (i : Side) (g : ℕ) (lg : g < c) (is : y ≡ ghost_place i c g) where
      finds_cell : HasGhost c w i g x
      finds_cell = let m = found_cell c (parts_of c w) s.holds x y is_at i g lg is in record { stored = s; member = m.member; page = m.page }

      finds_no_resident : resident x (state_in c w).lists ≡ none
      unfolding state_in
      finds_no_resident = ghost_no_resident c (parts_of c w) s.holds x y is_at i g lg is

      finds_ghost : place_of x (state_in c w).lists ≡ ghost i
      unfolding state_in
      finds_ghost = found_ghost c (parts_of c w) s.holds x y is_at i g lg is

    pub finds_b1 : c ≤ y → y < 2 * c → FoundIs c w x (InB1 (y - c))
    finds_b1 l h =
        let lg : y - c < c = omega arith in let is : y ≡ c + (y - c) = omega arith in
        (finds_cell first (y - c) lg is, finds_no_resident first (y - c) lg is, finds_ghost first (y - c) lg is)

    pub finds_b2 : 2 * c ≤ y → FoundIs c w x (InB2 (y - 2 * c))
    finds_b2 l =
        let ly = low in let lg : y - 2 * c < c = omega arith in let is : y ≡ 2 * c + (y - 2 * c) = omega arith in
        (finds_cell second (y - 2 * c) lg is, finds_no_resident second (y - 2 * c) lg is, finds_ghost second (y - 2 * c) lg is)

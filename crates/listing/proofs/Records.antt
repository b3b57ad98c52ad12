-- The records of a listing are those of the rules. In order: ARC's; CAR's; both, with their number. Assumes nothing.
use mathlib.Core.Path.{◌≡◌, refl, sym, ap, ◌∙◌}
use mathlib.Core.Bool.{Bool, true, false, cond}
use mathlib.Core.Logic.{inl, inr}
use mathlib.Core.List.{List, [], ◌∷◌, ◌++◌, map}
use Prim.Native.Nat.{ℕ, zero, suc, ◌+◌, ◌<◌}
use native.Mathlib.Omega.{arith}
use lib.Dec.{eqb, ltb}
use lib.ListN.{length, length-map, length-append}
use borrow.Author.Tests.{lt-ltb}
use Rattle.rules.specs.Lists.{one, times}
use Rattle.rules.specs.State.{residents}
use Rattle.rules.specs.Calls as rules
use Rattle.rules.specs.Calls.{Ask, Listing, Number, asked, record_of}
use Rattle.rules.specs.Arc as arc
use Rattle.rules.specs.Car as car
use Rattle.rules.specs.Car.{Car, Resident, slots, by_slot}
use Rattle.rules.proofs.ListLaws.{times_keys_append}
use Rattle.rules.proofs.Slots.{slot_of}
use Rattle.rules.proofs.ListingLaws.{car_listing}
use Rattle.rings.specs.Members.{Mem}
use Rattle.area_state.specs.Parts.{resident_of, state_of as state_of_parts}
use Rattle.area_state.specs.States.{at_slot, resident_at}
use Rattle.area_state.proofs.HoldsAs.{slots_of}
use Rattle.area_state.proofs.Reading.{resident_at_lem, slots_read, state_obeys}
use Rattle.area.specs.Area.{parts_of}
use Rattle.area.specs.Stored.{Stored, state_in, plainly, arc_of}
use Rattle.contracts.specs.Policy.{policy_of, state_of}
use Rattle.rules.specs.declared.Kind.{Kind}
use Rattle.rules.specs.declared.Kind.TheVariants as kinds
use Rattle.listing.specs.Order.{rising_from, order}
use Rattle.listing.specs.Steps.{order_in, record_at}
use Rattle.listing.specs.Outcome.{record_is, records_are}

map_append : {A B : Type 0} (f : A → B) (l m : List A) → map f (l ++ m) ≡ map f l ++ map f m
map_append f [] m = refl
map_append f (x ∷ l) m = ap (λ (k : List _). f x ∷ k) (map_append f l m)

-- ---- ARC: the residents f of slots, each the resident of its slot
plain_records : (s : Car) (f : ℕ → Resident) (xs : List ℕ) → ((x : ℕ) → Mem x xs → resident_at x s ≡ f x) → map record_of (map plainly (map f xs)) ≡ records_are (map (record_at s) xs)
unfolding record_at
plain_records s f [] h = refl
plain_records s f (x ∷ xs) h = rw (sym (h x (inl refl)), plain_records s f xs (λ y m. h y (inr m))) refl

-- ---- CAR: the resident of a slot, where there is one
at_slot_lem : (k : ℕ) (l : List Resident) (r : List rules.Record) → car.at_slot k l r ≡ cond (ltb 0 (times k (slots l))) (record_of (at_slot k l) ∷ r) r
at_slot_lem k [] r = refl
at_slot_lem k (e ∷ l) r = go (eqb k e.more.slot) (at_slot_lem k l r)
  where
    go : (b : Bool) → car.at_slot k l r ≡ cond (ltb 0 (times k (slots l))) (record_of (at_slot k l) ∷ r) r
        → cond b (record_of e ∷ r) (car.at_slot k l r) ≡ cond (ltb 0 (one b + times k (slots l))) (record_of (cond b e (at_slot k l)) ∷ r) r
    go true ih = rw (lt-ltb 0 (1 + times k (slots l)) (omega arith)) refl
    go false ih = let z : 0 + times k (slots l) ≡ times k (slots l) = omega arith in rw z ih

module _ (s : Car) where
  rising_records : (k n : ℕ) → by_slot k n (s.lists.T1 ++ s.lists.T2) ≡ records_are (map (record_at s) (rising_from s.lists k n))
  unfolding by_slot record_at resident_at
  rising_records k zero = refl
  rising_records k (suc n) =
      at_slot_lem k (s.lists.T1 ++ s.lists.T2) (by_slot (suc k) n (s.lists.T1 ++ s.lists.T2))
      ∙ rw (times_keys_append slot_of k s.lists.T1 s.lists.T2, rising_records (suc k) n) (go (ltb 0 (times k (slots s.lists.T1) + times k (slots s.lists.T2))))
    where
      go : (b : Bool) → cond b (record_of (at_slot k (s.lists.T1 ++ s.lists.T2)) ∷ records_are (map (record_at s) (rising_from s.lists (suc k) n))) (records_are (map (record_at s) (rising_from s.lists (suc k) n)))
          ≡ records_are (map (record_at s) (cond b (k ∷ rising_from s.lists (suc k) n) (rising_from s.lists (suc k) n)))
      go true = refl
      go false = refl

-- ---- both
module _ (c : ℕ) (w : List ℕ) (t : Stored c w) where
  -- the slots of T1 and T2 as the parts have them
  at_resident : (i : ℕ) → i < 2 → (x : ℕ) → Mem x (slots_of c (parts_of c w) i) → resident_at x (state_in c w) ≡ resident_of c (parts_of c w) x
  unfolding state_in
  at_resident i side x m = resident_at_lem c (parts_of c w) i x side m

  arc_records_lem : arc.listing (arc_of (state_in c w)) ≡ records_are (map (record_at (state_in c w)) (order_in kinds.Arc c w))
  unfolding order arc_of state_in state_of_parts
  arc_records_lem =
      let xs : List ℕ = slots_of c (parts_of c w) 0 in
      let ys : List ℕ = slots_of c (parts_of c w) 1 in
      let f = resident_of c (parts_of c w) in
      map_append record_of (map plainly (map f xs)) (map plainly (map f ys))
      ∙ rw (plain_records (state_in c w) f xs (at_resident 0 (omega arith)), plain_records (state_in c w) f ys (at_resident 1 (omega arith)), slots_read c (parts_of c w) xs, slots_read c (parts_of c w) ys)
      (sym (ap records_are (map_append (record_at (state_in c w)) xs ys) ∙ map_append record_is (map (record_at (state_in c w)) xs) (map (record_at (state_in c w)) ys)))

  car_records_lem : car.listing (state_in c w) ≡ records_are (map (record_at (state_in c w)) (order_in kinds.Car c w))
  unfolding order car.listing
  car_records_lem = rising_records (state_in c w) 0 (state_in c w).lists.c

  pub listing_is : (kind : Kind) → (policy_of kind).listing (state_of (policy_of kind) c w) ≡ records_are (map (record_at (state_in c w)) (order_in kind c w))
  listing_is kinds.Arc = arc_records_lem
  listing_is kinds.Car = car_records_lem

  -- as many as there are residents
  arc_length : length (order_in kinds.Arc c w) ≡ residents (state_in c w).lists
  unfolding order
  arc_length = omega (arith, length-append (slots (state_in c w).lists.T1) (slots (state_in c w).lists.T2), length-map (state_in c w).lists.T1 slot_of, length-map (state_in c w).lists.T2 slot_of)

  car_count : length (car.listing (state_in c w)) ≡ residents (state_in c w).lists
  unfolding state_in
  car_count = car_listing (state_in c w) (state_obeys c (parts_of c w) t.holds)

  pub order_length : (kind : Kind) → length (order_in kind c w) ≡ residents (state_in c w).lists
  order_length kinds.Arc = arc_length
  order_length kinds.Car =
      sym (length-map (order_in kinds.Car c w) (record_at (state_in c w)))
      ∙ sym (length-map (map (record_at (state_in c w)) (order_in kinds.Car c w)) record_is)
      ∙ sym (ap length car_records_lem)
      ∙ car_count

  -- the answer of the rules
  arc_answer : (n : ℕ) → (arc.does (Ask (Listing n)) (arc_of (state_in c w))).answer ≡ cond (ltb n (residents (state_in c w).lists)) (rules.Refused 6) (Number (residents (state_in c w).lists))
  unfolding arc.does asked arc_of
  arc_answer n = rw (length-map (state_in c w).lists.T1 plainly, length-map (state_in c w).lists.T2 plainly) refl

  car_answer : (n : ℕ) → (car.does (Ask (Listing n)) (state_in c w)).answer ≡ cond (ltb n (residents (state_in c w).lists)) (rules.Refused 6) (Number (residents (state_in c w).lists))
  unfolding car.does asked
  car_answer n = refl

  pub answer_is : (kind : Kind) (n : ℕ) → ((policy_of kind).does (Ask (Listing n)) (state_of (policy_of kind) c w)).answer ≡ cond (ltb n (length (order_in kind c w))) (rules.Refused 6) (Number (length (order_in kind c w)))
  answer_is kinds.Arc n = rw (order_length kinds.Arc) (arc_answer n)
  answer_is kinds.Car n = rw (order_length kinds.Car) (car_answer n)

-- A listing has a record for each resident, of either policy.
-- Assumes nothing.
use mathlib.Core.Path.{◌≡◌, refl, sym, ap, ◌∙◌}
use mathlib.Core.List.{List, [], ◌∷◌, ◌++◌, map}
use mathlib.Core.Bool.{Bool, true, false, cond}
use Prim.Native.Nat.{ℕ, zero, suc, ◌+◌, ◌≤◌}
use native.Mathlib.Omega.{arith}
use lib.Dec.{ltb, eqb}
use lib.ListN.{length, length-append}
use borrow.Author.Tests.{ltb-false, le-ltb, eqb-true}
use Rattle.rules.specs.Lists.{one, times, count_from}
use Rattle.rules.specs.State.{residents}
use Rattle.rules.specs.Calls.{Record, record_of}
use Rattle.rules.specs.Arc
use Rattle.rules.specs.Car.{Resident, slots, Car, at_slot, by_slot}
use Rattle.rules.specs.Car
use Rattle.rules.proofs.ListLaws.{by_test, eqb_self, one_self, one_le, eqb_swap, times_keys_append}
use Rattle.rules.proofs.Slots.{slot_of, all_free}

-- ---- ARC
length_map : {A B : Type 0} (f : A → B) (l : List A) → length (map f l) ≡ length l
length_map f [] = refl
length_map f (x ∷ l) = ap suc (length_map f l)

pub arc_listing : (s : Arc.Arc) → length (Arc.listing s) ≡ residents s
arc_listing s = omega (arith, length_map record_of (s.T1 ++ s.T2), length-append s.T1 s.T2)

-- ---- CAR: as many records as there are slots among the residents'
-- how often the n numbers from k on stand in a list
abbrev times_from : ℕ → ℕ → List ℕ → ℕ
times_from k zero l = 0
times_from k (suc n) l = times k l + times_from (suc k) n l

at_slot_lem : (k : ℕ) (l : List Resident) (r : List Record) → times k (slots l) ≤ 1 → length (at_slot k l r) ≡ times k (slots l) + length r
at_slot_lem k [] r h = omega arith
at_slot_lem k (e ∷ l) r h = go (eqb k e.more.slot) h (at_slot_lem k l r)
  where
    go : (b : Bool) → one b + times k (slots l) ≤ 1 → (times k (slots l) ≤ 1 → length (at_slot k l r) ≡ times k (slots l) + length r)
        → length (cond b (record_of e ∷ r) (at_slot k l r)) ≡ one b + times k (slots l) + length r
    go true n ih = omega arith
    go false n ih = omega (arith, ih (omega arith))

by_slot_lem : (k n : ℕ) (l : List Resident) → ((j : ℕ) → times j (slots l) ≤ 1) → length (by_slot k n l) ≡ times_from k n (slots l)
unfolding by_slot
by_slot_lem k zero l h = refl
by_slot_lem k (suc n) l h = omega (arith, at_slot_lem k l (by_slot (suc k) n l) (h k), by_slot_lem (suc k) n l h)

-- counted by the numbers of the list instead
eqb_both : (x y : ℕ) → eqb x y ≡ eqb y x
eqb_both x y = by_test (λ b. eqb x y ≡ b → b ≡ eqb y x) (eqb x y)
    (λ _ e. sym (ap (λ t. eqb t x) (sym (eqb-true x y e)) ∙ eqb_self x)) (λ _ e. sym (eqb_swap x y e)) refl

from_none : (k n : ℕ) → times_from k n [] ≡ 0
from_none k zero = refl
from_none k (suc n) = omega (arith, from_none (suc k) n)

from_more : (k n x : ℕ) (l : List ℕ) → times_from k n (x ∷ l) ≡ times x (count_from k n) + times_from k n l
from_more k zero x l = refl
from_more k (suc n) x l = omega (arith, from_more (suc k) n x l, ap one (eqb_both k x))

all_below : (c : ℕ) (l : List ℕ) → ((k : ℕ) → c ≤ k → times k l ≡ 0) → times_from 0 c l ≡ length l
all_below c [] h = from_none 0 c
all_below c (x ∷ l) h =
    let ih = all_below c l (λ k g. omega (arith, h k g)) in
    let yes : ltb x c ≡ true = by_test (λ b. ltb x c ≡ b → b ≡ true) (ltb x c) (λ _ _. refl) (λ _ e. absurd (omega (arith, h x (ltb-false x c e), one_self x))) refl in
    omega (arith, from_more 0 c x l, all_free x c, ap one yes)

pub car_listing : (s : Car) → Car.Obeys s → length (Car.listing s) ≡ residents s.lists
unfolding Car.listing
car_listing s o =
    let a = s.lists.T1 in
    let b = s.lists.T2 in
    let each : (k : ℕ) → times k (slots (a ++ b)) ≤ one (ltb k s.lists.c) = λ k. omega (arith, times_keys_append slot_of k a b, o.slotted k) in
    let below : (k : ℕ) → s.lists.c ≤ k → times k (slots (a ++ b)) ≡ 0 = λ k g. omega (arith, each k, ap one (le-ltb k s.lists.c g)) in
    by_slot_lem 0 s.lists.c (a ++ b) (λ k. omega (arith, each k, one_le (ltb k s.lists.c)))
    ∙ (all_below s.lists.c (slots (a ++ b)) below ∙ (length_map slot_of (a ++ b) ∙ length-append a b))

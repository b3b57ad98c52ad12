-- A state of ARC with slots, so that it can be written: 0, 1, 2 and so on through T1 and then T2, no bit set, the
-- other slots free in rising order. ARC sees none of this. Assumes nothing.
use Rattle.std.specs.Prelude.{false, List, [], ◌∷◌, ℕ, suc, ◌-◌, length}
use Rattle.rules.specs.Lists.{count_from}
use Rattle.rules.specs.State.{Entry, entry, residents}
use Rattle.rules.specs.Arc.{Arc, Plain}
use Rattle.rules.specs.Car.{Car, car, clocked, Resident}

-- a list with the slots from n on
abbrev pub slotted : ℕ → List (Entry Plain) → List Resident
slotted n [] = []
slotted n (e ∷ l) = entry e.page e.frame (clocked n false) ∷ slotted (suc n) l

unfoldable pub car_of : Arc → Car
car_of a =
    car (record {
      c = a.c;
      target = a.target;
      T1 = slotted 0 a.T1;
      T2 = slotted (length a.T1) a.T2;
      B1 = a.B1;
      B2 = a.B2;
    })
    (count_from (residents a) (a.c - residents a))

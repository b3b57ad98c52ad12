-- A state of ARC with slots, computed: T1 before T2, each from its front, and then the free ones; ghosts have none.
-- Assumes nothing.
use mathlib.Core.Path.{◌≡◌, refl}
use mathlib.Core.Bool.{false}
use mathlib.Core.List.{[], ◌∷◌}
use Rattle.rules.specs.State.{entry}
use Rattle.rules.specs.Arc.{Arc}
use Rattle.rules.specs.Car.{car, clocked}
use Rattle.writings.specs.Slotting.{car_of}

pub five : Arc
five =
    record {
      c = 5;
      target = 2;
      T1 = entry 70 7 tt ∷ entry 80 8 tt ∷ [];
      T2 = entry 90 9 tt ∷ [];
      B1 = 60 ∷ [];
      B2 = [];
    }

pub slots_in_order : car_of five ≡
    car (record {
      c = 5;
      target = 2;
      T1 = entry 70 7 (clocked 0 false) ∷ entry 80 8 (clocked 1 false) ∷ [];
      T2 = entry 90 9 (clocked 2 false) ∷ [];
      B1 = 60 ∷ [];
      B2 = [];
    })
    (3 ∷ 4 ∷ [])
unfolding car_of five
slots_in_order = refl

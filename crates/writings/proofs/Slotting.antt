-- A state of ARC with slots is well formed by CAR's rules, and ARC sees it as it was. Assumes nothing.
use mathlib.Core.Path.{◌≡◌, refl, ap, ◌∙◌}
use mathlib.Core.List.{List, [], ◌∷◌, map}
use Prim.Native.Nat.{ℕ, zero, suc, ◌+◌, ◌-◌, ◌≤◌}
use native.Mathlib.Omega.{arith}
use native.Mathlib.Nat.{zero-add, suc-add}
use lib.Dec.{ltb}
use lib.ListN.{length}
use Rattle.rules.specs.Lists.{one, times, count_from, Each}
use Rattle.rules.specs.State.{Entry, pages, Sound, Ranged, Fits}
use Rattle.rules.specs.Arc as arc
use Rattle.rules.specs.Arc.{Arc, Plain}
use Rattle.rules.specs.Car.{slots, taken, WellFormed}
use Rattle.rules.proofs.Slots.{all_free}
use Rattle.area.specs.Stored.{plainly, arc_of}
use Rattle.writings.specs.Slotting.{slotted, car_of}

-- ---- a list with slots
pages_slotted : (n : ℕ) (l : List (Entry Plain)) → pages (slotted n l) ≡ pages l
pages_slotted n [] = refl
pages_slotted n (e ∷ l) = ap (λ (m : List ℕ). e.page ∷ m) (pages_slotted (suc n) l)

slots_slotted : (n : ℕ) (l : List (Entry Plain)) → slots (slotted n l) ≡ count_from n (length l)
slots_slotted n [] = refl
slots_slotted n (e ∷ l) = ap (λ (m : List ℕ). n ∷ m) (slots_slotted (suc n) l)

length_slotted : (n : ℕ) (l : List (Entry Plain)) → length (slotted n l) ≡ length l
length_slotted n [] = refl
length_slotted n (e ∷ l) = ap suc (length_slotted (suc n) l)

each_slotted : (n : ℕ) (l : List (Entry Plain)) → Each Fits l → Each Fits (slotted n l)
each_slotted n [] h = tt
each_slotted n (e ∷ l) h = (h.0, each_slotted (suc n) l h.1)

plain_slotted : (n : ℕ) (l : List (Entry Plain)) → map plainly (slotted n l) ≡ l
plain_slotted n [] = refl
plain_slotted n (e ∷ l) = ap (λ (m : List (Entry Plain)). e ∷ m) (plain_slotted (suc n) l)

-- ---- n numbers, and m after them
times_from_lem : (k a n m b : ℕ) → a + n ≡ b
    → times k (count_from a (n + m)) ≡ times k (count_from a n) + times k (count_from b m)
times_from_lem k a zero m b q = let e : b ≡ a = omega arith in rw (zero-add m, e, zero-add (times k (count_from a m))) refl
times_from_lem k a (suc n) m b q = let h = times_from_lem k (suc a) n m b (omega arith) in rw suc-add (omega arith)

-- ---- the state
module _ (a : Arc) where
  -- ARC SEES IT AS IT WAS
  pub arc_view : arc_of (car_of a) ≡ a
  unfolding arc_of car_of
  arc_view = rw (plain_slotted 0 a.T1, plain_slotted (length a.T1) a.T2) refl

  module _ (w : arc.WellFormed a) where
    sound : Sound (car_of a).lists
    unfolding car_of
    sound =
        let o = w.obeys.sound in
        record {
          distinct = λ x. rw (pages_slotted 0 a.T1, pages_slotted (length a.T1) a.T2) (o.distinct x);
          room = rw (length_slotted 0 a.T1, length_slotted (length a.T1) a.T2) o.room;
          ghosts1 = o.ghosts1;
          ghosts2 = o.ghosts2;
          aim = o.aim;
        }

    ranged : Ranged (car_of a).lists
    unfolding car_of
    ranged =
        let r = w.ranged in
        record {
          capacity = r.capacity;
          recent = each_slotted 0 a.T1 r.recent;
          frequent = each_slotted (length a.T1) a.T2 r.frequent;
          ghosts1 = r.ghosts1;
          ghosts2 = r.ghosts2;
        }

    slotted_once : (k : ℕ) → taken k (car_of a).lists + times k (car_of a).free ≡ one (ltb k a.c)
    unfolding car_of
    slotted_once k =
        let n = length a.T1 in
        let m = length a.T2 in
        let r : n + m ≤ a.c = w.obeys.sound.room in
        let all : n + m + (a.c - (n + m)) ≡ a.c = omega arith in
        let x = times_from_lem k 0 n m n (omega arith) in
        let y = times_from_lem k 0 (n + m) (a.c - (n + m)) (n + m) (omega arith) in
        let z = ap (λ (j : ℕ). times k (count_from 0 j)) all ∙ all_free k a.c in
        rw (slots_slotted 0 a.T1, slots_slotted (length a.T1) a.T2) (omega arith)

    -- WELL FORMED
    pub slotted_formed : WellFormed (car_of a)
    unfolding car_of
    slotted_formed = record { obeys = record { sound = sound; slotted = slotted_once }; ranged = ranged }

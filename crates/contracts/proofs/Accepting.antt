-- No call on a state is refused with 3, both policies. Assumes nothing.
use mathlib.Core.Path.{◌≡◌, refl}
use mathlib.Core.Bool.{Bool, true, false, cond}
use mathlib.Core.Option.{Option, some, none}
use Prim.Native.Nat.{ℕ}
use lib.Dec.{ltb, eqb}
use Rattle.rules.specs.State.{Entry, Lists, residents, resident}
use Rattle.rules.specs.Calls.{Call, Get, Insert, Remove, Clear, Ask, Question, Peek, Contains, Len, Capacity, Target, T1Len, T2Len, B1Len, B2Len, Listing, Answer, Hit, Miss, New, Old, None, Gone, Absent, Cleared, See, No, Holds, Number, Made, Finished, Stopped, Refused, seen_frame, asked}
use Rattle.rules.specs.Arc as arc
use Rattle.rules.specs.Car as car

-- it is refusal 3
abbrev pub is3 : Answer → Bool
is3 (Hit f) = false
is3 Miss = false
is3 (New v n) = false
is3 (Old f) = false
is3 None = false
is3 (Gone f) = false
is3 Absent = false
is3 Cleared = false
is3 (See f) = false
is3 No = false
is3 (Holds b) = false
is3 (Number n) = false
is3 Made = false
is3 (Finished n) = false
is3 (Stopped r o) = false
is3 (Refused n) = eqb n 3

-- ---- questions
room_accepts : (b : Bool) (n : ℕ) → is3 (cond b (Refused 6) (Number n)) ≡ false
room_accepts true n = refl
room_accepts false n = refl

module _ {X : Type 0} where
  see_accepts : (o : Option (Entry X)) → is3 (seen_frame o) ≡ false
  see_accepts none = refl
  see_accepts (some e) = refl

  ask_accepts : (q : Question) (s : Lists X) → is3 (asked q s) ≡ false
  unfolding asked
  ask_accepts (Peek x) s = see_accepts (resident x s)
  ask_accepts (Contains x) s = refl
  ask_accepts Len s = refl
  ask_accepts Capacity s = refl
  ask_accepts Target s = refl
  ask_accepts T1Len s = refl
  ask_accepts T2Len s = refl
  ask_accepts B1Len s = refl
  ask_accepts B2Len s = refl
  ask_accepts (Listing n) s = room_accepts (ltb n (residents s)) (residents s)

-- ---- ARC
got_accepts : (o : Option arc.Resident) (s : arc.Arc) → is3 (arc.got o s).answer ≡ false
unfolding arc.got
got_accepts none s = refl
got_accepts (some e) s = refl

insert_accepts : (z : Bool) (o : Option arc.Resident) (x f : ℕ) (s : arc.Arc) → is3 (arc.inserted z o x f s).answer ≡ false
unfolding arc.inserted arc.insert_at
insert_accepts true o x f s = refl
insert_accepts false (some e) x f s = refl
insert_accepts false none x f s = refl

remove_accepts : (o : Option arc.Resident) (s : arc.Arc) → is3 (arc.removed o s).answer ≡ false
unfolding arc.removed
remove_accepts none s = refl
remove_accepts (some e) s = refl

pub arc_accepts : (k : Call) (s : arc.Arc) → is3 (arc.does k s).answer ≡ false
unfolding arc.does
arc_accepts (Get x) s = got_accepts (resident x s) s
arc_accepts (Insert x f) s = insert_accepts (eqb s.c 0) (resident x s) x f s
arc_accepts (Remove x) s = remove_accepts (resident x s) s
arc_accepts Clear s = refl
arc_accepts (Ask q) s = ask_accepts q s

-- ---- CAR
hit_accepts : (o : Option car.Resident) (s : car.Car) → is3 (car.got o s).answer ≡ false
unfolding car.got
hit_accepts none s = refl
hit_accepts (some e) s = refl

inserted_accepts : (z : Bool) (o : Option car.Resident) (x f : ℕ) (s : car.Car) → is3 (car.inserted z o x f s).answer ≡ false
unfolding car.inserted car.insert_at
inserted_accepts true o x f s = refl
inserted_accepts false (some e) x f s = refl
inserted_accepts false none x f s = refl

removed_accepts : (o : Option car.Resident) (s : car.Car) → is3 (car.removed o s).answer ≡ false
unfolding car.removed
removed_accepts none s = refl
removed_accepts (some e) s = refl

pub car_accepts : (k : Call) (s : car.Car) → is3 (car.does k s).answer ≡ false
unfolding car.does
car_accepts (Get x) s = hit_accepts (resident x s.lists) s
car_accepts (Insert x f) s = inserted_accepts (eqb s.lists.c 0) (resident x s.lists) x f s
car_accepts (Remove x) s = removed_accepts (resident x s.lists) s
car_accepts Clear s = refl
car_accepts (Ask q) s = ask_accepts q s.lists

-- Shape facts for the layers above, stated once for both policies: a page is in at most one list; lengths after each stage; how many are resident
-- after each call; how long a listing is.
-- Assumes nothing.
use mathlib.Core.Path.{◌≡◌, refl, ap}
use mathlib.Core.List.{[], ◌∷◌, ◌++◌}
use mathlib.Core.Bool.{Bool, true, false}
use mathlib.Core.Option.{Option, some, none}
use Prim.Native.Nat.{ℕ, ◌+◌, ◌-◌, ◌*◌, ◌≤◌, min}
use native.Mathlib.Omega.{arith}
use lib.Dec.{leb, eqb}
use lib.ListN.{length, get_or, length-append, length-take}
use borrow.Author.Tests.{eqb-false, leb-true, leb-false}
use Rattle.rules.specs.Lists.{times, drop_last, last}
use Rattle.rules.specs.State.{Entry, entry, pages, Lists, Side, first, second, list, ghosts, residents, full, resident, leaves, Sound}
use Rattle.rules.specs.Calls.{Call, Get, Insert, Remove, Clear, Ask, Place, ghost, nowhere, Replaced, replace_if}
use Rattle.rules.specs.Ghosts.{record_in, drop_oldest}
use Rattle.rules.specs.Stages.{place_of, ghost_hit, is_b2, goes_to, turn}
use Rattle.rules.specs.Arc
use Rattle.rules.specs.Car
use Rattle.rules.proofs.ListLaws.{length_drop_last, no_last, last_plus, changed_length}
use Rattle.rules.proofs.StateLaws.{turn_some, residents_set, left, put_out_fact, ready, is_resident}
use Rattle.rules.proofs.Sweep.{replace_swept}

-- ---- a page is in at most one list
pub data Where : Type 0 where
  listed : Side → Where
  ghosted : Side → Where

module _ {X : Type 0} where
  abbrev pub times_in : Where → ℕ → Lists X → ℕ
  times_in (listed i) x s = times x (pages (list i s))
  times_in (ghosted i) x s = times x (ghosts i s)

  pub at_most_once : (a : Where) (x : ℕ) (s : Lists X) → Sound s → times_in a x s ≤ 1
  at_most_once (listed first) x s w = omega (arith, w.distinct x)
  at_most_once (listed second) x s w = omega (arith, w.distinct x)
  at_most_once (ghosted first) x s w = omega (arith, w.distinct x)
  at_most_once (ghosted second) x s w = omega (arith, w.distinct x)

  pub one_list : (a b : Where) (x : ℕ) (s : Lists X) → Sound s → (a ≡ b → ⊥) → 1 ≤ times_in a x s → times_in b x s ≡ 0
  one_list (listed first) (listed first) x s w n h = absurd (n refl)
  one_list (listed first) (listed second) x s w n h = omega (arith, w.distinct x)
  one_list (listed first) (ghosted first) x s w n h = omega (arith, w.distinct x)
  one_list (listed first) (ghosted second) x s w n h = omega (arith, w.distinct x)
  one_list (listed second) (listed first) x s w n h = omega (arith, w.distinct x)
  one_list (listed second) (listed second) x s w n h = absurd (n refl)
  one_list (listed second) (ghosted first) x s w n h = omega (arith, w.distinct x)
  one_list (listed second) (ghosted second) x s w n h = omega (arith, w.distinct x)
  one_list (ghosted first) (listed first) x s w n h = omega (arith, w.distinct x)
  one_list (ghosted first) (listed second) x s w n h = omega (arith, w.distinct x)
  one_list (ghosted first) (ghosted first) x s w n h = absurd (n refl)
  one_list (ghosted first) (ghosted second) x s w n h = omega (arith, w.distinct x)
  one_list (ghosted second) (listed first) x s w n h = omega (arith, w.distinct x)
  one_list (ghosted second) (listed second) x s w n h = omega (arith, w.distinct x)
  one_list (ghosted second) (ghosted first) x s w n h = omega (arith, w.distinct x)
  one_list (ghosted second) (ghosted second) x s w n h = absurd (n refl)

  -- ---- lengths after each stage. Recording, dropping the oldest and a ghost hit change one ghost list alone.
  pub length_record : (i : Side) (x : ℕ) (s : Lists X) → length (ghosts i (record_in (ghost i) x s)) ≡ min s.c (length (ghosts i s) + 1)
  length_record first x s = omega (arith, length-take s.c (x ∷ s.B1))
  length_record second x s = omega (arith, length-take s.c (x ∷ s.B2))

  pub length_drop_oldest : (i : Side) (s : Lists X) → length (ghosts i (drop_oldest i s)) ≡ length (ghosts i s) - 1
  length_drop_oldest first s = length_drop_last s.B1
  length_drop_oldest second s = length_drop_last s.B2

  other_ghosts : (i : Side) (x : ℕ) (s : Lists X) → length s.B1 + length s.B2 ≡ length (ghost_hit i x s).B1 + length (ghost_hit i x s).B2 + 1
      → length (ghosts i s) ≡ length (ghosts i (ghost_hit i x s)) + 1
  other_ghosts first x s h = omega arith
  other_ghosts second x s h = omega arith

  pub length_ghost_hit : (i : Side) (x : ℕ) (s : Lists X) → Sound s → resident x s ≡ none → place_of x s ≡ ghost i
      → length (ghosts i s) ≡ length (ghosts i (ghost_hit i x s)) + 1
  length_ghost_hit i x s w miss at = let r = ready x s i at miss w in other_ghosts i x s (omega (arith, r.1))

  -- ---- how many are resident after each call, of either policy
  abbrev pub grown : Bool → Option (Entry X) → ℕ → ℕ → ℕ
  grown true o c n = n
  grown false (some e) c n = n
  grown false none c n = min c (n + 1)

  abbrev pub shrunk : Option (Entry X) → ℕ → ℕ
  shrunk none n = n
  shrunk (some e) n = n - 1

  -- an insert of a page that is no resident adds one up to c; a removal that finds its page takes one; clear leaves none
  abbrev pub residents_after : Call → Lists X → ℕ
  residents_after (Get x) s = residents s
  residents_after (Insert x f) s = grown (eqb s.c 0) (resident x s) s.c (residents s)
  residents_after (Remove x) s = shrunk (resident x s) (residents s)
  residents_after Clear s = 0
  residents_after (Ask q) s = residents s

  -- a resident leaves
  leaves_one : (x : ℕ) (s : Lists X) (e : Entry X) → Sound s → resident x s ≡ some e → residents s ≡ residents (leaves e.page s) + 1
  leaves_one x s e w h = (left e.page s (is_resident s x e h) w).1

-- a replacement frees one where it is full; then there is room for one more, up to c
room_count : {S : Type 0} (count : S → ℕ) (replace : S → Replaced S) (c : ℕ) (b : Bool) (s : S) → leb c (count s) ≡ b → count s ≤ c → 1 ≤ c
    → (1 ≤ count s → count s ≡ count (replace s).state + 1) → count (replace_if b replace s).state + 1 ≡ min c (count s + 1)
room_count count replace c false s h k p f = omega (arith, leb-false)
room_count count replace c true s h k p f = omega (arith, leb-true, f (omega (arith, leb-true)))

-- ---- ARC
put_count : (o : Option Arc.Resident) (i : Side) (s : Arc.Arc) → last (list i s) ≡ o → 1 ≤ length (list i s) → residents s ≡ residents (Arc.put_out o i s).state + 1
unfolding Arc.put_out
put_count none i s h k = let z = ap length (no_last (list i s) h) in absurd (omega arith)
put_count (some e) i s h k = (put_out_fact i e.page (drop_last (list i s)) s (last_plus (list i s) e h)).less

arc_replace_count : (hit : Bool) (s : Arc.Arc) → 1 ≤ residents s → residents s ≡ residents (Arc.replace hit s).state + 1
unfolding Arc.replace
arc_replace_count hit s k = put_count _ (turn hit s) s refl (turn_some hit s k)

trim_count : (a b : Bool) (s : Arc.Arc) → residents (Arc.trim_by a b s) ≡ residents s
unfolding Arc.trim_by
trim_count true b s = refl
trim_count false true s = refl
trim_count false false s = refl

trim_capacity : (a b : Bool) (s : Arc.Arc) → (Arc.trim_by a b s).c ≡ s.c
unfolding Arc.trim_by
trim_capacity true b s = refl
trim_capacity false true s = refl
trim_capacity false false s = refl

arc_room_count : (p : Place) (x : ℕ) (s : Arc.Arc) → Sound s → 1 ≤ s.c → residents (Arc.room_for p x s).state + 1 ≡ min s.c (residents s + 1)
unfolding Arc.room_for Arc.missed Arc.trimmed
arc_room_count (ghost i) x s w k = room_count residents (Arc.replace (is_b2 i)) s.c _ (ghost_hit i x s) refl w.room k (arc_replace_count (is_b2 i) (ghost_hit i x s))
arc_room_count nowhere x s w k =
    let a = leb s.c (length s.T1 + length s.B1) in
    let b = leb (2 * s.c) (residents s + length s.B1 + length s.B2) in
    let t = Arc.trim_by a b s in
    let n = trim_count a b s in
    let m = trim_capacity a b s in
    let r = room_count residents (Arc.replace false) t.c (full t) t refl (omega (arith, w.room)) (omega arith) (arc_replace_count false t) in
    omega arith

front_count : (e : Arc.Resident) (s : Arc.Arc) → residents s ≡ residents (leaves e.page s) + 1 → residents (Arc.to_front e s) ≡ residents s
unfolding Arc.to_front
front_count e s h = omega arith

arc_got_count : (o : Option Arc.Resident) (x : ℕ) (s : Arc.Arc) → resident x s ≡ o → Sound s → residents (Arc.got o s).state ≡ residents s
unfolding Arc.got
arc_got_count none x s h w = refl
arc_got_count (some e) x s h w = front_count e s (leaves_one x s e w h)

arc_removed_count : (o : Option Arc.Resident) (x : ℕ) (s : Arc.Arc) → resident x s ≡ o → Sound s → residents (Arc.removed o s).state ≡ shrunk o (residents s)
unfolding Arc.removed
arc_removed_count none x s h w = refl
arc_removed_count (some e) x s h w = omega (arith, leaves_one x s e w h)

arc_insert_count : (z : Bool) (o : Option Arc.Resident) (x f : ℕ) (s : Arc.Arc) → eqb s.c 0 ≡ z → resident x s ≡ o → Sound s
    → residents (Arc.inserted z o x f s).state ≡ grown z o s.c (residents s)
unfolding Arc.inserted Arc.insert_at Arc.admitted
arc_insert_count true o x f s hc h w = refl
arc_insert_count false (some e) x f s hc h w = front_count (entry e.page f tt) s (leaves_one x s e w h)
arc_insert_count false none x f s hc h w =
    let k : (s.c ≡ 0 → ⊥) = eqb-false s.c 0 hc in
    let p = place_of x s in
    let t = (Arc.room_for p x s).state in
    omega (arith, arc_room_count p x s w (omega arith), residents_set (goes_to p) (entry x f tt ∷ list (goes_to p) t) t)

pub arc_residents : (k : Call) (s : Arc.Arc) → Arc.WellFormed s → residents (Arc.does k s).state ≡ residents_after k s
unfolding Arc.does Arc.new
arc_residents (Get x) s w = arc_got_count (resident x s) x s refl w.obeys.sound
arc_residents (Insert x f) s w = arc_insert_count (eqb s.c 0) (resident x s) x f s refl refl w.obeys.sound
arc_residents (Remove x) s w = arc_removed_count (resident x s) x s refl w.obeys.sound
arc_residents Clear s w = refl
arc_residents (Ask q) s w = refl

-- ---- CAR
abbrev car_count : Car.Car → ℕ
car_count s = residents s.lists

car_room_count : (p : Place) (x : ℕ) (s : Car.Car) → Sound s.lists → 1 ≤ s.lists.c
    → residents (Car.room_for p x s).state.lists + 1 ≡ min s.lists.c (residents s.lists + 1)
unfolding Car.room_for Car.missed
car_room_count (ghost i) x s w k =
    let t = Car.car (ghost_hit i x s.lists) s.free in
    room_count car_count (Car.replace (is_b2 i)) s.lists.c _ t refl w.room k (λ q. (replace_swept (is_b2 i) t q).less)
car_room_count nowhere x s w k = room_count car_count (Car.replace false) s.lists.c _ s refl w.room k (λ q. (replace_swept false s q).less)

touched_count : (x : ℕ) (g : Car.Resident → Car.Resident) (s : Car.Car) → residents (Car.touched x g s).lists ≡ residents s.lists
unfolding Car.touched
touched_count x g s = omega (arith, changed_length x g s.lists.T1, changed_length x g s.lists.T2)

car_got_count : (o : Option Car.Resident) (s : Car.Car) → residents (Car.got o s).state.lists ≡ residents s.lists
unfolding Car.got
car_got_count none s = refl
car_got_count (some e) s = touched_count e.page (Car.with_bit true) s

car_removed_count : (o : Option Car.Resident) (x : ℕ) (s : Car.Car) → resident x s.lists ≡ o → Sound s.lists → residents (Car.removed o s).state.lists ≡ shrunk o (residents s.lists)
unfolding Car.removed
car_removed_count none x s h w = refl
car_removed_count (some e) x s h w = omega (arith, leaves_one x s.lists e w h)

pub car_insert_count : (z : Bool) (o : Option Car.Resident) (x f : ℕ) (s : Car.Car) → eqb s.lists.c 0 ≡ z → resident x s.lists ≡ o → Sound s.lists
    → residents (Car.inserted z o x f s).state.lists ≡ grown z o s.lists.c (residents s.lists)
unfolding Car.inserted Car.insert_at Car.admitted
car_insert_count true o x f s hc h w = refl
car_insert_count false (some e) x f s hc h w = touched_count x (λ r. Car.with_bit true (entry r.page f r.more)) s
car_insert_count false none x f s hc h w =
    let k : (s.lists.c ≡ 0 → ⊥) = eqb-false s.lists.c 0 hc in
    let p = place_of x s.lists in
    let t = (Car.room_for p x s).state in
    let e = entry x f (Car.clocked (get_or t.free 0 0) false) in
    omega (arith, car_room_count p x s w (omega arith), residents_set (goes_to p) (list (goes_to p) t.lists ++ e ∷ []) t.lists, length-append (list (goes_to p) t.lists) (e ∷ []))

pub car_residents : (k : Call) (s : Car.Car) → Car.WellFormed s → residents (Car.does k s).state.lists ≡ residents_after k s.lists
unfolding Car.does Car.new
car_residents (Get x) s w = car_got_count (resident x s.lists) s
car_residents (Insert x f) s w = car_insert_count (eqb s.lists.c 0) (resident x s.lists) x f s refl refl w.obeys.sound
car_residents (Remove x) s w = car_removed_count (resident x s.lists) x s refl w.obeys.sound
car_residents Clear s w = refl
car_residents (Ask q) s w = refl

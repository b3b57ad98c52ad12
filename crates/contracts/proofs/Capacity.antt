-- Every call leaves the capacity as it is, both policies. In order: ARC; CAR. Assumes nothing.
use mathlib.Core.Path.{◌≡◌, refl, ◌∙◌}
use mathlib.Core.Bool.{Bool, true, false}
use mathlib.Core.List.{List}
use mathlib.Core.Option.{Option, some, none}
use Prim.Native.Nat.{ℕ, zero, suc, ◌+◌, ◌*◌}
use lib.Dec.{leb, eqb}
use lib.ListN.{length}
use Rattle.rules.specs.State.{list, full, in_all, resident}
use Rattle.rules.specs.declared.Side.{Side}
use Rattle.rules.specs.Calls.{Call, Get, Insert, Remove, Clear, Ask, Place, ghost, nowhere, Replaced, replace_if}
use Rattle.rules.specs.Stages.{place_of, ghost_hit, is_b2, turn}
use Rattle.rules.specs.Lists.{last}
use Rattle.rules.specs.Arc as arc
use Rattle.rules.specs.Car as car

-- ---- ARC
module _ where
  out_keeps : (o : Option arc.Resident) (i : Side) (s : arc.Arc) → (arc.put_out o i s).state.c ≡ s.c
  unfolding arc.put_out
  out_keeps none i s = refl
  out_keeps (some e) i s = refl

  if_keeps : (b hit : Bool) (s : arc.Arc) → (replace_if b (arc.replace hit) s).state.c ≡ s.c
  unfolding arc.replace
  if_keeps false hit s = refl
  if_keeps true hit s = out_keeps (last (list (turn hit s) s)) (turn hit s) s

  trim_keeps : (a b : Bool) (s : arc.Arc) → (arc.trim_by a b s).c ≡ s.c
  unfolding arc.trim_by
  trim_keeps true b s = refl
  trim_keeps false true s = refl
  trim_keeps false false s = refl

  room_keeps : (p : Place) (x : ℕ) (s : arc.Arc) → (arc.room_for p x s).state.c ≡ s.c
  unfolding arc.room_for arc.missed arc.trimmed
  room_keeps (ghost i) x s = if_keeps (full (ghost_hit i x s)) (is_b2 i) (ghost_hit i x s)
  room_keeps nowhere x s = if_keeps (full (arc.trimmed s)) false (arc.trimmed s) ∙ trim_keeps (leb s.c (length s.T1 + length s.B1)) (leb (2 * s.c) (in_all s)) s

  got_keeps : (o : Option arc.Resident) (s : arc.Arc) → (arc.got o s).state.c ≡ s.c
  unfolding arc.got arc.to_front
  got_keeps none s = refl
  got_keeps (some e) s = refl

  insert_keeps : (z : Bool) (o : Option arc.Resident) (x f : ℕ) (s : arc.Arc) → (arc.inserted z o x f s).state.c ≡ s.c
  unfolding arc.inserted arc.insert_at arc.admitted arc.to_front
  insert_keeps true o x f s = refl
  insert_keeps false (some e) x f s = refl
  insert_keeps false none x f s = room_keeps (place_of x s) x s

  remove_keeps : (o : Option arc.Resident) (s : arc.Arc) → (arc.removed o s).state.c ≡ s.c
  unfolding arc.removed
  remove_keeps none s = refl
  remove_keeps (some e) s = refl

  pub arc_keeps : (k : Call) (s : arc.Arc) → (arc.does k s).state.c ≡ s.c
  unfolding arc.does arc.new
  arc_keeps (Get x) s = got_keeps (resident x s) s
  arc_keeps (Insert x f) s = insert_keeps (eqb s.c 0) (resident x s) x f s
  arc_keeps (Remove x) s = remove_keeps (resident x s) s
  arc_keeps Clear s = refl
  arc_keeps (Ask q) s = refl

-- ---- CAR
module _ where
  step_keeps : (b : Bool) (i : Side) (e : car.Resident) (rest : List car.Resident) (on : car.Car → Replaced car.Car) (s : car.Car) → ((t : car.Car) → (on t).state.lists.c ≡ t.lists.c)
      → (car.step_by b i e rest on s).state.lists.c ≡ s.lists.c
  unfolding car.step_by
  step_keeps false i e rest on s h = refl
  step_keeps true i e rest on s h = h (car.passed i e rest s)

  hand_keeps : (h : car.Hand) (on : car.Car → Replaced car.Car) (s : car.Car) → ((t : car.Car) → (on t).state.lists.c ≡ t.lists.c) → (car.step h on s).state.lists.c ≡ s.lists.c
  unfolding car.step
  hand_keeps car.empty on s k = refl
  hand_keeps (car.at i e rest) on s k = step_keeps e.more.bit i e rest on s k

  last_keeps : (h : car.Hand) (s : car.Car) → (car.last_step h s).state.lists.c ≡ s.lists.c
  unfolding car.last_step
  last_keeps car.empty s = refl
  last_keeps (car.at i e rest) s = refl

  sweep_keeps : (r : ℕ) (hit : Bool) (s : car.Car) → (car.sweep r hit s).state.lists.c ≡ s.lists.c
  unfolding car.sweep
  sweep_keeps zero hit s = last_keeps (car.hand hit s.lists) s
  sweep_keeps (suc r) hit s = hand_keeps (car.hand hit s.lists) (λ t. car.sweep r hit t) s (λ t. sweep_keeps r hit t)

  replace_keeps : (b hit : Bool) (s : car.Car) → (replace_if b (car.replace hit) s).state.lists.c ≡ s.lists.c
  unfolding car.replace
  replace_keeps false hit s = refl
  replace_keeps true hit s = sweep_keeps (car.referenced s.lists) hit s

  comes_keeps : (p : Place) (x : ℕ) (s : car.Car) → (car.room_for p x s).state.lists.c ≡ s.lists.c
  unfolding car.room_for car.missed
  comes_keeps (ghost i) x s = replace_keeps (full (ghost_hit i x s.lists)) (is_b2 i) (car.car (ghost_hit i x s.lists) s.free)
  comes_keeps nowhere x s = replace_keeps (full s.lists) false s

  hit_keeps : (o : Option car.Resident) (s : car.Car) → (car.got o s).state.lists.c ≡ s.lists.c
  unfolding car.got car.touched
  hit_keeps none s = refl
  hit_keeps (some e) s = refl

  inserted_keeps : (z : Bool) (o : Option car.Resident) (x f : ℕ) (s : car.Car) → (car.inserted z o x f s).state.lists.c ≡ s.lists.c
  unfolding car.inserted car.insert_at car.admitted car.touched
  inserted_keeps true o x f s = refl
  inserted_keeps false (some e) x f s = refl
  inserted_keeps false none x f s = comes_keeps (place_of x s.lists) x s

  removed_keeps : (o : Option car.Resident) (s : car.Car) → (car.removed o s).state.lists.c ≡ s.lists.c
  unfolding car.removed
  removed_keeps none s = refl
  removed_keeps (some e) s = refl

  pub car_keeps : (k : Call) (s : car.Car) → (car.does k s).state.lists.c ≡ s.lists.c
  unfolding car.does car.new
  car_keeps (Get x) s = hit_keeps (resident x s.lists) s
  car_keeps (Insert x f) s = inserted_keeps (eqb s.lists.c 0) (resident x s.lists) x f s
  car_keeps (Remove x) s = removed_keeps (resident x s.lists) s
  car_keeps Clear s = refl
  car_keeps (Ask q) s = refl

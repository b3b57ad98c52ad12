-- Pages stay below 2^64, frames below 2^32 and the capacity within 1,024: every call in range leaves a state in range, both policies.
-- In order: what the policies share; ARC; CAR.
-- Assumes nothing.
use mathlib.Core.Path.{◌≡◌, refl, subst}
use mathlib.Core.List.{List, [], ◌∷◌, ◌++◌}
use mathlib.Core.Bool.{Bool, true, false}
use mathlib.Core.Option.{Option, some, none}
use Prim.Native.Nat.{ℕ, zero, suc, ◌+◌, ◌*◌, ◌≤◌}
use lib.Dec.{eqb, leb}
use lib.ListN.{length, get_or}
use Rattle.rules.specs.Lists.{last, Each}
use Rattle.rules.specs.State.{Entry, entry, with_frame, Lists, Side, first, second, list, ghosts, set_target, set_list, set_ghosts, in_all, full, resident, leaves, changed_in, max_capacity, IsPage, IsFrame, Fits, Ranged}
use Rattle.rules.specs.Calls.{Call, Get, Insert, Remove, Clear, Ask, InRange, Place, ghost, nowhere, Replaced, replace_if}
use Rattle.rules.specs.Ghosts.{record_in, remove_ghost, drop_oldest}
use Rattle.rules.specs.Stages.{emptied, place_of, ghost_hit, is_b2, goes_to, turn, record_place}
use Rattle.rules.specs.Arc
use Rattle.rules.specs.Car
use Rattle.rules.proofs.EachLaws.{each_append, each_take, each_drop_last, each_last, each_leave, each_without, each_changed, each_found}

-- ---- what the policies share
module _ {X : Type 0} where
  pub empty_ranged : (c : ℕ) → c ≤ max_capacity → Ranged {X = X} (emptied c)
  empty_ranged c k = record { capacity = k; recent = tt; frequent = tt; ghosts1 = tt; ghosts2 = tt }

  list_fits : (i : Side) (s : Lists X) → Ranged s → Each Fits (list i s)
  list_fits first s r = r.recent
  list_fits second s r = r.frequent

  ghosts_fit : (i : Side) (s : Lists X) → Ranged s → Each IsPage (ghosts i s)
  ghosts_fit first s r = r.ghosts1
  ghosts_fit second s r = r.ghosts2

  resident_fits : (x : ℕ) (s : Lists X) (e : Entry X) → resident x s ≡ some e → Ranged s → Fits e
  resident_fits x s e h r = each_found Fits x (s.T1 ++ s.T2) e h (each_append Fits s.T1 s.T2 r.recent r.frequent)

  target_ranged : (p : ℕ) (s : Lists X) → Ranged s → Ranged (set_target p s)
  target_ranged p s r = record { capacity = r.capacity; recent = r.recent; frequent = r.frequent; ghosts1 = r.ghosts1; ghosts2 = r.ghosts2 }

  list_ranged : (i : Side) (l : List (Entry X)) (s : Lists X) → Each Fits l → Ranged s → Ranged (set_list i l s)
  list_ranged first l s p r = record { capacity = r.capacity; recent = p; frequent = r.frequent; ghosts1 = r.ghosts1; ghosts2 = r.ghosts2 }
  list_ranged second l s p r = record { capacity = r.capacity; recent = r.recent; frequent = p; ghosts1 = r.ghosts1; ghosts2 = r.ghosts2 }

  ghosts_ranged : (i : Side) (b : List ℕ) (s : Lists X) → Each IsPage b → Ranged s → Ranged (set_ghosts i b s)
  ghosts_ranged first b s p r = record { capacity = r.capacity; recent = r.recent; frequent = r.frequent; ghosts1 = p; ghosts2 = r.ghosts2 }
  ghosts_ranged second b s p r = record { capacity = r.capacity; recent = r.recent; frequent = r.frequent; ghosts1 = r.ghosts1; ghosts2 = p }

  leaves_ranged : (x : ℕ) (s : Lists X) → Ranged s → Ranged (leaves x s)
  leaves_ranged x s r = record {
    capacity = r.capacity;
    recent = each_without Fits x s.T1 r.recent;
    frequent = each_without Fits x s.T2 r.frequent;
    ghosts1 = r.ghosts1;
    ghosts2 = r.ghosts2;
  }

  changed_ranged : (x : ℕ) (g : Entry X → Entry X) (s : Lists X) → ((e : Entry X) → Fits e → Fits (g e)) → Ranged s → Ranged (changed_in x g s)
  changed_ranged x g s k r = record {
    capacity = r.capacity;
    recent = each_changed Fits x g s.T1 k r.recent;
    frequent = each_changed Fits x g s.T2 k r.frequent;
    ghosts1 = r.ghosts1;
    ghosts2 = r.ghosts2;
  }

  record_ranged : (p : Place) (x : ℕ) (s : Lists X) → IsPage x → Ranged s → Ranged (record_in p x s)
  record_ranged (ghost i) x s h r = ghosts_ranged i _ s (each_take IsPage s.c (x ∷ ghosts i s) (h, ghosts_fit i s r)) r
  record_ranged nowhere x s h r = r

  drop_ranged : (i : Side) (s : Lists X) → Ranged s → Ranged (drop_oldest i s)
  drop_ranged i s r = ghosts_ranged i _ s (each_drop_last IsPage (ghosts i s) (ghosts_fit i s r)) r

  hit_ranged : (i : Side) (x : ℕ) (s : Lists X) → Ranged s → Ranged (ghost_hit i x s)
  hit_ranged i x s r = target_ranged _ (remove_ghost i x s) (ghosts_ranged i _ s (each_leave IsPage x (ghosts i s) (ghosts_fit i s r)) r)

-- ---- ARC
module _ where
  open_front : (e : Arc.Resident) (s : Arc.Arc) → Fits e → Ranged s → Ranged (Arc.to_front e s)
  unfolding Arc.to_front
  open_front e s f r =
      let q = leaves_ranged e.page s r in
      list_ranged second _ (leaves e.page s) (f, q.frequent) q

  arc_got : (o : Option Arc.Resident) (x : ℕ) (s : Arc.Arc) → resident x s ≡ o → Ranged s → Ranged (Arc.got o s).state
  unfolding Arc.got
  arc_got none x s h r = r
  arc_got (some e) x s h r = open_front e s (resident_fits x s e h r) r

  arc_removed : (o : Option Arc.Resident) (s : Arc.Arc) → Ranged s → Ranged (Arc.removed o s).state
  unfolding Arc.removed
  arc_removed none s r = r
  arc_removed (some e) s r = leaves_ranged e.page s r

  arc_out_lem : (o : Option Arc.Resident) (i : Side) (s : Arc.Arc) → last (list i s) ≡ o → Ranged s → Ranged (Arc.put_out o i s).state
  unfolding Arc.put_out
  arc_out_lem none i s h r = r
  arc_out_lem (some e) i s h r =
      record_ranged (record_place i) e.page _ (each_last Fits (list i s) e h (list_fits i s r)).0
      (list_ranged i _ s (each_drop_last Fits (list i s) (list_fits i s r)) r)

  arc_if : (b hit : Bool) (s : Arc.Arc) → Ranged s → Ranged (replace_if b (Arc.replace hit) s).state
  unfolding Arc.replace
  arc_if false hit s r = r
  arc_if true hit s r = arc_out_lem _ (turn hit s) s refl r

  arc_trim : (a b : Bool) (s : Arc.Arc) → Ranged s → Ranged (Arc.trim_by a b s)
  unfolding Arc.trim_by
  arc_trim true b s r = drop_ranged first s r
  arc_trim false true s r = drop_ranged second s r
  arc_trim false false s r = r

  trimmed_ranged : (s : Arc.Arc) → Ranged s → Ranged (Arc.trimmed s)
  unfolding Arc.trimmed
  trimmed_ranged s r = arc_trim (leb s.c (length s.T1 + length s.B1)) (leb (2 * s.c) (in_all s)) s r

  arc_room : (p : Place) (x : ℕ) (s : Arc.Arc) → Ranged s → Ranged (Arc.room_for p x s).state
  unfolding Arc.room_for Arc.missed
  arc_room (ghost i) x s r = arc_if (full (ghost_hit i x s)) (is_b2 i) (ghost_hit i x s) (hit_ranged i x s r)
  arc_room nowhere x s r = arc_if (full (Arc.trimmed s)) false (Arc.trimmed s) (trimmed_ranged s r)

  arc_inserted : (z : Bool) (o : Option Arc.Resident) (x f : ℕ) (s : Arc.Arc) → resident x s ≡ o → IsPage x → IsFrame f → Ranged s → Ranged (Arc.inserted z o x f s).state
  unfolding Arc.inserted Arc.insert_at Arc.admitted
  arc_inserted true o x f s h p q r = r
  arc_inserted false (some e) x f s h p q r = open_front (with_frame f e) s ((resident_fits x s e h r).0, q) r
  arc_inserted false none x f s h p q r =
      let i = goes_to (place_of x s) in
      let t = (Arc.room_for (place_of x s) x s).state in
      let u = arc_room (place_of x s) x s r in
      list_ranged i _ t ((p, q), list_fits i t u) u

pub arc_ranged : (k : Call) (s : Arc.Arc) → InRange k → Ranged s → Ranged (Arc.does k s).state
unfolding Arc.does Arc.new
arc_ranged (Get x) s k r = arc_got _ x s refl r
arc_ranged (Insert x f) s k r = arc_inserted (eqb s.c 0) (resident x s) x f s refl k.0 k.1 r
arc_ranged (Remove x) s k r = arc_removed (resident x s) s r
arc_ranged Clear s k r = empty_ranged s.c r.capacity
arc_ranged (Ask q) s k r = r

-- ---- CAR
module _ where
  car_touched : (x : ℕ) (g : Car.Resident → Car.Resident) (s : Car.Car) → ((e : Car.Resident) → Fits e → Fits (g e)) → Ranged s.lists → Ranged (Car.touched x g s).lists
  unfolding Car.touched
  car_touched x g s k r = changed_ranged x g s.lists k r

  car_got : (o : Option Car.Resident) (s : Car.Car) → Ranged s.lists → Ranged (Car.got o s).state.lists
  unfolding Car.got
  car_got none s r = r
  car_got (some e) s r = car_touched e.page (Car.with_bit true) s (λ e p. p) r

  car_removed : (o : Option Car.Resident) (s : Car.Car) → Ranged s.lists → Ranged (Car.removed o s).state.lists
  unfolding Car.removed
  car_removed none s r = r
  car_removed (some e) s r = leaves_ranged e.page s.lists r

  -- what stands at a hand fits, and so does the rest of its clock
  at_hand : (i : Side) (e : Car.Resident) (rest : List Car.Resident) (s : Lists Car.Clocked) → list i s ≡ e ∷ rest → Ranged s → Fits e × Each Fits rest
  at_hand i e rest s h r = subst (Each Fits) h (list_fits i s r)

  car_passed : (i : Side) (e : Car.Resident) (rest : List Car.Resident) (s : Car.Car) → list i s.lists ≡ e ∷ rest → Ranged s.lists → Ranged (Car.passed i e rest s).lists
  car_passed i e rest s h r =
      let p = at_hand i e rest s.lists h r in
      let q = list_ranged i rest s.lists p.1 r in
      list_ranged second _ (set_list i rest s.lists) (each_append Fits (set_list i rest s.lists).T2 (Car.with_bit false e ∷ []) q.frequent (p.0, tt)) q

  car_evicted : (i : Side) (e : Car.Resident) (rest : List Car.Resident) (s : Car.Car) → list i s.lists ≡ e ∷ rest → Ranged s.lists → Ranged (Car.evicted i e rest s).state.lists
  car_evicted i e rest s h r =
      let p = at_hand i e rest s.lists h r in
      record_ranged (record_place i) e.page _ p.0.0 (list_ranged i rest s.lists p.1 r)

  car_by : (b : Bool) (i : Side) (e : Car.Resident) (rest : List Car.Resident) (on : Car.Car → Replaced Car.Car) (s : Car.Car) → list i s.lists ≡ e ∷ rest
      → ((t : Car.Car) → Ranged t.lists → Ranged (on t).state.lists) → Ranged s.lists → Ranged (Car.step_by b i e rest on s).state.lists
  unfolding Car.step_by
  car_by false i e rest on s h k r = car_evicted i e rest s h r
  car_by true i e rest on s h k r = k _ (car_passed i e rest s h r)

  car_step : (i : Side) (l : List Car.Resident) (on : Car.Car → Replaced Car.Car) (s : Car.Car) → list i s.lists ≡ l
      → ((t : Car.Car) → Ranged t.lists → Ranged (on t).state.lists) → Ranged s.lists → Ranged (Car.step (Car.hand_of i l) on s).state.lists
  unfolding Car.step
  car_step i [] on s h k r = r
  car_step i (e ∷ rest) on s h k r = car_by e.more.bit i e rest on s h k r

  car_last : (i : Side) (l : List Car.Resident) (s : Car.Car) → list i s.lists ≡ l → Ranged s.lists → Ranged (Car.last_step (Car.hand_of i l) s).state.lists
  unfolding Car.last_step
  car_last i [] s h r = r
  car_last i (e ∷ rest) s h r = car_evicted i e rest s h r

  car_sweep : (n : ℕ) (hit : Bool) (s : Car.Car) → Ranged s.lists → Ranged (Car.sweep n hit s).state.lists
  unfolding Car.sweep
  car_sweep zero hit s r = car_last (turn hit s.lists) _ s refl r
  car_sweep (suc n) hit s r = car_step (turn hit s.lists) _ (λ t. Car.sweep n hit t) s refl (λ t q. car_sweep n hit t q) r

  car_if : (b hit : Bool) (s : Car.Car) → Ranged s.lists → Ranged (replace_if b (Car.replace hit) s).state.lists
  unfolding Car.replace
  car_if false hit s r = r
  car_if true hit s r = car_sweep (Car.referenced s.lists) hit s r

  car_room : (p : Place) (x : ℕ) (s : Car.Car) → Ranged s.lists → Ranged (Car.room_for p x s).state.lists
  unfolding Car.room_for Car.missed
  car_room (ghost i) x s r = car_if (full (ghost_hit i x s.lists)) (is_b2 i) (Car.car (ghost_hit i x s.lists) s.free) (hit_ranged i x s.lists r)
  car_room nowhere x s r = car_if (full s.lists) false s r

  car_inserted : (z : Bool) (o : Option Car.Resident) (x f : ℕ) (s : Car.Car) → IsPage x → IsFrame f → Ranged s.lists → Ranged (Car.inserted z o x f s).state.lists
  unfolding Car.inserted Car.insert_at Car.admitted
  car_inserted true o x f s p q r = r
  car_inserted false (some e) x f s p q r = car_touched x (λ d. Car.with_bit true (with_frame f d)) s (λ d h. (h.0, q)) r
  car_inserted false none x f s p q r =
      let i = goes_to (place_of x s.lists) in
      let t = (Car.room_for (place_of x s.lists) x s).state.lists in
      let u = car_room (place_of x s.lists) x s r in
      let e = entry x f (Car.clocked (get_or (Car.room_for (place_of x s.lists) x s).state.free 0 0) false) in
      list_ranged i _ t (each_append Fits (list i t) (e ∷ []) (list_fits i t u) ((p, q), tt)) u

pub car_ranged : (k : Call) (s : Car.Car) → InRange k → Ranged s.lists → Ranged (Car.does k s).state.lists
unfolding Car.does Car.new
car_ranged (Get x) s k r = car_got (resident x s.lists) s r
car_ranged (Insert x f) s k r = car_inserted (eqb s.lists.c 0) (resident x s.lists) x f s k.0 k.1 r
car_ranged (Remove x) s k r = car_removed (resident x s.lists) s r
car_ranged Clear s k r = empty_ranged s.lists.c r.capacity
car_ranged (Ask q) s k r = r

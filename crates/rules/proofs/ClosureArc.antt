-- Closure of ARC's state rules: every call on a state that obeys them leaves one that does. (Ranges: proofs/Ranges.)
-- Assumes nothing.
use mathlib.Core.Path.{◌≡◌, refl, ap}
use mathlib.Core.List.{List, ◌∷◌}
use mathlib.Core.Bool.{Bool, true, false}
use mathlib.Core.Option.{Option, some, none}
use Prim.Native.Nat.{ℕ, ◌+◌, ◌*◌, ◌<◌, ◌≤◌}
use native.Mathlib.Omega.{arith}
use lib.Dec.{leb, eqb}
use lib.ListN.{length}
use borrow.Author.Tests.{eqb-false, leb-true, leb-false}
use Rattle.rules.specs.Lists.{times, drop_last, last}
use Rattle.rules.specs.State.{entry, with_frame, pages, Side, first, second, list, set_list, residents, in_all, resident, leaves, full}
use Rattle.rules.specs.Calls.{Call, Get, Insert, Remove, Clear, Ask, Place, ghost, nowhere, Replaced, replace_if}
use Rattle.rules.specs.Ghosts.{record_in}
use Rattle.rules.specs.Stages.{place_of, ghost_hit, is_b2, goes_to, turn, record_place}
use Rattle.rules.specs.Arc.{Arc, Resident, Obeys, new, pushed, to_front, got, put_out, replace, trim_by, trimmed, missed, room_for, admitted, insert_at, inserted, removed, does}
use Rattle.rules.proofs.ListLaws.{times_drop_last, length_drop_last, no_last, Plus, cons_plus, last_plus, length_without, length_leave}
use Rattle.rules.proofs.StateLaws.{Ready, left, entered, put_out_fact, ready, ready_none, set_sound, turn_some, is_resident, empty_sound, length_recorded, residents_set}

pub new_obeys : (c : ℕ) → Obeys (new c)
unfolding new
new_obeys c = record { sound = empty_sound c; rows = omega arith; all = omega arith }

-- ---- a resident leaves, and comes to the front of T2
leaves_rows : (x : ℕ) (s : Arc) → length (leaves x s).T1 ≤ length s.T1
leaves_rows x s = omega (arith, length_without x s.T1)

front_obeys : (e : Resident) (s : Arc) → 1 ≤ times e.page (pages s.T1) + times e.page (pages s.T2) → Obeys s → Obeys (to_front e s)
unfolding to_front
front_obeys e s h w =
    let x = e.page in
    let t = leaves x s in
    let l = left x s h w.sound in
    let less = l.1 in
    let room = w.sound.room in
    record {
      sound = entered x second (e ∷ t.T2) t (cons_plus e t.T2) (omega arith) l.0;
      rows = omega (arith, leaves_rows x s, w.rows);
      all = omega (arith, w.all);
    }

got_obeys : (o : Option Resident) (x : ℕ) (s : Arc) → resident x s ≡ o → Obeys s → Obeys (got o s).state
unfolding got
got_obeys none x s h w = w
got_obeys (some e) x s h w = front_obeys e s (is_resident s x e h) w

removed_obeys : (o : Option Resident) (x : ℕ) (s : Arc) → resident x s ≡ o → Obeys s → Obeys (removed o s).state
unfolding removed
removed_obeys none x s h w = w
removed_obeys (some e) x s h w =
    let l = left e.page s (is_resident s x e h) w.sound in
    let less = l.1 in
    record { sound = l.0.sound; rows = omega (arith, leaves_rows e.page s, w.rows); all = omega (arith, w.all) }

-- ---- insert of a page that is no resident: until it enters, x stands nowhere, and there is room for it in the bounds
abbrev for_t1 : Side → ℕ
for_t1 first = 1
for_t1 second = 0

pushed_rows : (i : Side) (e : Resident) (s : Arc) → length (pushed i e s).T1 ≡ length s.T1 + for_t1 i
pushed_rows first e s = omega arith
pushed_rows second e s = omega arith

record Fit (i : Side) (x : ℕ) (s : Arc) : Type 0 where
  fit : Ready x s
  rows : length s.T1 + length s.B1 + for_t1 i ≤ s.c + 1
  all : in_all s ≤ 2 * s.c
  some_room : 1 ≤ s.c

trim_fit : (a b : Bool) (x : ℕ) (s : Arc) → leb s.c (length s.T1 + length s.B1) ≡ a → leb (2 * s.c) (in_all s) ≡ b
    → 1 ≤ s.c → Ready x s → Obeys s → Fit first x (trim_by a b s)
unfolding trim_by
trim_fit true b x s ha hb k r w =
    let l = length_drop_last s.B1 in
    let room = w.sound.room in
    record {
      fit = record {
        sound = set_sound first (drop_last s.B1) s w.sound (omega (arith, w.sound.ghosts1)) (λ y. omega (arith, times_drop_last y s.B1, w.sound.distinct y));
        absent = omega (arith, times_drop_last x s.B1, r.absent);
      };
      rows = omega (arith, w.rows);
      all = omega (arith, w.all, leb-true, w.sound.ghosts2);
      some_room = k;
    }
trim_fit false true x s ha hb k r w =
    let l = length_drop_last s.B2 in
    let room = w.sound.room in
    record {
      fit = record {
        sound = set_sound second (drop_last s.B2) s w.sound (omega (arith, w.sound.ghosts2)) (λ y. omega (arith, times_drop_last y s.B2, w.sound.distinct y));
        absent = omega (arith, times_drop_last x s.B2, r.absent);
      };
      rows = omega (arith, leb-false);
      all = omega (arith, w.all, leb-true);
      some_room = k;
    }
trim_fit false false x s ha hb k r w = record { fit = r; rows = omega (arith, leb-false); all = omega (arith, leb-false); some_room = k }

-- after the replacement there is a free frame
record Made (i : Side) (x : ℕ) (r : Replaced Arc) : Type 0 where
  made : Fit i x r.state
  space : residents r.state < r.state.c

rows_less : (j : Side) (rest : List Resident) (p : ℕ) (s : Arc) → Plus p rest (list j s)
    → length (set_list j rest s).T1 + length (record_in (record_place j) p (set_list j rest s)).B1 ≤ length s.T1 + length s.B1
rows_less first rest p s h = omega (arith, h.longer, length_recorded s.c p s.B1)
rows_less second rest p s h = omega arith

put_made : (i : Side) (x : ℕ) (o : Option Resident) (j : Side) (s : Arc) → last (list j s) ≡ o → 1 ≤ length (list j s) → Fit i x s → Made i x (put_out o j s)
unfolding put_out
put_made i x none j s h k f = let z = ap length (no_last (list j s) h) in absurd (omega arith)
put_made i x (some e) j s h k f =
    let p = put_out_fact j e.page (drop_last (list j s)) s (last_plus (list j s) e h) in
    record {
      made = record {
        fit = record { sound = p.sound f.fit.sound; absent = omega (arith, p.fewer x, f.fit.absent) };
        rows = omega (arith, rows_less j (drop_last (list j s)) e.page s (last_plus (list j s) e h), f.rows);
        all = omega (arith, p.smaller, f.all);
        some_room = f.some_room;
      };
      space = omega (arith, p.less, f.fit.sound.room);
    }

replace_made : (b : Bool) (i : Side) (x : ℕ) (hit : Bool) (s : Arc) → full s ≡ b → Fit i x s → Made i x (replace_if b (replace hit) s)
unfolding replace
replace_made false i x hit s h f = record { made = f; space = omega (arith, leb-false) }
replace_made true i x hit s h f =
    let r : 1 ≤ residents s = omega (arith, leb-true, f.some_room) in
    put_made i x _ (turn hit s) s refl (turn_some hit s r) f

hit_rows : (i : Side) (x : ℕ) (s : Arc) → length (ghost_hit i x s).B1 ≤ length s.B1
hit_rows first x s = omega (arith, length_leave x s.B1)
hit_rows second x s = omega arith

hit_fit : (i : Side) (x : ℕ) (s : Arc) → place_of x s ≡ ghost i → resident x s ≡ none → 1 ≤ s.c → Obeys s → Fit second x (ghost_hit i x s)
hit_fit i x s at miss k w =
    let r = ready x s i at miss w.sound in
    record { fit = r.0; rows = omega (arith, hit_rows i x s, w.rows); all = omega (arith, r.1, w.all); some_room = k }

room_made : (p : Place) (x : ℕ) (s : Arc) → place_of x s ≡ p → resident x s ≡ none → 1 ≤ s.c → Obeys s → Made (goes_to p) x (room_for p x s)
unfolding room_for missed trimmed
room_made (ghost i) x s at miss k w = replace_made _ second x (is_b2 i) (ghost_hit i x s) refl (hit_fit i x s at miss k w)
room_made nowhere x s at miss k w = replace_made _ first x false _ refl (trim_fit _ _ x s refl refl k (ready_none x s at miss w.sound) w)

admit_obeys : (i : Side) (x f : ℕ) (r : Replaced Arc) → Made i x r → Obeys (admitted i x f r.state)
unfolding admitted
admit_obeys i x f r m =
    let s = r.state in
    let e : Resident = entry x f tt in
    let n = cons_plus e (list i s) in
    record {
      sound = entered x i (e ∷ list i s) s n m.space m.made.fit;
      rows = omega (arith, pushed_rows i e s, m.made.rows);
      all = omega (arith, residents_set i (e ∷ list i s) s, m.made.all);
    }

insert_obeys : (z : Bool) (o : Option Resident) (x f : ℕ) (s : Arc) → eqb s.c 0 ≡ z → resident x s ≡ o → Obeys s → Obeys (inserted z o x f s).state
unfolding inserted insert_at
insert_obeys true o x f s hc h w = w
insert_obeys false (some e) x f s hc h w = front_obeys (with_frame f e) s (is_resident s x e h) w
insert_obeys false none x f s hc h w =
    let k : (s.c ≡ 0 → ⊥) = eqb-false s.c 0 hc in
    let p = place_of x s in
    admit_obeys (goes_to p) x f (room_for p x s) (room_made p x s refl h (omega arith) w)

pub does_obeys : (k : Call) (s : Arc) → Obeys s → Obeys (does k s).state
unfolding does
does_obeys (Get x) s w = got_obeys (resident x s) x s refl w
does_obeys (Insert x f) s w = insert_obeys _ _ x f s refl refl w
does_obeys (Remove x) s w = removed_obeys _ x s refl w
does_obeys Clear s w = new_obeys s.c
does_obeys (Ask q) s w = w

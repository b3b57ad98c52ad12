-- Closure of CAR's state rules: every call on a state that obeys them leaves one that does. (Ranges: proofs/Ranges.)
-- Assumes nothing.
use mathlib.Core.Path.{◌≡◌, refl, subst, ap}
use mathlib.Core.List.{List, [], ◌∷◌, ◌++◌}
use mathlib.Core.Bool.{Bool, true, false}
use mathlib.Core.Option.{Option, some, none}
use Prim.Native.Nat.{ℕ, ◌+◌, ◌<◌, ◌≤◌}
use native.Mathlib.Omega.{arith}
use lib.Dec.{eqb}
use lib.ListN.{length, length-append, get_or, drop}
use borrow.Author.Tests.{eqb-false, leb-true, leb-false}
use Rattle.rules.specs.Lists.{one, times}
use Rattle.rules.specs.State.{entry, with_frame, pages, found, without, Side, list, residents, resident, full, seen}
use Rattle.rules.specs.Calls.{Call, Get, Insert, Remove, Clear, Ask, Place, ghost, nowhere, replace_if}
use Rattle.rules.specs.Stages.{place_of, ghost_hit, is_b2, goes_to}
use Rattle.rules.specs.Car.{Resident, clocked, with_bit, slots, Car, car, Obeys, new, touched, got, replace, missed, room_for, admitted, insert_at, inserted, removed, does}
use Rattle.rules.proofs.ListLaws.{times_append, found_page, times_pages_append, snoc_plus, times_keys_append, key_leaves, without_append, changed_keys}
use Rattle.rules.proofs.StateLaws.{left, entered, ready, ready_none, is_resident, empty_sound, changed_sound}
use Rattle.rules.proofs.Slots.{all_free, each_once, slot_of, length_slots, taken_set}
use Rattle.rules.proofs.Sweep.{replace_swept}

pub new_obeys : (c : ℕ) → Obeys (new c)
unfolding new
new_obeys c = record { sound = empty_sound c; slotted = λ k. omega (arith, all_free k c) }

-- residents and free slots together are c
pub slots_left : (s : Car) → Obeys s → residents s.lists + length s.free ≡ s.lists.c
slots_left s w =
    let a = slots s.lists.T1 in
    let b = slots s.lists.T2 in
    let n = each_once s.lists.c ((a ++ b) ++ s.free)
    (λ k. omega (arith, times_append k (a ++ b) s.free, times_append k a b, w.slotted k)) in
    omega (arith, length-append (a ++ b) s.free, length-append a b, length_slots s.lists.T1, length_slots s.lists.T2)

-- ---- hits: nothing moves
touch_obeys : (x : ℕ) (g : Resident → Resident) (s : Car) → ((e : Resident) → (g e).page ≡ e.page) → ((e : Resident) → (g e).more.slot ≡ e.more.slot)
    → Obeys s → Obeys (touched x g s)
unfolding touched
touch_obeys x g s p q w = record {
  sound = changed_sound x g s.lists p w.sound;
  slotted = λ k. omega (arith, w.slotted k, ap (times k) (changed_keys slot_of x g s.lists.T1 q), ap (times k) (changed_keys slot_of x g s.lists.T2 q));
}

got_obeys : (o : Option Resident) (s : Car) → Obeys s → Obeys (got o s).state
unfolding got
got_obeys none s w = w
got_obeys (some e) s w = touch_obeys e.page (with_bit true) s (λ e. refl) (λ e. refl) w

removed_obeys : (o : Option Resident) (x : ℕ) (s : Car) → resident x s.lists ≡ o → Obeys s → Obeys (removed o s).state
unfolding removed
removed_obeys none x s h w = w
removed_obeys (some e) x s h w =
    let l = s.lists in
    let p = e.page in
    let there = subst (λ y. found y (l.T1 ++ l.T2) ≡ some e) (found_page x (l.T1 ++ l.T2) e h) h in
    let once : times p (pages (l.T1 ++ l.T2)) ≤ 1 = omega (arith, times_pages_append p l.T1 l.T2, w.sound.distinct p) in
    record {
      sound = (left p l (is_resident l x e h) w.sound).0.sound;
      slotted = λ k. omega (
        arith,
        w.slotted k,
        key_leaves slot_of k p (l.T1 ++ l.T2) e there once,
        times_keys_append slot_of k l.T1 l.T2,
        ap (λ t. times k (slots t)) (without_append p l.T1 l.T2),
        times_keys_append slot_of k (without p l.T1) (without p l.T2),
      );
    }

-- ---- insert of a page that is no resident
record Made (x : ℕ) (s : Car) : Type 0 where
  made : Obeys s
  absent : seen x s.lists ≡ 0
  space : residents s.lists < s.lists.c

replace_made : (b : Bool) (x : ℕ) (hit : Bool) (s : Car) → full s.lists ≡ b → 1 ≤ s.lists.c → Obeys s → seen x s.lists ≡ 0 → Made x (replace_if b (replace hit) s).state
replace_made false x hit s h k w a = record { made = w; absent = a; space = omega (arith, leb-false) }
replace_made true x hit s h k w a =
    let r : 1 ≤ residents s.lists = omega (arith, leb-true) in
    let p = replace_swept hit s r in
    record { made = p.obeys w; absent = omega (arith, p.fewer x); space = omega (arith, p.less, p.capacity, w.sound.room) }

room_made : (p : Place) (x : ℕ) (s : Car) → place_of x s.lists ≡ p → resident x s.lists ≡ none → 1 ≤ s.lists.c → Obeys s → Made x (room_for p x s).state
unfolding room_for missed
room_made (ghost i) x s at miss k w =
    let r = (ready x s.lists i at miss w.sound).0 in
    let h = ghost_hit i x s.lists in
    replace_made _ x (is_b2 i) (car h s.free) refl k (record { sound = r.sound; slotted = w.slotted }) r.absent
room_made nowhere x s at miss k w = replace_made _ x false s refl k w (ready_none x s.lists at miss w.sound).absent

top_free : (k : ℕ) (l : List ℕ) → 1 ≤ length l → times k l ≡ one (eqb k (get_or l 0 0)) + times k (drop 1 l)
top_free k [] h = absurd (omega arith)
top_free k (x ∷ l) h = refl

admit_obeys : (i : Side) (x f : ℕ) (s : Car) → Made x s → Obeys (admitted i x f s)
unfolding admitted
admit_obeys i x f s m =
    let l = s.lists in
    let e = entry x f (clocked (get_or s.free 0 0) false) in
    let n = slots_left s m.made in
    let p = m.space in
    record {
      sound = entered x i (list i l ++ e ∷ []) l (snoc_plus (list i l) e) m.space (record { sound = m.made.sound; absent = m.absent });
      slotted = λ k. omega (arith, m.made.slotted k, top_free k s.free (omega arith), taken_set k i (list i l ++ e ∷ []) l, times_keys_append slot_of k (list i l) (e ∷ []));
    }

insert_obeys : (z : Bool) (o : Option Resident) (x f : ℕ) (s : Car) → eqb s.lists.c 0 ≡ z → resident x s.lists ≡ o → Obeys s → Obeys (inserted z o x f s).state
unfolding inserted insert_at
insert_obeys true o x f s hc h w = w
insert_obeys false (some e) x f s hc h w = touch_obeys x (λ r. with_bit true (with_frame f r)) s (λ e. refl) (λ e. refl) w
insert_obeys false none x f s hc h w =
    let k : (s.lists.c ≡ 0 → ⊥) = eqb-false s.lists.c 0 hc in
    let p = place_of x s.lists in
    admit_obeys (goes_to p) x f (room_for p x s).state (room_made p x s refl h (omega arith) w)

pub does_obeys : (k : Call) (s : Car) → Obeys s → Obeys (does k s).state
unfolding does
does_obeys (Get x) s w = got_obeys (resident x s.lists) s w
does_obeys (Insert x f) s w = insert_obeys _ _ x f s refl refl w
does_obeys (Remove x) s w = removed_obeys _ x s refl w
does_obeys Clear s w = new_obeys s.lists.c
does_obeys (Ask q) s w = w

-- Demand 3 for CAR: the sum over any calls (`demand_3`, `demand_3_batch`); each replacement (`demand_3_replacement`),
-- that of an insert too (`room_ends`); and an insert that replaces (`insert_one_out`). What they say stands in
-- specs/Demand3. Assumes nothing.
use mathlib.Core.Path.{◌≡◌, refl, sym, subst, ap}
use mathlib.Core.List.{List, [], ◌∷◌, ◌++◌, map}
use mathlib.Core.Bool.{Bool, true, false, cond, false≢true}
use mathlib.Core.Option.{Option, some, none}
use Prim.Native.Nat.{ℕ, ◌+◌, ◌≤◌}
use native.Mathlib.Omega.{arith}
use lib.Dec.{ltb, eqb}
use lib.ListN.{get_or}
use borrow.Author.Tests.{eqb-true, eqb-false, ne_eqb, leb-true, le-leb}
use Rattle.rules.specs.Lists.{one, times}
use Rattle.rules.specs.State.{entry, with_frame, pages, found, Side, list, residents, resident, full, Sound}
use Rattle.rules.specs.Calls.{Call, Get, Insert, Remove, Clear, Ask, Question, Peek, Contains, Len, Capacity, Target, T1Len, T2Len, B1Len, B2Len, Listing, Place, ghost, nowhere, out, New, See, No, Number, Refused, Done, done, seen_frame, asked, Replaced, steps, replace_if, run}
use Rattle.rules.specs.Stages.{place_of, ghost_hit, goes_to, is_b2}
use Rattle.rules.specs.Counts.{counted, tally, hits, outs}
use Rattle.trace.specs.Reading.{read_from}
use Rattle.rules.specs.Batch.{call_of, batch}
use Rattle.rules.specs.Car.{Resident, clocked, with_bit, Car, car, referenced, Obeys, WellFormed, new, touched, got, replace, missed, room_for, admitted, insert_at, inserted, removed, does}
use Rattle.rules.proofs.Slots.{changed_marks, marks_without, marks_append, referenced_set}
use Rattle.rules.specs.Demand3.{Paid, held, both, in_frame, held_in, Ends, peeked, OneOut}
use Rattle.rules.proofs.ListLaws.{by_test, eqb_self, one_self, one_other, one_le}
use Rattle.rules.proofs.ListLaws.{times_pages_append, found_times, snoc_plus}
use Rattle.rules.proofs.StateLaws.{no_resident_lem}
use Rattle.rules.proofs.Sweep.{held_set, held_in_set, in_append, replace_swept}
use Rattle.rules.proofs.RunLaws.{batch_runs}
use Rattle.rules.proofs.Trail.{turns_once}
use Rattle.rules.proofs.ClosureCar.{does_obeys}
use Rattle.rules.proofs.Shape.{car_insert_count}

-- what a call pays for
abbrev Pays : Car → Done Car → Type 0
Pays s d = let n = counted d.answer in n.steps + referenced d.state.lists ≤ referenced s.lists + hits n + n.evictions

touch_pays : (x : ℕ) (g : Resident → Resident) (s : Car) → Obeys s → referenced (touched x g s).lists ≤ referenced s.lists + 1
unfolding touched
touch_pays x g s w = omega (arith, changed_marks x g s.lists.T1, changed_marks x g s.lists.T2, w.sound.distinct x)

got_pays : (o : Option Resident) (s : Car) → Obeys s → Pays s (got o s)
unfolding got
got_pays none s w = omega arith
got_pays (some e) s w = omega (arith, touch_pays e.page (with_bit true) s w)

removed_pays : (o : Option Resident) (s : Car) → Pays s (removed o s)
unfolding removed
removed_pays none s = omega arith
removed_pays (some e) s = omega (arith, marks_without e.page s.lists.T1, marks_without e.page s.lists.T2)

-- a replacement where there is none needed, or where the cache is full
abbrev Covers : Car → Replaced Car → Type 0
Covers s r = steps r + referenced r.state.lists ≤ referenced s.lists + outs r.victim

replace_pays : (b hit : Bool) (s : Car) → full s.lists ≡ b → 1 ≤ s.lists.c → Covers s (replace_if b (replace hit) s)
replace_pays false hit s h k = omega arith
replace_pays true hit s h k = let p = replace_swept hit s (omega (arith, leb-true)) in omega (arith, p.paid, p.single)

room_pays : (p : Place) (x : ℕ) (s : Car) → 1 ≤ s.lists.c → Covers s (room_for p x s)
unfolding room_for missed
room_pays (ghost i) x s k = replace_pays _ (is_b2 i) (car (ghost_hit i x s.lists) s.free) refl k
room_pays nowhere x s k = replace_pays _ false s refl k

admit_pays : (i : Side) (x f : ℕ) (s : Car) → referenced (admitted i x f s).lists ≡ referenced s.lists
unfolding admitted
admit_pays i x f s =
    let l = s.lists in
    let e = entry x f (clocked (get_or s.free 0 0) false) in
    omega (arith, referenced_set i (list i l ++ e ∷ []) l, marks_append (list i l) (e ∷ []))

insert_pays : (z : Bool) (o : Option Resident) (x f : ℕ) (s : Car) → eqb s.lists.c 0 ≡ z → Obeys s → Pays s (inserted z o x f s)
unfolding inserted insert_at
insert_pays true o x f s hc w = omega arith
insert_pays false (some e) x f s hc w = omega (arith, touch_pays x (λ r. with_bit true (with_frame f r)) s w)
insert_pays false none x f s hc w =
    let k : (s.lists.c ≡ 0 → ⊥) = eqb-false s.lists.c 0 hc in
    let p = place_of x s.lists in
    omega (arith, room_pays p x s (omega arith), admit_pays (goes_to p) x f (room_for p x s).state)

-- a question steps nowhere and changes nothing
see_pays : (o : Option Resident) (s : Car) → Pays s (done (seen_frame o) s)
see_pays none s = omega arith
see_pays (some e) s = omega arith

room_refused_pays : (b : Bool) (s : Car) → Pays s (done (cond b (Refused 6) (Number (residents s.lists))) s)
room_refused_pays true s = omega arith
room_refused_pays false s = omega arith

ask_pays : (q : Question) (s : Car) → Pays s (done (asked q s.lists) s)
unfolding asked
ask_pays (Peek x) s = see_pays (resident x s.lists) s
ask_pays (Contains x) s = omega arith
ask_pays Len s = omega arith
ask_pays Capacity s = omega arith
ask_pays Target s = omega arith
ask_pays T1Len s = omega arith
ask_pays T2Len s = omega arith
ask_pays B1Len s = omega arith
ask_pays B2Len s = omega arith
ask_pays (Listing n) s = room_refused_pays (ltb n (residents s.lists)) s

pub does_pays : (k : Call) (s : Car) → Obeys s → Pays s (does k s)
unfolding does new
does_pays (Get x) s w = got_pays (resident x s.lists) s w
does_pays (Insert x f) s w = insert_pays _ _ x f s refl w
does_pays (Remove x) s w = removed_pays (resident x s.lists) s
does_pays Clear s w = omega arith
does_pays (Ask q) s w = ask_pays q s

-- ---- the sum
pub run_pays : (ks : List Call) (s : Car) → Obeys s → Paid s (tally (run does ks s).answers) (run does ks s).state
unfolding run
run_pays [] s w = omega arith
run_pays (k ∷ ks) s w = omega (arith, does_pays k s w, run_pays ks (does k s).state (does_obeys k s w))

pub demand_3 : (ks : List Call) (s : Car) → WellFormed s → Paid s (tally (run does ks s).answers) (run does ks s).state
demand_3 ks s w = run_pays ks s w.obeys

-- the same of a batch and its counts, whatever its bytes
pub demand_3_batch : (o : ℕ) (bs : List ℕ) (s : Car) → WellFormed s → let b = batch does o bs s in Paid s b.counts b.state
demand_3_batch o bs s w =
    let p = batch_runs does o 0 bs s in
    let q = demand_3 (map call_of (read_from o 0 bs).operations) s w in
    subst (λ n. Paid s n (batch does o bs s).state) (sym p.counts) (subst (λ t. Paid s (tally (run does (map call_of (read_from o 0 bs).operations) s).answers) t) (sym p.state) q)

-- ---- a replacement on a full cache
pub demand_3_replacement : (hit : Bool) (s : Car) → 1 ≤ s.lists.c → residents s.lists ≡ s.lists.c → Ends s (replace hit s)
demand_3_replacement hit s k h =
    let p = replace_swept hit s (omega arith) in
    record {
      within = omega (arith, p.paid);
      turns = turns_once hit s;
      single = p.single;
      others = p.others;
      frames = p.frames;
    }

-- ---- the replacement of an insert: a ghost hit leaves the clocks as they are
ends_hit : (i : Side) (x : ℕ) (s : Car) (r : Replaced Car) → Ends (car (ghost_hit i x s.lists) s.free) r → Ends s r
ends_hit i x s r e =
    record { within = e.within; turns = e.turns; single = e.single; others = e.others; frames = e.frames }

ends_if : (b hit : Bool) (s : Car)
    → b ≡ true
    → 1 ≤ s.lists.c
    → residents s.lists ≡ s.lists.c
    → Ends s (replace_if b (replace hit) s)
ends_if true hit s q k h = demand_3_replacement hit s k h
ends_if false hit s q k h = absurd (false≢true q)

pub room_ends : (p : Place) (x : ℕ) (s : Car)
    → 1 ≤ s.lists.c
    → residents s.lists ≡ s.lists.c
    → Ends s (room_for p x s)
unfolding room_for missed
room_ends (ghost i) x s k h =
    let t = car (ghost_hit i x s.lists) s.free in
    let q = le-leb s.lists.c (residents s.lists) (omega arith) in
    ends_hit i x s _ (ends_if (full t.lists) (is_b2 i) t q k h)
room_ends nowhere x s k h =
    let q = le-leb s.lists.c (residents s.lists) (omega arith) in
    ends_if (full s.lists) false s q k h

-- a page goes out only of a full cache
if_full : (b hit : Bool) (s : Car) → outs (replace_if b (replace hit) s).victim ≡ 1 → b ≡ true
if_full true hit s q = refl
if_full false hit s q = absurd (omega arith)

pub room_full : (p : Place) (x : ℕ) (s : Car) → outs (room_for p x s).victim ≡ 1 → s.lists.c ≤ residents s.lists
unfolding room_for missed
room_full (ghost i) x s q =
    let h = ghost_hit i x s.lists in
    leb-true s.lists.c (residents s.lists) (if_full (full h) (is_b2 i) (car h s.free) q)
room_full nowhere x s q = leb-true s.lists.c (residents s.lists) (if_full (full s.lists) false s q)

-- ---- AN INSERT THAT REPLACES puts out exactly one page
-- a page is seen in a frame where it is held in it, and not seen where it is not held
one_true : (a b : ℕ) → 1 ≤ one (eqb a b) → a ≡ b
one_true a b =
    by_test (λ c. eqb a b ≡ c → 1 ≤ one c → a ≡ b) (eqb a b)
    (λ _ e q. eqb-true a b e)
    (λ _ e q. absurd (omega arith))
    refl

in_le : (y h : ℕ) (l : List Resident) → in_frame y h l ≤ times y (pages l)
in_le y h [] = omega arith
in_le y h (e ∷ l) =
    let ih = in_le y h l in
    by_test (λ b. cond b (one (eqb h e.frame)) 0 + in_frame y h l ≤ one b + times y (pages l)) (eqb y e.page)
    (λ _. omega (arith, one_le (eqb h e.frame)))
    (λ _. omega arith)

see_in : (y h : ℕ) (l : List Resident) → times y (pages l) ≤ 1 → 1 ≤ in_frame y h l → seen_frame (found y l) ≡ See h
see_in y h [] k q = absurd (omega arith)
see_in y h (e ∷ l) k q = go (eqb y e.page) k q (see_in y h l)
  where
    go : (b : Bool)
        → one b + times y (pages l) ≤ 1
        → 1 ≤ cond b (one (eqb h e.frame)) 0 + in_frame y h l
        → (times y (pages l) ≤ 1 → 1 ≤ in_frame y h l → seen_frame (found y l) ≡ See h)
        → seen_frame (cond b (some e) (found y l)) ≡ See h
    go true k q ih = ap See (sym (one_true h e.frame (omega (arith, in_le y h l))))
    go false k q ih = ih (omega arith) (omega arith)

found_in : (y : ℕ) (l : List Resident) (e : Resident) → found y l ≡ some e → 1 ≤ in_frame y e.frame l
found_in y [] e q = let z : ◌≡◌ {A = ℕ} 0 1 = cc in absurd (omega arith)
found_in y (a ∷ l) e q = go (eqb y a.page) q (found_in y l e)
  where
    go : (b : Bool)
        → cond b (some a) (found y l) ≡ some e
        → (found y l ≡ some e → 1 ≤ in_frame y e.frame l)
        → 1 ≤ cond b (one (eqb e.frame a.frame)) 0 + in_frame y e.frame l
    go true k ih = let z : a ≡ e = cc in rw z (omega (arith, one_self e.frame))
    go false k ih = omega (arith, ih k)

not_in : (y : ℕ) (l : List Resident) → times y (pages l) ≡ 0 → seen_frame (found y l) ≡ No
not_in y l q = go (found y l) refl
  where
    go : (o : Option Resident) → found y l ≡ o → seen_frame o ≡ No
    go none r = refl
    go (some e) r = absurd (omega (arith, found_times y l e r))

-- the same of a state
module _ (y : ℕ) (s : Car) where
  held_append : held y s.lists ≡ times y (pages (s.lists.T1 ++ s.lists.T2))
  held_append = sym (times_pages_append y s.lists.T1 s.lists.T2)

  see_held : (h : ℕ) → held y s.lists ≤ 1 → 1 ≤ held_in y h s.lists → peeked y s ≡ See h
  see_held h k q =
      let a = held_append in
      let b = in_append y h s.lists.T1 s.lists.T2 in
      see_in y h (s.lists.T1 ++ s.lists.T2) (omega arith) (omega arith)

  not_held : held y s.lists ≡ 0 → peeked y s ≡ No
  not_held q = let a = held_append in not_in y (s.lists.T1 ++ s.lists.T2) (omega arith)

  held_found : (e : Resident) → resident y s.lists ≡ some e → 1 ≤ held_in y e.frame s.lists
  held_found e q =
      let a = found_in y (s.lists.T1 ++ s.lists.T2) e q in
      let b = in_append y e.frame s.lists.T1 s.lists.T2 in
      omega arith

-- the page that enters is held once more, in its frame
admit_held : (y : ℕ) (i : Side) (x f : ℕ) (s : Car)
    → held y (admitted i x f s).lists ≡ held y s.lists + one (eqb y x)
unfolding admitted
admit_held y i x f s =
    let l = s.lists in
    let e = entry x f (clocked (get_or s.free 0 0) false) in
    omega (arith, held_set y i (list i l ++ e ∷ []) l, (snoc_plus (list i l) e).more y)

admit_in : (y h : ℕ) (i : Side) (x f : ℕ) (s : Car)
    → held_in y h (admitted i x f s).lists ≡ held_in y h s.lists + both y h x f
unfolding admitted
admit_in y h i x f s =
    let l = s.lists in
    let e = entry x f (clocked (get_or s.free 0 0) false) in
    omega (arith, held_in_set y h i (list i l ++ e ∷ []) l, in_append y h (list i l) (e ∷ []))

both_self : (y h : ℕ) → both y h y h ≡ 1
both_self y h = rw (eqb_self y) (one_self h)

both_other : (y h p g : ℕ) → eqb y p ≡ false → both y h p g ≡ 0
both_other y h p g q = rw q refl

-- from how often each page is held before the replacement (s), between (r), and after the entry (t)
module _ (s r t : Car) (x f p g : ℕ) where
  record Exchange : Type 0 where
    sound : Sound s.lists
    after_sound : Sound t.lists
    miss : resident x s.lists ≡ none
    full_before : residents s.lists ≡ s.lists.c
    full_after : residents t.lists ≡ s.lists.c
    before : (y : ℕ) → held y s.lists ≡ held y r.lists + one (eqb y p)
    after : (y : ℕ) → held y t.lists ≡ held y r.lists + one (eqb y x)
    before_in : (y h : ℕ) → held_in y h s.lists ≡ held_in y h r.lists + both y h p g
    after_in : (y h : ℕ) → held_in y h t.lists ≡ held_in y h r.lists + both y h x f

  exchanged : Exchange → OneOut s t x f p g
  exchanged c =
      let none-x : held x s.lists ≡ 0 = no_resident_lem s.lists x c.miss in
      let was : held p s.lists ≡ held p r.lists + 1 = omega (arith, c.before p, one_self p) in
      let apart : (p ≡ x → ⊥) = λ q.
      let z : held p s.lists ≡ held x s.lists = ap (λ y. held y s.lists) q in
      let n : ⊥ = omega arith in
      n in
      record {
        was_full = c.full_before;
        is_full_fact = c.full_after;
        was_in = see_held p s g (omega (arith, c.sound.distinct p)) (omega (arith, c.before_in p g, both_self p g));
        is_out = not_held p t (omega (arith, c.after p, one_other p x (ne_eqb p x apart), c.sound.distinct p));
        was_out = ap seen_frame c.miss;
        is_in =
            see_held x t f (omega (arith, c.after_sound.distinct x)) (omega (arith, c.after_in x f, both_self x f));
        others = λ y a b. kept y a b (resident y s.lists) refl;
      }
    where
      kept : (y : ℕ)
          → (y ≡ p → ⊥)
          → (y ≡ x → ⊥)
          → (o : Option Resident)
          → resident y s.lists ≡ o
          → peeked y t ≡ seen_frame o
      kept y a b none q =
          let p-not = one_other y p (ne_eqb y p a) in
          let x-not = one_other y x (ne_eqb y x b) in
          not_held y t (omega (arith, c.before y, c.after y, no_resident_lem s.lists y q))
      kept y a b (some e) q =
          let p-not = both_other y e.frame p g (ne_eqb y p a) in
          let x-not = both_other y e.frame x f (ne_eqb y x b) in
          let there = held_found y s e q in
          see_held y t e.frame (omega (arith, c.after_sound.distinct y))
          (omega (arith, c.before_in y e.frame, c.after_in y e.frame))

one_out : (z : Bool) (o : Option Resident) (x f p g n : ℕ) (i : Place) (s : Car)
    → eqb s.lists.c 0 ≡ z
    → resident x s.lists ≡ o
    → Obeys s
    → Obeys (inserted z o x f s).state
    → (inserted z o x f s).answer ≡ New (out p g i) n
    → OneOut s (inserted z o x f s).state x f p g
unfolding inserted insert_at
one_out true o x f p g n i s hc h w u q = absurd (let z : ◌≡◌ {A = ℕ} 0 1 = cc in let y : ⊥ = omega arith in y)
one_out false (some e) x f p g n i s hc h w u q = absurd (let z : ◌≡◌ {A = ℕ} 0 1 = cc in let y : ⊥ = omega arith in y)
one_out false none x f p g n i s hc h w u q =
    let k : (s.lists.c ≡ 0 → ⊥) = eqb-false s.lists.c 0 hc in
    let a = place_of x s.lists in
    let r = room_for a x s in
    let v : r.victim ≡ out p g i = cc in
    let fills : s.lists.c ≤ residents s.lists = room_full a x s (rw v refl) in
    let full_before : residents s.lists ≡ s.lists.c = omega (arith, w.sound.room) in
    let e = room_ends a x s (omega arith) full_before in
    let count = car_insert_count false none x f s hc h w.sound in
    exchanged s r.state (admitted (goes_to a) x f r.state) x f p g
    (record {
      sound = w.sound;
      after_sound = u.sound;
      miss = h;
      full_before = full_before;
      full_after = omega arith;
      before = λ y. rw v at (e.others y);
      after = λ y. admit_held y (goes_to a) x f r.state;
      before_in = λ y j. rw v at (e.frames y j);
      after_in = λ y j. admit_in y j (goes_to a) x f r.state;
    })

pub insert_one_out : (x f p g n : ℕ) (i : Place) (s : Car)
    → Obeys s
    → (does (Insert x f) s).answer ≡ New (out p g i) n
    → OneOut s (does (Insert x f) s).state x f p g
unfolding does
insert_one_out x f p g n i s w q =
    one_out (eqb s.lists.c 0) (resident x s.lists) x f p g n i s refl refl w (does_obeys (Insert x f) s w) q

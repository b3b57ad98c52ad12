-- CAR's sweep: what a replacement does to a state with a resident.
-- Assumes nothing.
use mathlib.Core.Path.{◌≡◌, refl, sym, subst, ap}
use mathlib.Core.List.{List, [], ◌∷◌, ◌++◌}
use mathlib.Core.Bool.{Bool, true, false}
use Prim.Native.Nat.{ℕ, zero, suc, ◌+◌, ◌≤◌}
use native.Mathlib.Omega.{arith}
use lib.ListN.{length, length-append}
use Rattle.rules.specs.Lists.{one, times}
use Rattle.rules.specs.State.{pages, Lists, Side, first, second, list, set_list, residents, seen}
use Rattle.rules.specs.Calls.{Replaced, steps}
use Rattle.rules.specs.Stages.{turn}
use Rattle.rules.specs.Counts.{outs}
use Rattle.rules.specs.Car.{Clocked, Resident, with_bit, slots, marks, Car, referenced, taken, Obeys, hand_of, passed, evicted, step_then, step_by, step, last_step, sweep, replace}
use Rattle.rules.specs.Demand3.{held, goes, in_frame, held_in, goes_from}
use Rattle.rules.proofs.ListLaws.{Plus, cons_plus, snoc_plus, times_keys_append}
use Rattle.rules.proofs.StateLaws.{put_out_fact, turn_some, residents_set, seen_set}
use Rattle.rules.proofs.Slots.{slot_of, marks_append, taken_set, referenced_set}

pub held_set : (y : ℕ) (i : Side) (l : List Resident) (s : Lists Clocked) → held y (set_list i l s) + times y (pages (list i s)) ≡ held y s + times y (pages l)
held_set y first l s = omega arith
held_set y second l s = omega arith

pub held_in_set : (y h : ℕ) (i : Side) (l : List Resident) (s : Lists Clocked)
    → held_in y h (set_list i l s) + in_frame y h (list i s) ≡ held_in y h s + in_frame y h l
held_in_set y h first l s = omega arith
held_in_set y h second l s = omega arith

pub in_append : (y h : ℕ) (l m : List Resident) → in_frame y h (l ++ m) ≡ in_frame y h l + in_frame y h m
in_append y h [] m = omega arith
in_append y h (e ∷ l) m = omega (arith, in_append y h l m)

-- ---- a step that evicts nobody: the lists hold what they held, but for one mark
pub record Passed (s t : Lists Clocked) : Type 0 where
  pub same_seen : (y : ℕ) → seen y t ≡ seen y s
  pub same_held : (y : ℕ) → held y t ≡ held y s
  pub same_frames : (y h : ℕ) → held_in y h t ≡ held_in y h s
  pub same_taken : (k : ℕ) → taken k t ≡ taken k s
  pub same_residents : residents t ≡ residents s
  pub one_mark : referenced s ≡ referenced t + 1

pub pass_law : (i : Side) (e : Resident) (rest : List Resident) (s : Car) → list i s.lists ≡ e ∷ rest → e.more.bit ≡ true → Passed s.lists (passed i e rest s).lists
pass_law i e rest s h b =
    let l = s.lists in
    let u = set_list i rest l in
    let d = with_bit false e in
    let m = list second u ++ d ∷ [] in
    record {
      same_seen = λ y. omega (arith, seen_set y i rest l, seen_set y second m u, (snoc_plus (list second u) d).more y, ap (λ t. times y (pages t)) h);
      same_held = λ y. omega (arith, held_set y i rest l, held_set y second m u, (snoc_plus (list second u) d).more y, ap (λ t. times y (pages t)) h);
      same_frames =
          λ y f.
          let n = in_append y f (list second u) (d ∷ []) in
          omega (arith, held_in_set y f i rest l, held_in_set y f second m u, ap (in_frame y f) h);
      same_taken = λ k. omega (arith, taken_set k i rest l, taken_set k second m u, times_keys_append slot_of k (list second u) (d ∷ []), ap (λ t. times k (slots t)) h);
      same_residents = omega (arith, residents_set i rest l, residents_set second m u, length-append (list second u) (d ∷ []), ap length h);
      one_mark = omega (arith, referenced_set i rest l, referenced_set second m u, marks_append (list second u) (d ∷ []), ap marks h, ap one b);
    }

pass_obeys : (i : Side) (e : Resident) (rest : List Resident) (s : Car) → Passed s.lists (passed i e rest s).lists → Obeys s → Obeys (passed i e rest s)
pass_obeys i e rest s p w =
    let v = w.sound in
    record {
      sound = record { distinct = λ y. omega (arith, p.same_seen y, v.distinct y); room = omega (arith, p.same_residents, v.room); ghosts1 = v.ghosts1; ghosts2 = v.ghosts2; aim = v.aim };
      slotted = λ k. omega (arith, p.same_taken k, w.slotted k);
    }

-- ---- what a replacement r of a state s does
pub record Swept (s : Car) (r : Replaced Car) : Type 0 where
  pub obeys : Obeys s → Obeys r.state
  pub fewer : (y : ℕ) → seen y r.state.lists ≤ seen y s.lists
  pub less : residents s.lists ≡ residents r.state.lists + 1
  pub capacity : r.state.lists.c ≡ s.lists.c
  -- it puts out exactly one page: there is one victim, which leaves the residents, and no other page does
  pub single : outs r.victim ≡ 1
  pub others : (y : ℕ) → held y s.lists ≡ held y r.state.lists + goes y r.victim
  pub frames : (y h : ℕ) → held_in y h s.lists ≡ held_in y h r.state.lists + goes_from y h r.victim
  -- each step but the last clears a mark
  pub paid : steps r + referenced r.state.lists ≡ referenced s.lists + 1

evict_swept : (i : Side) (e : Resident) (rest : List Resident) (s : Car) → list i s.lists ≡ e ∷ rest → one e.more.bit ≡ 0 → Swept s (evicted i e rest s)
evict_swept i e rest s h b =
    let l = s.lists in
    let p = put_out_fact i e.page rest l (subst (λ t. Plus e.page rest t) (sym h) (cons_plus e rest)) in
    record {
      obeys = λ w. record { sound = p.sound w.sound; slotted = λ k. omega (arith, w.slotted k, taken_set k i rest l, ap (λ t. times k (slots t)) h) };
      fewer = p.fewer;
      less = p.less;
      capacity = refl;
      single = refl;
      others = λ y. omega (arith, held_set y i rest l, ap (λ t. times y (pages t)) h);
      frames = λ y f. omega (arith, held_in_set y f i rest l, ap (in_frame y f) h);
      paid = omega (arith, referenced_set i rest l, ap marks h);
    }

pass_swept : (i : Side) (e : Resident) (rest : List Resident) (s : Car) (r : Replaced Car) → Passed s.lists (passed i e rest s).lists → Swept (passed i e rest s) r → Swept s (step_then i r)
pass_swept i e rest s r p q =
    record {
      obeys = λ w. q.obeys (pass_obeys i e rest s p w);
      fewer = λ y. omega (arith, q.fewer y, p.same_seen y);
      less = omega (arith, q.less, p.same_residents);
      capacity = q.capacity;
      single = q.single;
      others = λ y. omega (arith, q.others y, p.same_held y);
      frames = λ y f. omega (arith, q.frames y f, p.same_frames y f);
      paid = omega (arith, q.paid, p.one_mark);
    }

pub none_marked : (i : Side) (e : Resident) (rest : List Resident) (s : Lists Clocked) → list i s ≡ e ∷ rest → referenced s ≡ 0 → one e.more.bit ≡ 0
none_marked first e rest s h r = omega (arith, ap marks h)
none_marked second e rest s h r = omega (arith, ap marks h)

last_swept : (i : Side) (l : List Resident) (s : Car) → list i s.lists ≡ l → 1 ≤ length l → referenced s.lists ≡ 0 → Swept s (last_step (hand_of i l) s)
unfolding last_step
last_swept i [] s h k r = absurd (omega arith)
last_swept i (e ∷ rest) s h k r = evict_swept i e rest s h (none_marked i e rest s.lists h r)

step_swept : (b : Bool) (i : Side) (e : Resident) (rest : List Resident) (s : Car) (on : Car → Replaced Car) → list i s.lists ≡ e ∷ rest → e.more.bit ≡ b
    → (Passed s.lists (passed i e rest s).lists → Swept (passed i e rest s) (on (passed i e rest s))) → Swept s (step_by b i e rest on s)
unfolding step_by
step_swept false i e rest s on h b k = evict_swept i e rest s h (ap one b)
step_swept true i e rest s on h b k = let p = pass_law i e rest s h b in pass_swept i e rest s (on (passed i e rest s)) p (k p)

hand_swept : (i : Side) (l : List Resident) (s : Car) (on : Car → Replaced Car) → list i s.lists ≡ l → 1 ≤ length l
    → ((t : Car) → Passed s.lists t.lists → Swept t (on t)) → Swept s (step (hand_of i l) on s)
unfolding step
hand_swept i [] s on h n k = absurd (omega arith)
hand_swept i (e ∷ rest) s on h n k = step_swept e.more.bit i e rest s on h refl (λ p. k (passed i e rest s) p)

pub sweep_swept : (r : ℕ) (hit : Bool) (s : Car) → referenced s.lists ≡ r → 1 ≤ residents s.lists → Swept s (sweep r hit s)
unfolding sweep
sweep_swept zero hit s h n = last_swept (turn hit s.lists) _ s refl (turn_some hit s.lists n) h
sweep_swept (suc r) hit s h n =
    hand_swept (turn hit s.lists) _ s (λ t. sweep r hit t) refl (turn_some hit s.lists n)
    (λ t p. sweep_swept r hit t (omega (arith, p.one_mark)) (omega (arith, p.same_residents)))

-- every replacement on a state with a resident
pub replace_swept : (hit : Bool) (s : Car) → 1 ≤ residents s.lists → Swept s (replace hit s)
unfolding replace
replace_swept hit s n = sweep_swept (referenced s.lists) hit s refl n

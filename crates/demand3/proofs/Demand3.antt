-- DEMAND 3 of the code's public calls, from their contracts alone: the sum over any of them one after the other
-- (`Run`); the replacement of an insert, and the page that it puts out; each insert of a batch. Assumes nothing.
use mathlib.Core.Path.{◌≡◌, refl, sym, ap, subst, ◌∙◌}
use mathlib.Core.Bool.{Bool, true, false, cond}
use mathlib.Core.List.{List, [], ◌∷◌}
use mathlib.Core.Logic.{◌⊎◌, inl, inr}
use mathlib.Core.Option.{Option, some, none}
use Prim.Native.Nat.{ℕ, ◌≤◌}
use native.Mathlib.Omega.{arith}
use lib.Dec.{eqb}
use borrow.Author.Tests.{eqb-false}
use Rattle.std.specs.Prelude.{Result, Ok, Err}
use Rattle.rules.specs.State.{residents, resident}
use Rattle.rules.specs.Calls.{Call, Insert, Answer, New, Finished, Stopped, Victim, out, Place, run}
use Rattle.rules.specs.Counts as counting
use Rattle.rules.specs.Counts.{Counts, counted, plus, tally, outs}
use Rattle.rules.specs.Stages.{place_of}
use Rattle.rules.specs.Batch.{batch}
use Rattle.rules.specs.Car as car
use Rattle.rules.specs.Car.{Car, Obeys, referenced, does, new, room_for}
use Rattle.rules.specs.Demand3 as states
use Rattle.rules.specs.Demand3.{OneOut}
use Rattle.rules.proofs.RunLaws.{batch_runs}
use Rattle.rules.proofs.Demand3.{does_pays, run_pays, room_ends, room_full, insert_one_out}
use Rattle.rules.proofs.ClosureCar.{does_obeys, new_obeys}
use Rattle.contracts.specs.Policy.{car_policy, reads}
use Rattle.contracts.specs.Outer.{Outcome, Making}
use Rattle.contracts.specs.Writing.{WritingOf}
use Rattle.contracts.proofs.Exact.{car_exact}
use Rattle.contracts.proofs.Reading.{reads_sound, reads_complete}
use Rattle.contracts.proofs.Outcomes.{outcome_is, making_is}
use Rattle.batch.specs.Outcomes.{counts_is, ran_is, BatchOutcome}
use Rattle.batch.specs.declared.Counts as batches
use Rattle.batch.specs.declared.Stopped as stop
use Rattle.batch.specs.declared.Stopped.TheVariants.{Trace, State}
use Rattle.batch.proofs.ByRules.{batch_is}
use Rattle.demand3.specs.Runs as runs
use Rattle.demand3.specs.Runs.{ran_counts, Run}
use Rattle.demand3.specs.Paying.{Paid, Replaces, PutsOut, ReplacesAt, EachReplaces, calls_of, BatchReplaces}

-- ---- on states: from s to t, with the counts n
record Goes (s : Car) (n : Counts) (t : Car) : Type 0 where
  obeys : Obeys t
  pays : states.Paid s n t

-- calls, and the batch that makes them
run_obeys : (ks : List Call) (s : Car) → Obeys s → Obeys (run does ks s).state
unfolding run
run_obeys [] s o = o
run_obeys (k ∷ ks) s o = run_obeys ks (does k s).state (does_obeys k s o)

batch_goes : (trace : List ℕ) (s : Car) → Obeys s → let b = batch does 0 trace s in Goes s b.counts b.state
batch_goes trace s o =
    let p = batch_runs does 0 0 trace s in
    let ks = calls_of trace in
    let g : Goes s (tally (run does ks s).answers) (run does ks s).state
    = record { obeys = run_obeys ks s o; pays = run_pays ks s o } in
    rw (p.counts, p.state) g

none_referenced : (c : ℕ) → referenced (new c).lists ≡ 0
unfolding new
none_referenced c = refl

-- ---- on areas: v reads as a state again, and the counts n pay from the state s on
record Reads (s : Car) (n : Counts) (v : List ℕ) : Type 0 where
  state : Car
  reads_as : reads car_policy v ≡ some state
  paid : states.Paid s n state

-- something that counted m, and then what follows it
then : (m n : Counts) (v : List ℕ) (s t : Car) → Goes s m t → Reads t n v → Reads s (plus m n) v
then m n v s t g p = record { state = p.state; reads_as = p.reads_as; paid = omega (arith, g.pays, p.paid) }

-- a batch on a state does not answer refusal 3: what it adds to the sum are its counts
adds : (trace : List ℕ) (lent m : batches.Counts) (w u : List ℕ) (a : Result ℕ stop.Stopped) (s : Car)
    → BatchOutcome car_policy trace lent w u (ran_is a) m
    → reads car_policy w ≡ some s
    → ran_counts a m ≡ (batch does 0 trace s).counts
adds trace lent m w u a s x r =
    let q = (batch_is car_policy trace lent w u (ran_is a) m x s r).0 in
    by a (eqb (batch does 0 trace s).refusal 0)
    (ap (λ (d : Answer × counting.Counts). d.0) q)
    (ap (λ (d : Answer × counting.Counts). d.1) q)
  where
    by : (a : Result ℕ stop.Stopped) (z : Bool)
        → let b = batch does 0 trace s in ran_is a ≡ cond z (Finished b.done) (Stopped b.refusal b.offset)
        → counts_is m ≡ b.counts
        → ran_counts a m ≡ b.counts
    by (Ok n) z e h = h
    by (Err (Trace i o)) z e h = h
    by (Err State) true e h = absurd (let z : ◌≡◌ {A = ℕ} 0 1 = cc in let y : ⊥ = omega arith in y)
    by (Err State) false e h = absurd (let z : ◌≡◌ {A = ℕ} 0 1 = cc in let y : ⊥ = omega arith in y)

after_new : (c : ℕ) (a : Answer) (n : Counts) (w u v : List ℕ) (s : Car)
    → Obeys s
    → reads car_policy w ≡ some s
    → Making car_policy c w u a
    → ((t : Car) → Obeys t → reads car_policy u ≡ some t → Reads t n v)
    → Reads s n v
after_new c a n w u v s o r x on = by (making_is car_policy c w u a x)
  where
    by : (reads car_policy u ≡ some (new c)) ⊎ (reads car_policy u ≡ reads car_policy w) → Reads s n v
    by (inl y) =
        let p = on (new c) (new_obeys c) y in
        record { state = p.state; reads_as = p.reads_as; paid = omega (arith, none_referenced c) }
    by (inr y) = on s o (y ∙ r)

pays : {w v : List ℕ} {n : Counts} → (s : Car)
    → Obeys s
    → reads car_policy w ≡ some s
    → Run car_policy w n v
    → Reads s n v
pays s o r runs.none = record { state = s; reads_as = r; paid = omega arith }
pays s o r (runs.call {k} {a} {n} {w} {u} {v} x l) =
    let y = outcome_is car_policy k w u a s x r in
    let t = (does k s).state in
    let g : Goes s (counted a) t = rw y.0 (record { obeys = does_obeys k s o; pays = does_pays k s o }) in
    then (counted a) n v s t g (pays t g.obeys y.1 l)
pays s o r (runs.batch {trace} {lent} {m} {n} {w} {u} {v} a x l) =
    let y = adds trace lent m w u a s x r in
    let t = (batch does 0 trace s).state in
    let g : Goes s (ran_counts a m) t = rw y (batch_goes trace s o) in
    then (ran_counts a m) n v s t g (pays t g.obeys (batch_is car_policy trace lent w u (ran_is a) m x s r).1 l)
pays s o r (runs.new {c} {a} {n} {w} {u} {v} x l) = after_new c a n w u v s o r x (λ t p q. pays t p q l)
pays s o r (runs.ask x l) = pays s o r l
pays s o r (runs.list x l) = pays s o r l

-- "For CAR, from any well-formed state with r0 referenced pages and over any calls: hand steps plus pages still
-- referenced at the end never exceed r0 plus hits plus evictions.": any public calls, batches and listings too (`Run`)
pub demand_3 : (w v : List ℕ) (s : Car) (n : Counts) → WritingOf car_policy w s → Run car_policy w n v → Paid s n v
demand_3 w v s n x l =
    let p = pays s x.well.obeys (reads_complete car_policy car_exact w s x) l in
    record {
      state = p.state;
      writing = λ words. reads_sound car_policy car_exact v p.state words p.reads_as;
      paid = p.paid;
    }

-- ---- a replacement
insert_ends : (z : Bool) (o : Option car.Resident) (x f : ℕ) (s : Car) (i : Victim) (n : ℕ)
    → eqb s.lists.c 0 ≡ z
    → residents s.lists ≡ s.lists.c
    → (car.inserted z o x f s).answer ≡ New i n
    → Replaces s x i n
unfolding car.inserted car.insert_at
insert_ends true o x f s i n hc h q = absurd (let z : ◌≡◌ {A = ℕ} 0 1 = cc in let y : ⊥ = omega arith in y)
insert_ends false (some e) x f s i n hc h q = absurd (let z : ◌≡◌ {A = ℕ} 0 1 = cc in let y : ⊥ = omega arith in y)
insert_ends false none x f s i n hc h q =
    let k : (s.lists.c ≡ 0 → ⊥) = eqb-false s.lists.c 0 hc in
    record { victim_is = cc; steps_are = cc; ends = room_ends (place_of x s.lists) x s (omega arith) h }

does_ends : (x f : ℕ) (s : Car) (i : Victim) (n : ℕ)
    → residents s.lists ≡ s.lists.c
    → (does (Insert x f) s).answer ≡ New i n
    → Replaces s x i n
unfolding does
does_ends x f s i n h q = insert_ends (eqb s.lists.c 0) (resident x s.lists) x f s i n refl h q

-- what an insert of the code answers is what the rules answer on the state that the area is a writing of
inserts : (w v : List ℕ) (s : Car) (x f n : ℕ) (i : Victim)
    → WritingOf car_policy w s
    → Outcome car_policy (Insert x f) w v (New i n)
    → (does (Insert x f) s).answer ≡ New i n
inserts w v s x f n i y o =
    sym (outcome_is car_policy (Insert x f) w v (New i n) s o (reads_complete car_policy car_exact w s y)).0

-- an insert that stores a new page in a full cache
pub demand_3_insert : (w v : List ℕ) (s : Car) (x f n : ℕ) (i : Victim)
    → WritingOf car_policy w s
    → residents s.lists ≡ s.lists.c
    → Outcome car_policy (Insert x f) w v (New i n)
    → Replaces s x i n
demand_3_insert w v s x f n i y h o = does_ends x f s i n h (inserts w v s x f n i y o)

-- ---- there is no other replacement
insert_full : (z : Bool) (o : Option car.Resident) (x f : ℕ) (s : Car) (i : Victim) (n : ℕ)
    → outs i ≡ 1
    → (car.inserted z o x f s).answer ≡ New i n
    → s.lists.c ≤ residents s.lists
unfolding car.inserted car.insert_at
insert_full true o x f s i n h q = absurd (let z : ◌≡◌ {A = ℕ} 0 1 = cc in let y : ⊥ = omega arith in y)
insert_full false (some e) x f s i n h q = absurd (let z : ◌≡◌ {A = ℕ} 0 1 = cc in let y : ⊥ = omega arith in y)
insert_full false none x f s i n h q =
    let e : i ≡ (room_for (place_of x s.lists) x s).victim = cc in
    room_full (place_of x s.lists) x s (rw e at h)

does_full : (x f : ℕ) (s : Car) (i : Victim) (n : ℕ)
    → Obeys s
    → outs i ≡ 1
    → (does (Insert x f) s).answer ≡ New i n
    → residents s.lists ≡ s.lists.c
unfolding does
does_full x f s i n w h q =
    let a = insert_full (eqb s.lists.c 0) (resident x s.lists) x f s i n h q in
    omega (arith, w.sound.room)

-- a page goes out only of a full cache
pub victim_full : (w v : List ℕ) (s : Car) (x f n : ℕ) (i : Victim)
    → WritingOf car_policy w s
    → outs i ≡ 1
    → Outcome car_policy (Insert x f) w v (New i n)
    → residents s.lists ≡ s.lists.c
victim_full w v s x f n i y h o = does_full x f s i n y.well.obeys h (inserts w v s x f n i y o)

-- the same of any insert whose answer names a victim
pub demand_3_victim : (w v : List ℕ) (s : Car) (x f n : ℕ) (i : Victim)
    → WritingOf car_policy w s
    → outs i ≡ 1
    → Outcome car_policy (Insert x f) w v (New i n)
    → Replaces s x i n
demand_3_victim w v s x f n i y h o = demand_3_insert w v s x f n i y (victim_full w v s x f n i y h o) o

-- ---- ".. and puts out exactly one page": the area before such an insert and after it
pub demand_3_one_out : (w v : List ℕ) (s : Car) (x f p g n : ℕ) (i : Place)
    → WritingOf car_policy w s
    → Outcome car_policy (Insert x f) w v (New (out p g i) n)
    → PutsOut s x f p g v
demand_3_one_out w v s x f p g n i y o =
    let t = (does (Insert x f) s).state in
    let q = outcome_is car_policy (Insert x f) w v (New (out p g i) n) s o (reads_complete car_policy car_exact w s y) in
    record {
      state = t;
      writing = λ words. reads_sound car_policy car_exact v t words q.1;
      one_out = insert_one_out x f p g n i s y.well.obeys (sym q.0);
    }

-- ---- the same of each insert of a batch
call_replaces : (k : Call) (s : Car) → Obeys s → ReplacesAt k s
call_replaces k s w =
    record {
      replaces =
          λ x f p g n i e q.
          let a : (does (Insert x f) s).answer ≡ New (out p g i) n = rw (sym e) q in
          does_ends x f s (out p g i) n (does_full x f s (out p g i) n w refl a) a;
      one_out =
          λ x f p g n i e q.
          let a : (does (Insert x f) s).answer ≡ New (out p g i) n = rw (sym e) q in
          subst (λ (j : Call). OneOut s (does j s).state x f p g) (sym e) (insert_one_out x f p g n i s w a);
    }

each_replaces : (ks : List Call) (s : Car) → Obeys s → EachReplaces ks s
each_replaces [] s w = tt
each_replaces (k ∷ ks) s w = (call_replaces k s w, each_replaces ks (does k s).state (does_obeys k s w))

pub demand_3_batch : (trace : List ℕ) (lent m : batches.Counts) (w v : List ℕ) (a : Answer) (s : Car)
    → WritingOf car_policy w s
    → BatchOutcome car_policy trace lent w v a m
    → BatchReplaces trace s v
demand_3_batch trace lent m w v a s y o =
    let t = (run does (calls_of trace) s).state in
    let q = (batch_is car_policy trace lent w v a m o s (reads_complete car_policy car_exact w s y)).1 in
    let r = (batch_runs does 0 0 trace s).state in
    record {
      each = each_replaces (calls_of trace) s y.well.obeys;
      writing = λ words. reads_sound car_policy car_exact v t words (q ∙ ap some r);
    }

-- What one operation may count: at most one of each but steps, and no more steps than it finds pages marked and pays for itself (demand 3). So the counts of a batch stay
-- small. Assumes nothing.
use mathlib.Core.Bool.{Bool, true, false, cond}
use mathlib.Core.Option.{Option, some, none}
use Prim.Native.Nat.{ℕ, ◌+◌, ◌≤◌}
use native.Mathlib.Omega.{arith}
use lib.Dec.{eqb, ltb}
use Rattle.rules.specs.Lists.{last}
use Rattle.rules.specs.State.{list, residents, resident, full, max_capacity}
use Rattle.rules.specs.declared.Side.{Side}
use Rattle.rules.specs.Calls.{Call, Get, Insert, Remove, Clear, Ask, Question, Peek, Contains, Len, Capacity, Target, T1Len, T2Len, B1Len, B2Len, Listing, Place, ghost, nowhere, Victim, nobody, out, Answer, Hit, Miss, New, Old, None, Gone, Absent, Cleared, See, No, Holds, Number, Made, Finished, Stopped, Refused, Done, done, seen_frame, asked, steps, replace_if}
use Rattle.rules.specs.Stages.{place_of, ghost_hit, is_b2, turn}
use Rattle.rules.specs.Counts.{Counts, counted, outs, hits}
use Rattle.rules.specs.Arc as arc
use Rattle.rules.specs.Arc.{Arc}
use Rattle.rules.specs.Car.{referenced}
use Rattle.rules.proofs.Demand3.{does_pays}
use Rattle.contracts.specs.Policy.{policy_of}
use Rattle.rules.specs.declared.Kind.{Kind}
use Rattle.rules.specs.declared.Kind.TheVariants as kinds
use Rattle.car.proofs.Replacing.{marks_few}

-- ---- one answer counts at most one of each but steps
pub record AtMostOne (n : Counts) : Type 0 where
  pub gets : n.gets ≤ 1
  pub new_pages : n.new_pages ≤ 1
  pub removals : n.removals ≤ 1
  pub paid : hits n + n.evictions ≤ 1

nothing : (n : Counts) → n.gets + n.new_pages + n.removals + (hits n + n.evictions) ≤ 1 → AtMostOne n
nothing n h = record { gets = omega arith; new_pages = omega arith; removals = omega arith; paid = omega arith }

out_one : (v : Victim) (n : ℕ) → AtMostOne (counted (New v n))
out_one nobody n = record { gets = omega arith; new_pages = omega arith; removals = omega arith; paid = omega arith }
out_one (out x f p) n = record { gets = omega arith; new_pages = omega arith; removals = omega arith; paid = omega arith }

pub at_most_one : (a : Answer) → AtMostOne (counted a)
at_most_one (Hit f) = record { gets = omega arith; new_pages = omega arith; removals = omega arith; paid = omega arith }
at_most_one Miss = nothing (counted Miss) (omega arith)
at_most_one (New v n) = out_one v n
at_most_one (Old f) = nothing (counted (Old f)) (omega arith)
at_most_one None = nothing (counted None) (omega arith)
at_most_one (Gone f) = nothing (counted (Gone f)) (omega arith)
at_most_one Absent = nothing (counted Absent) (omega arith)
at_most_one Cleared = nothing (counted Cleared) (omega arith)
at_most_one (See f) = nothing (counted (See f)) (omega arith)
at_most_one No = nothing (counted No) (omega arith)
at_most_one (Holds b) = nothing (counted (Holds b)) (omega arith)
at_most_one (Number n) = nothing (counted (Number n)) (omega arith)
at_most_one Made = nothing (counted Made) (omega arith)
at_most_one (Finished n) = nothing (counted (Finished n)) (omega arith)
at_most_one (Stopped r o) = nothing (counted (Stopped r o)) (omega arith)
at_most_one (Refused r) = nothing (counted (Refused r)) (omega arith)

-- ---- ARC: a step puts a page out
abbrev Steps : Done Arc → Type 0
Steps d = (counted d.answer).steps ≤ (counted d.answer).evictions

put_out_steps : (o : Option arc.Resident) (i : Side) (s : Arc) → steps (arc.put_out o i s) ≤ outs (arc.put_out o i s).victim
unfolding arc.put_out
put_out_steps none i s = omega arith
put_out_steps (some e) i s = omega arith

replace_steps : (b hit : Bool) (s : Arc) → steps (replace_if b (arc.replace hit) s) ≤ outs (replace_if b (arc.replace hit) s).victim
unfolding arc.replace
replace_steps false hit s = omega arith
replace_steps true hit s = let i = turn hit s in put_out_steps (last (list i s)) i s

room_steps : (p : Place) (x : ℕ) (s : Arc) → steps (arc.room_for p x s) ≤ outs (arc.room_for p x s).victim
unfolding arc.room_for arc.missed
room_steps (ghost i) x s = let h = ghost_hit i x s in replace_steps (full h) (is_b2 i) h
room_steps nowhere x s = let t = arc.trimmed s in replace_steps (full t) false t

insert_steps : (z : Bool) (o : Option arc.Resident) (x f : ℕ) (s : Arc) → Steps (arc.inserted z o x f s)
unfolding arc.inserted arc.insert_at
insert_steps true o x f s = omega arith
insert_steps false (some e) x f s = omega arith
insert_steps false none x f s = room_steps (place_of x s) x s

got_steps : (o : Option arc.Resident) (s : Arc) → Steps (arc.got o s)
unfolding arc.got
got_steps none s = omega arith
got_steps (some e) s = omega arith

removed_steps : (o : Option arc.Resident) (s : Arc) → Steps (arc.removed o s)
unfolding arc.removed
removed_steps none s = omega arith
removed_steps (some e) s = omega arith

see_steps : (o : Option arc.Resident) (s : Arc) → Steps (done (seen_frame o) s)
see_steps none s = omega arith
see_steps (some e) s = omega arith

listing_steps : (b : Bool) (s : Arc) → Steps (done (cond b (Refused 6) (Number (residents s))) s)
listing_steps true s = omega arith
listing_steps false s = omega arith

ask_steps : (q : Question) (s : Arc) → Steps (done (asked q s) s)
unfolding asked
ask_steps (Peek x) s = see_steps (resident x s) s
ask_steps (Contains x) s = omega arith
ask_steps Len s = omega arith
ask_steps Capacity s = omega arith
ask_steps Target s = omega arith
ask_steps T1Len s = omega arith
ask_steps T2Len s = omega arith
ask_steps B1Len s = omega arith
ask_steps B2Len s = omega arith
ask_steps (Listing n) s = listing_steps (ltb n (residents s)) s

does_steps : (k : Call) (s : Arc) → Steps (arc.does k s)
unfolding arc.does
does_steps (Get x) s = got_steps (resident x s) s
does_steps (Insert x f) s = insert_steps (eqb s.c 0) (resident x s) x f s
does_steps (Remove x) s = removed_steps (resident x s) s
does_steps Clear s = omega arith
does_steps (Ask q) s = ask_steps q s

-- ---- over the policy: how many pages are marked in a state, which a sweep has to pass. ARC marks none.
abbrev pub marks_of : (k : Kind) → (policy_of k).State → ℕ
marks_of kinds.Arc s = 0
marks_of kinds.Car s = referenced s.lists

-- THE LAW of an operation, for either policy: its steps and the pages still marked are no more than the pages marked before, its hits and its evictions
pub pays : (k : Kind) (call : Call) (s : (policy_of k).State) → (policy_of k).WellFormed s
    → let d = (policy_of k).does call s in
    (counted d.answer).steps + marks_of k d.state ≤ marks_of k s + hits (counted d.answer) + (counted d.answer).evictions
pays kinds.Arc call s w = omega (arith, does_steps call s)
pays kinds.Car call s w = does_pays call s w.obeys

-- at most as many as a cache holds
pub few_marked : (k : Kind) (s : (policy_of k).State) → (policy_of k).WellFormed s → marks_of k s ≤ max_capacity
few_marked kinds.Arc s w = omega arith
few_marked kinds.Car s w = omega (arith, marks_few s.lists.T1, marks_few s.lists.T2, w.obeys.sound.room, w.ranged.capacity)

-- WHAT DEMAND 3 SAYS OF AREAS: the sum over any public calls; an insert that replaces; each of the inserts of a batch.
-- Of states: rules/specs/Demand3. Assumes nothing.
use Rattle.std.specs.Prelude.{◌≡◌, List, [], ◌∷◌, map, ℕ}
use Rattle.trace.specs.Reading.{read_from}
use Rattle.rules.specs.Calls.{Call, Insert, New, Victim, Place, out, steps, run}
use Rattle.rules.specs.Counts.{Counts}
use Rattle.rules.specs.Stages.{place_of}
use Rattle.rules.specs.Batch.{call_of}
use Rattle.rules.specs.Car.{Car, room_for, does}
use Rattle.rules.specs.Demand3 as states
use Rattle.rules.specs.Demand3.{Ends, OneOut}
use Rattle.state_check.specs.Check.{Words}
use Rattle.contracts.specs.Policy.{car_policy}
use Rattle.contracts.specs.Writing.{WritingOf}

-- "hand steps plus pages still referenced at the end never exceed r0 plus hits plus evictions" (RULES 10.3): the area
-- v is a writing of a state again, and the counts n pay for the hand steps from the state s on
pub record Paid (s : Car) (n : Counts) (v : List ℕ) : Type 0 where
  pub state : Car
  pub writing : Words v → WritingOf car_policy v state
  pub paid : states.Paid s n state

-- "Each replacement on a full cache with r referenced pages ends within r+1 steps, turns from the recent to the
-- frequent clock at most once and never back, and puts out exactly one page." (RULES 10.4): an insert of the page x
-- into the state s names a victim and n steps, and they are those of the rules' replacement
pub record Replaces (s : Car) (x : ℕ) (victim : Victim) (n : ℕ) : Type 0 where
  pub victim_is : victim ≡ (room_for (place_of x s.lists) x s).victim
  pub steps_are : n ≡ steps (room_for (place_of x s.lists) x s)
  pub ends : Ends s (room_for (place_of x s.lists) x s)

-- ".. puts out exactly one page" (RULES 10.4), of the whole insert of the page x and the frame f: the area v that it
-- leaves is a writing of a state in which of the residents of s the page p alone is missing, which was in the frame g,
-- and x alone has come, in f
pub record PutsOut (s : Car) (x f p g : ℕ) (v : List ℕ) : Type 0 where
  pub state : Car
  pub writing : Words v → WritingOf car_policy v state
  pub one_out : OneOut s state x f p g

-- the same of the call k on the state s, where it is an insert whose answer names a victim
pub record ReplacesAt (k : Call) (s : Car) : Type 0 where
  pub replaces : (x f p g n : ℕ) (i : Place)
      → k ≡ Insert x f
      → (does k s).answer ≡ New (out p g i) n
      → Replaces s x (out p g i) n
  pub one_out : (x f p g n : ℕ) (i : Place)
      → k ≡ Insert x f
      → (does k s).answer ≡ New (out p g i) n
      → OneOut s (does k s).state x f p g

-- and of each of the calls ks, one after the other from the state s on
abbrev pub EachReplaces : List Call → Car → Type 0
EachReplaces [] s = Unit {0}
EachReplaces (k ∷ ks) s = ReplacesAt k s × EachReplaces ks (does k s).state

-- the calls of the operations that a trace reads whole
abbrev pub calls_of : List ℕ → List Call
calls_of trace = map call_of (read_from 0 0 trace).operations

-- a batch of a trace on a writing of the state s: each of its inserts that names a victim puts out exactly that page,
-- and the area v that it leaves is a writing of what they all leave
pub record BatchReplaces (trace : List ℕ) (s : Car) (v : List ℕ) : Type 0 where
  pub each : EachReplaces (calls_of trace) s
  pub writing : Words v → WritingOf car_policy v (run does (calls_of trace) s).state

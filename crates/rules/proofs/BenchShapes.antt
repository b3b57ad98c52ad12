-- What the rows of the bench table show, and the shorthand that they are written in.
-- Pages stand for themselves; an insert that names no frame has the frame 0. The states, records and counts that a row wants are written here field by
-- field, and with none of the rules' own definitions: a wrong one would be on both sides of the row.
-- Assumes nothing.
use mathlib.Core.List.{List, map}
use mathlib.Core.Bool.{Bool, true, false}
use mathlib.Core.Option.{Option}
use Prim.Native.Nat.{ℕ}
use Rattle.numbers.specs.Reading.{Number}
use Rattle.trace.specs.declared.Checked.{Checked}
use Rattle.trace.specs.declared.Step.{Step}
use Rattle.trace.specs.declared.Operation.{Operation}
use Rattle.rules.specs.State.{Entry, first, second}
use Rattle.rules.specs.Calls.{Call, Insert, ghost, nobody, out, Answer, New, Record, Done, Replaced, run}
use Rattle.rules.specs.Counts.{Counts}
use Rattle.rules.specs.Public.{ListingDone, BatchDone}
use Rattle.rules.specs.Program.{program}
use Rattle.rules.specs.Arc.{Arc}
use Rattle.rules.specs.Arc
use Rattle.rules.specs.Car.{Car}
use Rattle.rules.specs.Car

-- ---- what a row shows
pub data Shown : Type 0 where
  -- what the program prints
  prints : List ℕ → Shown
  -- numbers read
  reads : Number → Number → Shown
  -- a trace check, and a step of a cursor; the operations of a trace
  checks : Checked → Step → Shown
  operations : List Operation → Shown
  -- numbers, and tests
  numbers : List ℕ → Shown
  tests : List Bool → Shown
  -- the answers of calls
  answers : List Answer → Shown
  -- a state, and what a call answers and leaves
  arc_is : Arc → Shown
  car_is : Car → Shown
  arc_does : Done Arc → Shown
  car_does : Done Car → Shown
  -- a replacement
  arc_out : Replaced Arc → Shown
  car_out : Replaced Car → Shown
  -- records
  lists : List Record → Shown
  -- counts
  counting : Counts → Shown
  -- what a public call answers and leaves
  arc_made : Done (Option Arc) → Shown
  car_made : Done (Option Car) → Shown
  arc_listed : ListingDone Arc → Shown
  car_listed : ListingDone Car → Shown
  arc_batched : BatchDone Arc → Shown
  car_batched : BatchDone Car → Shown

-- a row: what the definitions give, and what the rules say
pub record Row : Type 0 where
  pub given : Shown
  pub wanted : Shown

abbrev pub ◌is◌ : Shown → Shown → Row
◌is◌ g w = record { given = g; wanted = w }

infix 5 ◌is◌
-- ---- states
-- a page and its frame; a page of frame 0
abbrev pub plain : ℕ × ℕ → Entry (Unit {0})
plain r = record { page = r.0; frame = r.1; more = tt }

abbrev pub pages : List ℕ → List (ℕ × ℕ)
pages l = map (λ x. (x, 0)) l

-- capacity, target, T1, T2 with frames, B1, B2; then with pages alone
abbrev pub arc_of : ℕ → ℕ → List (ℕ × ℕ) → List (ℕ × ℕ) → List ℕ → List ℕ → Arc
arc_of c p t1 t2 b1 b2 = record { c = c; target = p; T1 = map plain t1; T2 = map plain t2; B1 = b1; B2 = b2 }

abbrev pub arc_pages : ℕ → ℕ → List ℕ → List ℕ → List ℕ → List ℕ → Arc
arc_pages c p t1 t2 b1 b2 = arc_of c p (pages t1) (pages t2) b1 b2

-- a page, its frame and its slot, with its bit clear; and referenced
abbrev pub at : ℕ → ℕ → ℕ → Car.Resident
at x f k = record { page = x; frame = f; more = record { slot = k; bit = false } }

abbrev pub ref : ℕ → ℕ → ℕ → Car.Resident
ref x f k = record { page = x; frame = f; more = record { slot = k; bit = true } }

-- capacity, target, the clocks, B1, B2, the free slots
abbrev pub car_of : ℕ → ℕ → List Car.Resident → List Car.Resident → List ℕ → List ℕ → List ℕ → Car
car_of c p t1 t2 b1 b2 free = record { lists = record { c = c; target = p; T1 = t1; T2 = t2; B1 = b1; B2 = b2 }; free = free }

-- ---- calls and answers
abbrev pub ins : ℕ → Call
ins x = Insert x 0

abbrev pub new : Answer
new = New nobody 0

-- a page of frame 0 went out to B1 or B2, after so many steps
abbrev pub to_b1 : ℕ → ℕ → Answer
to_b1 x n = New (out x 0 (ghost first)) n

abbrev pub to_b2 : ℕ → ℕ → Answer
to_b2 x n = New (out x 0 (ghost second)) n

-- ---- runs of calls on an empty cache of c frames
module _ (c : ℕ) (ks : List Call) where
  abbrev pub arc_answers : Shown
  arc_answers = answers (run Arc.does ks (Arc.new c)).answers

  abbrev pub arc_state : Shown
  arc_state = arc_is (run Arc.does ks (Arc.new c)).state

  abbrev pub car_answers : Shown
  car_answers = answers (run Car.does ks (Car.new c)).answers

  abbrev pub car_state : Shown
  car_state = car_is (run Car.does ks (Car.new c)).state

-- ---- one call on a state: what it answers and leaves; one that leaves the state as it was
abbrev pub arc : Arc → Call → Answer → Arc → Row
arc s k a t = arc_does (Arc.does k s) is arc_does (record { answer = a; state = t })

abbrev pub car : Car → Call → Answer → Car → Row
car s k a t = car_does (Car.does k s) is car_does (record { answer = a; state = t })

abbrev pub arc_same : Arc → Call → Answer → Row
arc_same s k a = arc s k a s

abbrev pub car_same : Car → Call → Answer → Row
car_same s k a = car s k a s

-- ---- the rest
abbrev pub printed : List ℕ → List ℕ → Row
printed input text = prints (program input) is prints text

abbrev pub rec : ℕ × ℕ → Record
rec r = record { page = r.0; frame = r.1 }

-- gets, get hits, updates, new pages, evictions, steps, removals
abbrev pub tallied : ℕ → ℕ → ℕ → ℕ → ℕ → ℕ → ℕ → Counts
tallied g h u n e s r = record { gets = g; get_hits = h; updates = u; new_pages = n; evictions = e; steps = s; removals = r }

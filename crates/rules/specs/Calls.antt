-- Calls and answers, the same for every policy, and runs of calls. Assumes nothing.
use Rattle.std.specs.Prelude.{ℕ, List, [], ◌∷◌, Bool, true, false, cond, ltb, length}
use Rattle.std.proofs.Math.Option.{Option, some, none}
use Rattle.rules.specs.State.{Entry, Lists, Side, residents, resident, IsPage, IsFrame}

-- ---- calls on a state
-- calls that change nothing
pub data Question : Type 0 where
  Peek : ℕ → Question
  Contains : ℕ → Question
  Len : Question
  Capacity : Question
  -- p_value, t1_len, t2_len, b1_len, b2_len
  Target : Question
  T1Len : Question
  T2Len : Question
  B1Len : Question
  B2Len : Question
  -- a listing into so many records
  Listing : ℕ → Question

pub data Call : Type 0 where
  Get : ℕ → Call
  -- a page and a frame
  Insert : ℕ → ℕ → Call
  Remove : ℕ → Call
  Clear : Call
  Ask : Question → Call

-- a call's page is a u64 and its frame a u32; a question changes no state, and nothing is asked of it
abbrev pub InRange : Call → Type 0
InRange (Get x) = IsPage x
InRange (Insert x f) = IsPage x × IsFrame f
InRange (Remove x) = IsPage x
InRange Clear = Unit {0}
InRange (Ask q) = Unit {0}

-- ---- answers
-- where a page that is no resident is found, or a victim is recorded
pub data Place : Type 0 where
  ghost : Side → Place
  nowhere : Place

-- the victim of an insert: its page and frame, and where it was recorded
pub data Victim : Type 0 where
  nobody : Victim
  out : ℕ → ℕ → Place → Victim

pub data Answer : Type 0 where
  -- a get: the frame, or nothing
  Hit : ℕ → Answer
  Miss : Answer
  -- an insert: stored new, with the victim and the replacement steps; updated, with the old frame; not stored
  New : Victim → ℕ → Answer
  Old : ℕ → Answer
  None : Answer
  -- a removal: the frame, or nothing
  Gone : ℕ → Answer
  Absent : Answer
  Cleared : Answer
  -- a peek: the frame, or nothing
  See : ℕ → Answer
  No : Answer
  -- contains
  Holds : Bool → Answer
  -- len, capacity, the five accessors; how many records a listing wrote
  Number : ℕ → Answer
  -- new
  Made : Answer
  -- a batch: the operations done; or the refusal 4 or 5, with its offset
  Finished : ℕ → Answer
  Stopped : ℕ → ℕ → Answer
  -- a refusal without an offset, by its number
  Refused : ℕ → Answer

-- an answer, and the state that the call leaves
pub record Done (S : Type 0) : Type 0 where
  pub answer : Answer
  pub state : S

abbrev pub done : {S : Type 0} → Answer → S → Done S
done a s = record { answer = a; state = s }

-- ---- questions
-- a page and a frame, as a listing writes them
pub record Record : Type 0 where
  pub page : ℕ
  pub frame : ℕ

module _ {X : Type 0} where
  abbrev pub record_of : Entry X → Record
  record_of e = record { page = e.page; frame = e.frame }

  abbrev pub seen_frame : Option (Entry X) → Answer
  seen_frame none = No
  seen_frame (some e) = See e.frame

  abbrev pub is_there : Option (Entry X) → Bool
  is_there none = false
  is_there (some e) = true

  -- "6 ROOM: listing into fewer records than residents" (RULES 3.6)
  unfoldable pub asked : Question → Lists X → Answer
  asked (Peek x) s = seen_frame (resident x s)
  asked (Contains x) s = Holds (is_there (resident x s))
  asked Len s = Number (residents s)
  asked Capacity s = Number s.c
  asked Target s = Number s.target
  asked T1Len s = Number (length s.T1)
  asked T2Len s = Number (length s.T2)
  asked B1Len s = Number (length s.B1)
  asked B2Len s = Number (length s.B2)
  asked (Listing n) s = cond (ltb n (residents s)) (Refused 6) (Number (residents s))

-- ---- replacements
-- the victim; the lists (or clocks) that the steps stood at, in order; and the state after it
pub record Replaced (S : Type 0) : Type 0 where
  pub victim : Victim
  pub trail : List Side
  pub state : S

module _ {S : Type 0} where
  abbrev pub replaced : Victim → List Side → S → Replaced S
  replaced v t s = record { victim = v; trail = t; state = s }

  -- its steps
  abbrev pub steps : Replaced S → ℕ
  steps r = length r.trail

  -- "if residents >= c, replace": by that test, with what the replacement gives
  abbrev pub replace_if : Bool → (S → Replaced S) → S → Replaced S
  replace_if false replace s = replaced nobody [] s
  replace_if true replace s = replace s

-- ---- a run of calls: the answers in order, and the state after the last call
pub record Ran (S : Type 0) : Type 0 where
  pub answers : List Answer
  pub state : S

unfoldable pub run : {S : Type 0} → (Call → S → Done S) → List Call → S → Ran S
run does [] s = record { answers = []; state = s }
run does (k ∷ ks) s =
    let d = does k s in
    let r = run does ks d.state in
    record { answers = d.answer ∷ r.answers; state = r.state }

-- Operations of a trace, and a whole trace (RULES 8 and 3). Assumes nothing.
use Rattle.std.specs.Prelude.{ℕ, zero, suc, ◌+◌, ◌-◌, List, [], ◌∷◌, cond, eqb, length, drop, Option, Some, None, Ok, Err}
use Rattle.refusals.specs.declared.Refusal.{Refusal}
use Rattle.refusals.specs.declared.Refusal.TheVariants as refusals
use Rattle.refusals.specs.Refusals.{number_of}
use Rattle.numbers.specs.declared.Fault.{Fault}
use Rattle.numbers.specs.declared.Fault.TheVariants.{Missing, NotShortest, TooLarge}
use Rattle.numbers.specs.Reading.{Number, page_of, frame_of}
use Rattle.trace.specs.declared.Operation.{Operation}
use Rattle.trace.specs.declared.Operation.TheVariants.{Get, Insert, Remove, Clear, Peek}
use Rattle.trace.specs.declared.Checked.{Checked}

-- ---- what a fault in a number is answered with
-- 5 NUMBER: a needed byte is missing, a number is not in shortest form, or is too large
abbrev pub fault_refusal : Fault → Refusal
fault_refusal (Missing at) = refusals.Number
fault_refusal (NotShortest at) = refusals.Number
fault_refusal (TooLarge at) = refusals.Number

-- "Refusals 4 and 5 also give the byte offset of the operation's first byte" (RULES 3.22): how far past that byte the
-- offset lies, where the number starts at the place `start` of the operation
abbrev pub fault_place : ℕ → Fault → ℕ
fault_place start f = 0

-- ---- one operation
-- an operation with how many bytes it takes, or a refusal with how far its offset lies past the operation's first byte
pub data Parsed : Type 0 where
  whole : Operation → ℕ → Parsed
  refused : Refusal → ℕ → Parsed

abbrev pub faulty : ℕ → Fault → Parsed
faulty start f = refused (fault_refusal f) (fault_place start f)

-- a page alone, right after the code
abbrev pub with_page : (ℕ → Operation) → Number → Parsed
with_page op (Ok page) = whole (op page.value) (1 + page.used)
with_page op (Err f) = faulty 1 f

-- a page, and then a frame, which starts at the place `past`
abbrev pub with_frame : ℕ → ℕ → Number → Parsed
with_frame page past (Ok frame) = whole (Insert page frame.value) (past + frame.used)
with_frame page past (Err f) = faulty past f

abbrev pub with_both : List ℕ → Number → Parsed
with_both bs (Ok page) = with_frame page.value (1 + page.used) (frame_of (drop page.used bs))
with_both bs (Err f) = faulty 1 f

-- "Codes: 1 get, 2 insert, 3 remove, 4 clear, 5 peek; then page (1, 2, 3, 5) and frame (2)" (RULES 8.1): the operation
-- of a code, with the bytes after it
unfoldable pub operation_of : ℕ → List ℕ → Parsed
operation_of code bs =
    cond (eqb code 1) (with_page Get (page_of bs))
    (cond (eqb code 2) (with_both bs (page_of bs))
    (cond (eqb code 3) (with_page Remove (page_of bs))
    (cond (eqb code 4) (whole Clear 1)
    (cond (eqb code 5) (with_page Peek (page_of bs))
    (refused refusals.Operation 0)))))

-- ---- a whole trace: the operations that read whole before the end or a refusal 4 or 5, that refusal, and its offset (the length for none)
pub record Reading : Type 0 where
  pub operations : List Operation
  pub refusal : Option Refusal
  pub offset : ℕ

abbrev pub reading : List Operation → Option Refusal → ℕ → Reading
reading ops r o = record { operations = ops; refusal = r; offset = o }

-- what stands at the offset o; `rest k` reads on behind the first byte, of which the first k belong to this operation
unfoldable pub read_at : ℕ → Parsed → (ℕ → Reading) → Reading
read_at o (whole op used) rest = let r = rest (used - 1) in reading (op ∷ r.operations) r.refusal r.offset
read_at o (refused r place) rest = reading [] (Some r) (o + place)

-- the bytes from the offset o on, of which the first k belong to an operation that was read
unfoldable pub read_from : ℕ → ℕ → List ℕ → Reading
unfolding read_at operation_of
read_from o k [] = reading [] None o
read_from o (suc k) (b ∷ bs) = read_from (o + 1) k bs
read_from o zero (b ∷ bs) = read_at o (operation_of b bs) (λ k. read_from (o + 1) k bs)

abbrev pub reading_of : List ℕ → Reading
reading_of bs = read_from 0 0 bs

-- "A trace check runs nothing and tells, for any bytes, how many operations read whole before the end or a refusal 4
-- or 5, that refusal's number (0 for none), and its offset (the length for none)." (RULES 8.6)
abbrev pub check_of : List ℕ → Checked
check_of bs =
    let r = reading_of bs in
    record { operations = length r.operations; refusal = r.refusal; offset = r.offset }

-- "that refusal's number (0 for none)"
abbrev pub stop_number : Option Refusal → ℕ
stop_number None = 0
stop_number (Some r) = number_of r

-- ---- the three answers of a check in words that a caller lends
-- the words with the answers in the first three; fewer than three stay as they are
unfoldable pub told_into : Checked → List ℕ → List ℕ
told_into c [] = []
told_into c (x ∷ []) = x ∷ []
told_into c (x ∷ y ∷ []) = x ∷ y ∷ []
told_into c (x ∷ y ∷ z ∷ rest) = c.operations ∷ stop_number c.refusal ∷ c.offset ∷ rest

-- 1 where there is room for the answers, else 0
unfoldable pub room_in : List ℕ → ℕ
room_in [] = 0
room_in (x ∷ []) = 0
room_in (x ∷ y ∷ []) = 0
room_in (x ∷ y ∷ z ∷ rest) = 1

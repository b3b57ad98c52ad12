-- Worked examples of the definitions: one statement over a table, which antt computes. A row has the bytes of a trace; the operations that read whole,
-- the refusal and its offset; and what a cursor at a place finds, with where it is then. Assumes nothing.
use mathlib.Core.Path.{◌≡◌, refl}
use mathlib.Core.List.{List, [], ◌∷◌, ◌++◌, map}
use Prim.Native.Nat.{ℕ, ◌-◌, ◌^◌}
use lib.ListN.{replicate}
use Rattle.std.specs.Prelude.{Option, Some, None}
use Rattle.refusals.specs.declared.Refusal.{Refusal}
use Rattle.refusals.specs.declared.Refusal.TheVariants as refusals
use Rattle.numbers.specs.Reading.{read_from as read_number}
use Rattle.trace.specs.Reading.{operation_of, read_at, read_from, check_of}
use Rattle.trace.specs.Steps.{step_at, step_of}
use Rattle.trace.specs.declared.Operation.TheVariants.{Get, Insert, Remove, Clear, Peek}
use Rattle.trace.specs.declared.Found.{Found}
use Rattle.trace.specs.declared.Found.TheVariants.{Read, End, Refused}
use Rattle.trace.specs.declared.Step.{Step}
use Rattle.trace.specs.declared.Checked.{Checked}

pub record Example : Type 0 where
  pub bytes : List ℕ
  pub checked : Checked
  pub at : ℕ
  pub step : Step

abbrev example : List ℕ → ℕ → Option Refusal → ℕ → ℕ → ℕ → Found → Example
example bs n r o at to f =
    record { bytes = bs; checked = record { operations = n; refusal = r; offset = o }; at = at; step = record { cursor = record { at = to }; found = f } }

-- bytes, then operations, refusal and offset; then a cursor, where it is after the step, and what it found
abbrev pub examples : List Example
examples =
    -- the operations of P1: read to the end, where the cursor stays, as it does past it
    example (2 ∷ 5 ∷ 10 ∷ 2 ∷ 6 ∷ 11 ∷ 1 ∷ 5 ∷ 2 ∷ 7 ∷ 12 ∷ 2 ∷ 5 ∷ 13 ∷ []) 5 None 14 3 6 (Read (Insert 6 11)) ∷
    example (1 ∷ 5 ∷ 3 ∷ 0x80 ∷ 0x01 ∷ 4 ∷ 5 ∷ 7 ∷ []) 4 None 8 8 8 End ∷
    example (1 ∷ 5 ∷ 3 ∷ 0x80 ∷ 0x01 ∷ 4 ∷ 5 ∷ 7 ∷ []) 4 None 8 2 5 (Read (Remove 128)) ∷
    example (1 ∷ 5 ∷ 3 ∷ 0x80 ∷ 0x01 ∷ 4 ∷ 5 ∷ 7 ∷ []) 4 None 8 6 8 (Read (Peek 7)) ∷
    example [] 0 None 0 0 0 End ∷
    example (4 ∷ []) 1 None 1 9 9 End ∷
    example (4 ∷ []) 1 None 1 0 1 (Read Clear) ∷
    -- a code outside 1 to 5 is refusal 4, before any number is looked at; the cursor stays
    example (4 ∷ 6 ∷ []) 1 (Some refusals.Operation) 1 1 1 (Refused refusals.Operation 1) ∷
    example (0 ∷ 1 ∷ 1 ∷ []) 0 (Some refusals.Operation) 0 0 0 (Refused refusals.Operation 0) ∷
    example (1 ∷ replicate 9 0xff ++ 1 ∷ 0xff ∷ 0x80 ∷ 0 ∷ []) 1 (Some refusals.Operation) 11 0 11 (Read (Get (2 ^ 64 - 1))) ∷
    -- a number that cannot be read is refusal 5, at the operation's first byte and not at the number's; the cursor stays
    example (4 ∷ 1 ∷ 0x80 ∷ 0x00 ∷ []) 1 (Some refusals.Number) 1 1 1 (Refused refusals.Number 1) ∷
    example (4 ∷ 2 ∷ replicate 9 0xff ++ 2 ∷ 7 ∷ []) 1 (Some refusals.Number) 1 1 1 (Refused refusals.Number 1) ∷
    example (2 ∷ 1 ∷ replicate 4 0xff ++ 0x0f ∷ 2 ∷ 1 ∷ replicate 4 0xff ++ 0x10 ∷ []) 1 (Some refusals.Number) 7 7 7 (Refused refusals.Number 7) ∷
    -- an operation that is cut at the end is refused, and not counted
    example (4 ∷ 4 ∷ 3 ∷ []) 2 (Some refusals.Number) 2 2 2 (Refused refusals.Number 2) ∷
    example (4 ∷ 2 ∷ 9 ∷ []) 1 (Some refusals.Number) 1 1 1 (Refused refusals.Number 1) ∷
    example (5 ∷ 0 ∷ 2 ∷ 9 ∷ 0x80 ∷ []) 1 (Some refusals.Number) 2 0 2 (Read (Peek 0)) ∷ []

pub all_right : map (λ e. record { bytes = e.bytes; checked = check_of e.bytes; at = e.at; step = step_of e.at e.bytes }) examples ≡ examples
unfolding read_number operation_of read_at read_from step_at
all_right = refl

-- The cursor over a trace (RULES 8). Assumes nothing.
--
-- "On a refusal, or at or past the trace's end, the cursor stays where it is. The cursor over the trace gives itself
-- back moved past one operation, and what follows is handed on as the rest of the trace from that operation."
-- (RULES 8.5)
use Rattle.std.specs.Prelude.{ℕ, ◌+◌, List, [], ◌∷◌, drop}
use Rattle.trace.specs.declared.Found.{Found}
use Rattle.trace.specs.declared.Found.TheVariants.{Read, End, Refused}
use Rattle.trace.specs.declared.Step.{Step}
use Rattle.trace.specs.Reading.{Parsed, whole, refused, operation_of}

abbrev pub step_to : ℕ → Found → Step
step_to at f = record { cursor = record { at = at }; found = f }

-- what a cursor at the offset `at` finds
abbrev pub stepped : ℕ → Parsed → Step
stepped at (whole op used) = step_to (at + used) (Read op)
stepped at (refused r place) = step_to at (Refused r (at + place))

-- a cursor at the offset `at`, and the rest of the trace from there
unfoldable pub step_at : ℕ → List ℕ → Step
step_at at [] = step_to at End
step_at at (b ∷ bs) = stepped at (operation_of b bs)

-- the same over the whole trace, for any cursor
abbrev pub step_of : ℕ → List ℕ → Step
step_of at trace = step_at at (drop at trace)

-- A batch runs a whole trace (RULES 7). Assumes nothing.
use Prim.Native.Nat.{ℕ, zero, suc, ◌+◌, ◌-◌}
use mathlib.Core.List.{List, [], ◌∷◌}
use Rattle.std.specs.Prelude.{cond, eqb}
use Rattle.refusals.specs.Refusals.{number_of}
use Rattle.numbers.specs.Reading.{read_from}
use Rattle.trace.specs.declared.Operation.{Operation}
use Rattle.trace.specs.declared.Operation.TheVariants.{Get as GetOp, Insert as InsertOp, Remove as RemoveOp, Clear as ClearOp, Peek as PeekOp}
use Rattle.trace.specs.Reading.{Parsed, whole, refused, operation_of}
use Rattle.rules.specs.Calls.{Call, Get, Insert, Remove, Clear, Ask, Peek, Answer, Finished, Stopped, Done}
use Rattle.rules.specs.Counts.{Counts, no_counts, counted, plus}

-- an operation of a trace as a call
abbrev pub call_of : Operation → Call
call_of (GetOp x) = Get x
call_of (InsertOp x f) = Insert x f
call_of (RemoveOp x) = Remove x
call_of ClearOp = Clear
call_of (PeekOp x) = Ask (Peek x)

-- The answers in order, and how many; the refusal 4 or 5 that stopped it (0 for none) and its offset (the end for none); the state after the
-- operations done; their counts.
pub record Batched (S : Type 0) : Type 0 where
  pub answers : List Answer
  pub done : ℕ
  pub refusal : ℕ
  pub offset : ℕ
  pub state : S
  pub counts : Counts

module _ {S : Type 0} where
  -- no more operations: the end, or a refusal
  abbrev pub stopped : ℕ → ℕ → S → Batched S
  stopped r o s = record { answers = []; done = 0; refusal = r; offset = o; state = s; counts = no_counts }

  -- one operation's answer, and then a batch
  abbrev pub answer_then : Answer → Batched S → Batched S
  answer_then a b =
      record { answers = a ∷ b.answers; done = suc b.done; refusal = b.refusal; offset = b.offset; state = b.state; counts = plus (counted a) b.counts }

  -- what stands at the offset o; `rest k` runs on behind the first byte, of which the first k belong to this operation
  unfoldable pub run_at : (Call → S → Done S) → ℕ → Parsed → (ℕ → S → Batched S) → S → Batched S
  run_at does o (whole op used) rest s = let d = does (call_of op) s in answer_then d.answer (rest (used - 1) d.state)
  run_at does o (refused r place) rest s = stopped (number_of r) (o + place) s

  -- the bytes from the offset o on, of which the first k belong to an operation that was run
  unfoldable pub run_from : (Call → S → Done S) → ℕ → ℕ → List ℕ → S → Batched S
  unfolding run_at operation_of read_from
  run_from does o k [] s = stopped 0 o s
  run_from does o (suc k) (b ∷ bs) s = run_from does (o + 1) k bs s
  run_from does o zero (b ∷ bs) s = run_at does o (operation_of b bs) (λ k t. run_from does (o + 1) k bs t) s

  -- a batch of the bytes, whose first has the offset o
  abbrev pub batch : (Call → S → Done S) → ℕ → List ℕ → S → Batched S
  batch does o bs s = run_from does o 0 bs s

  -- its answer: "the operations done, or the refusal" (RULES 7.4)
  abbrev pub answer_of : Batched S → Answer
  answer_of b = cond (eqb b.refusal 0) (Finished b.done) (Stopped b.refusal b.offset)

-- A batch, the calls of its operations, and the trace check agree, for any bytes and either policy.
-- Assumes nothing.
use mathlib.Core.Path.{refl, ap}
use mathlib.Core.List.{List, [], ◌∷◌}
use Prim.Native.Nat.{ℕ, zero, suc, ◌+◌, ◌-◌}
use Rattle.trace.specs.Reading.{Parsed, whole, refused, operation_of, Reading, read_at, read_from}
use Rattle.rules.specs.Calls.{Call, Done, run}
use Rattle.rules.specs.Counts.{counted, plus}
use Rattle.rules.specs.Batch.{call_of, Batched, run_at, run_from, batch}
use Rattle.rules.specs.Agreeing.{Agrees, AsChecked}

module _ {S : Type 0} where
  at_agrees : (does : Call → S → Done S) (o : ℕ) (p : Parsed) (f : ℕ → Reading) (g : ℕ → S → Batched S) (s : S)
      → ((k : ℕ) (t : S) → Agrees does t (f k) (g k t)) → Agrees does s (read_at o p f) (run_at does o p g s)
  unfolding read_at run_at run
  at_agrees does o (whole op used) f g s h =
      let d = does (call_of op) s in
      let a = h (used - 1) d.state in
      record {
        done = ap suc a.done;
        refusal = a.refusal;
        offset = a.offset;
        answers = ap (λ l. d.answer ∷ l) a.answers;
        state = a.state;
        counts = ap (plus (counted d.answer)) a.counts;
      }
  at_agrees does o (refused r place) f g s h = record { done = refl; refusal = refl; offset = refl; answers = refl; state = refl; counts = refl }

  -- from any place, of which k bytes belong to an operation that was read
  pub batch_runs : (does : Call → S → Done S) (o k : ℕ) (bs : List ℕ) (s : S) → Agrees does s (read_from o k bs) (run_from does o k bs s)
  unfolding read_from run_from run
  batch_runs does o zero [] s = record { done = refl; refusal = refl; offset = refl; answers = refl; state = refl; counts = refl }
  batch_runs does o (suc k) [] s = record { done = refl; refusal = refl; offset = refl; answers = refl; state = refl; counts = refl }
  batch_runs does o (suc k) (b ∷ bs) s = batch_runs does (o + 1) k bs s
  batch_runs does o zero (b ∷ bs) s =
      at_agrees does o (operation_of b bs) (λ k. read_from (o + 1) k bs) (λ k t. run_from does (o + 1) k bs t) s (λ k t. batch_runs does (o + 1) k bs t)

  -- "For any bytes: the trace check's answer and the run of the trace agree"
  pub check_agrees : (does : Call → S → Done S) (bs : List ℕ) (s : S) → AsChecked bs (batch does 0 bs s)
  check_agrees does bs s =
      let a = batch_runs does 0 0 bs s in
      record { operations = a.done; refusal = a.refusal; offset = a.offset }

-- REFUSAL 3 OF A BATCH IS EXACT: it is given exactly when the words are a writing of no well-formed state of the
-- policy, whatever the trace is. Assumes nothing.
use mathlib.Core.Path.{◌≡◌, refl, sym, ap, ◌∙◌}
use mathlib.Core.Bool.{Bool, true, false, cond, false≢true}
use mathlib.Core.List.{List}
use Prim.Native.Nat.{ℕ}
use lib.Dec.{eqb}
use Rattle.rules.specs.Calls.{Answer, Finished, Stopped}
use Rattle.rules.specs.Counts as counting
use Rattle.rules.specs.Batch.{Batched, batch, answer_of}
use Rattle.contracts.specs.Policy.{Policy}
use Rattle.contracts.specs.Writing.{Exactly}
use Rattle.contracts.proofs.Accepting.{is3}
use Rattle.contracts.proofs.Exact.{Exact}
use Rattle.contracts.proofs.Refusing.{exactly}
use Rattle.batch.specs.Outcomes.{BatchOutcome}
use Rattle.batch.specs.declared.Counts.{Counts}
use Rattle.batch.proofs.ByRules.{batch_is, batch_refused}

-- a batch that is run ends or is stopped at a place
run_accepts : {S : Type 0} (b : Batched S) → is3 (answer_of b) ≡ false
run_accepts b = by (eqb b.refusal 0)
  where
    by : (t : Bool) → is3 (cond t (Finished b.done) (Stopped b.refusal b.offset)) ≡ false
    by true = refl
    by false = refl

-- what it answers, of that and its counts
abbrev answer : Answer × counting.Counts → Answer
answer d = d.0

pub batch_refused_exactly : (P : Policy)
    → Exact P
    → (trace : List ℕ) (lent : Counts) (w v : List ℕ) (a : Answer) (n : Counts)
    → BatchOutcome P trace lent w v a n
    → Exactly P w a
batch_refused_exactly P e trace lent w v a n o =
    exactly P e w a
    (λ r. ap answer (batch_refused P trace lent w v a n o r).0)
    (λ s r q.
    let b = batch P.does 0 trace s in
    let is : a ≡ answer_of b = ap answer (batch_is P trace lent w v a n o s r).0 in
    false≢true (sym (run_accepts b) ∙ ap is3 (sym is ∙ q)))

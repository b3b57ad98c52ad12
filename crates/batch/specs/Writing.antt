-- What the rules say of a batch. Assumes nothing.
use Rattle.std.specs.Prelude.{List, ℕ}
use Rattle.rules.specs.Calls.{Answer, Refused}
use Rattle.rules.specs.Counts as counting
use Rattle.rules.specs.Batch.{batch, answer_of}
use Rattle.contracts.specs.Policy.{Policy}
use Rattle.contracts.specs.Writing.{ByRules}
use Rattle.batch.specs.Outcomes.{counts_is}
use Rattle.batch.specs.declared.Counts.{Counts}

module _ (P : Policy) (trace : List ℕ) where
  -- "the operations done, or the refusal" (RULES 7.4), and "this batch's" (RULES 7.5) counts, on the state t; the
  -- state that it leaves
  abbrev pub gives : P.State → Answer × counting.Counts
  gives t = let b = batch P.does 0 trace t in (answer_of b, b.counts)

  abbrev pub after : P.State → P.State
  after t = (batch P.does 0 trace t).state

  -- on the words w, with the counts `lent`, it answers a, and leaves the words v and the counts n
  abbrev pub BatchByRules : Counts → List ℕ → List ℕ → Answer → Counts → Type 0
  BatchByRules lent w v a n =
      ByRules P {X = Answer × counting.Counts} gives after (Refused 3, counts_is lent) w v (a, counts_is n)

-- THE CONTRACT OF A BATCH IN THE RULES' WORDS. Assumes nothing.
use mathlib.Core.Path.{◌≡◌, refl, ap, ◌∙◌}
use mathlib.Core.List.{List}
use mathlib.Core.Option.{some, none}
use Prim.Native.Nat.{ℕ}
use Rattle.rules.specs.Calls.{Answer, Refused}
use Rattle.rules.specs.Counts as counting
use Rattle.rules.specs.Batch.{batch, answer_of}
use Rattle.rules.specs.Public.{BatchDone, batched}
use Rattle.state_check.specs.Check.{Words}
use Rattle.contracts.specs.Policy.{Policy, reads}
use Rattle.contracts.proofs.Exact.{Exact}
use Rattle.contracts.proofs.ByRules.{by_rules}
use Rattle.batch.specs.Outcomes.{counts_is, outcome, BatchOutcome}
use Rattle.batch.specs.Writing.{gives, after, BatchByRules}
use Rattle.batch.specs.declared.Counts.{Counts}

-- its answer and its counts
abbrev given : {S : Type 0} → BatchDone S → Answer × counting.Counts
given d = (d.answer, d.counts)

module _ (P : Policy) (trace : List ℕ) (lent : Counts) (w v : List ℕ) (a : Answer) (n : Counts) where
  -- A BATCH ON A STATE answers, counts and leaves what the rules say
  pub batch_is : BatchOutcome P trace lent w v a n
      → (t : P.State)
      → reads P w ≡ some t
      → (◌≡◌ {A = Answer × counting.Counts} (a, counts_is n) (gives P trace t)) × (reads P v ≡ some (after P trace t))
  unfolding batched
  batch_is o t r =
      let b = batch P.does 0 trace t in
      let d : BatchDone P.State = record { answer = answer_of b; area = some b.state; counts = b.counts } in
      let q : outcome P a v n ≡ d = o.is ∙ rw r refl in
      (ap given q, ap (λ (d : BatchDone P.State). d.area) q)

  -- A BATCH ON NO STATE is refused with 3 and changes nothing
  pub batch_refused : BatchOutcome P trace lent w v a n
      → reads P w ≡ none
      → (◌≡◌ {A = Answer × counting.Counts} (a, counts_is n) (Refused 3, counts_is lent)) × (v ≡ w)
  unfolding batched
  batch_refused o r =
      let d : BatchDone P.State = record { answer = Refused 3; area = none; counts = counts_is lent } in
      let q : outcome P a v n ≡ d = o.is ∙ rw r refl in
      (ap given q, o.refused r)

  pub batch_by_rules : Exact P
      → Words w
      → Words v
      → BatchOutcome P trace lent w v a n
      → BatchByRules P trace lent w v a n
  batch_by_rules e words words_left o =
      by_rules P e (gives P trace) (after P trace) (Refused 3, counts_is lent) w v (a, counts_is n) words words_left
      (batch_is o)
      (batch_refused o)
      o.size
      o.rest

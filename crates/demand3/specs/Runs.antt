-- Public calls one after the other, each by its contract, and what they count. Assumes nothing.
use Rattle.std.specs.Prelude.{List, ℕ, Result, Ok, Err}
use Rattle.refusals.specs.declared.Refusal.{Refusal}
use Rattle.rules.specs.Calls.{Call, Question, Answer}
use Rattle.rules.specs.Counts.{Counts, no_counts, counted, plus}
use Rattle.contracts.specs.Policy.{Policy}
use Rattle.contracts.specs.Outer.{Outcome, Told, Making}
use Rattle.batch.specs.Outcomes.{counts_is, ran_is, BatchOutcome}
use Rattle.batch.specs.declared.Counts as declared
use Rattle.batch.specs.declared.Stopped.{Stopped}
use Rattle.batch.specs.declared.Stopped.TheVariants.{Trace, State}
use Rattle.listing.specs.Outcome.{ListingOutcome}
use Rattle.listing.specs.declared.Record.{Record}

-- what a batch adds to the sum, by its answer and the counts m that it leaves: m, which are its own, counted from 0
-- whatever was lent and up to a refusal 4 or 5; after a refusal 3, where m is what was lent, nothing
abbrev pub ran_counts : Result ℕ Stopped → declared.Counts → Counts
ran_counts (Ok n) m = counts_is m
ran_counts (Err (Trace r o)) m = counts_is m
ran_counts (Err State) m = no_counts

-- any public calls, one after the other: from the words w to the words v, with the sum n of what they counted
pub data Run (P : Policy) : List ℕ → Counts → List ℕ → Type 0 where
  none : {w : List ℕ} → Run P w no_counts w
  -- `get`, `insert`, `remove` and `clear`
  call : {k : Call} {a : Answer} {n : Counts} {w u v : List ℕ}
      → Outcome P k w u a
      → Run P u n v
      → Run P w (plus (counted a) n) v
  -- `tally` and `batch`
  batch : {trace : List ℕ} {lent m : declared.Counts} {n : Counts} {w u v : List ℕ}
      → (a : Result ℕ Stopped)
      → BatchOutcome P trace lent w u (ran_is a) m
      → Run P u n v
      → Run P w (plus (ran_counts a m) n) v
  -- `new` counts nothing
  new : {c : ℕ} {a : Answer} {n : Counts} {w u v : List ℕ} → Making P c w u a → Run P u n v → Run P w n v
  -- a question and a listing leave the words as they are and count nothing
  ask : {q : Question} {a : Answer} {n : Counts} {w v : List ℕ} → Told P q w a → Run P w n v → Run P w n v
  list : {lent left : List Record} {a : Result ℕ Refusal} {n : Counts} {w v : List ℕ}
      → ListingOutcome P w lent left a
      → Run P w n v
      → Run P w n v

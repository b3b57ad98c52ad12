-- What a batch answers, counts and leaves (RULES 7). Assumes nothing.
use Rattle.std.specs.Prelude.{◌≡◌, List, ℕ, ◌^◌, ◌<◌, length, drop, Result, Ok, Err}
use Rattle.std.proofs.Math.Option.{none}
use Rattle.refusals.specs.Refusals.{number_of}
use Rattle.rules.specs.Calls as rules
use Rattle.rules.specs.Calls.{Answer}
use Rattle.rules.specs.Counts as counting
use Rattle.rules.specs.Counts.{counted, plus}
use Rattle.rules.specs.Batch.{batch, answer_of}
use Rattle.rules.specs.Public.{words_needed, batched, BatchDone}
use Rattle.area.specs.Area.{capacity_of, end_at}
use Rattle.answers.specs.Answers.{reply_is}
use Rattle.answers.specs.declared.Reply.{Reply}
use Rattle.contracts.specs.Policy.{Policy, state_of, reads}
use Rattle.contracts.specs.Inner.{Good}
use Rattle.batch.specs.declared.Counts.{Counts}
use Rattle.batch.specs.declared.Stopped.{Stopped}
use Rattle.batch.specs.declared.Stopped.TheVariants.{Trace, State}
use Rattle.batch.specs.declared.Tally.{Tally}

-- ---- the rules' counts, and their number and values for each case of the answer
abbrev pub counts_is : Counts → counting.Counts
counts_is n = counting.counts n.gets n.get_hits n.updates n.new_pages n.evictions n.steps n.removals

abbrev pub ran_is : Result ℕ Stopped → Answer
ran_is (Ok n) = rules.Finished n
ran_is (Err (Trace r o)) = rules.Stopped (number_of r) o
ran_is (Err State) = rules.Refused 3

-- ---- one answer more: each count stays a u64
pub record Small (n : counting.Counts) : Type 0 where
  pub gets : n.gets < 2 ^ 64
  pub get_hits : n.get_hits < 2 ^ 64
  pub updates : n.updates < 2 ^ 64
  pub new_pages : n.new_pages < 2 ^ 64
  pub evictions : n.evictions < 2 ^ 64
  pub steps : n.steps < 2 ^ 64
  pub removals : n.removals < 2 ^ 64

abbrev pub Fits : Counts → Reply → Type 0
Fits n r = Small (plus (counts_is n) (counted (reply_is r)))

module _ (P : Policy) where
  -- THE CONTRACT of the inner batch of a trace on the area w, of capacity c: answer, counts and state are the rules', the state is well formed again, and nothing
  -- past the area's need is another than it was
  pub record Finishes (c : ℕ) (trace w v : List ℕ) (r : Tally) : Type 0 where
    pub answer : ran_is r.ran ≡ answer_of (batch P.does 0 trace (state_of P c w))
    pub counts : counts_is r.counts ≡ (batch P.does 0 trace (state_of P c w)).counts
    pub state : state_of P c v ≡ (batch P.does 0 trace (state_of P c w)).state
    pub good : Good P c v
    pub size : length v ≡ length w
    pub rest : drop (end_at c) v ≡ drop (end_at c) w

  -- what a batch answers, the area that it leaves and its counts, as the rules have them
  abbrev pub outcome : Answer → List ℕ → Counts → BatchDone P.State
  outcome a v n = record { answer = a; area = reads P v; counts = counts_is n }

  -- THE CONTRACT of a public batch of a trace on any words w, with the counts `lent`: it answers a, leaves v and the
  -- counts n. By the rules for what w reads as, a refusal 3 and no state included; words past the need of the cache are
  -- as they were, and after a refusal 3 all are, and the counts.
  pub record BatchOutcome (trace : List ℕ) (lent : Counts) (w v : List ℕ) (a : Answer) (n : Counts) : Type 0 where
    pub is : outcome a v n ≡ batched P.does trace (counts_is lent) (reads P w)
    pub size : length v ≡ length w
    pub rest : drop (words_needed (capacity_of w)) v ≡ drop (words_needed (capacity_of w)) w
    pub refused : reads P w ≡ none → v ≡ w

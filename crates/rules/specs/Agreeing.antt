-- WHEN A BATCH AGREES with the calls of its operations and with the trace check. Assumes nothing.
use Rattle.std.specs.Prelude.{◌≡◌, List, map, ℕ, length}
use Rattle.trace.specs.Reading.{Reading, check_of, stop_number}
use Rattle.rules.specs.Calls.{Call, Done, run}
use Rattle.rules.specs.Counts.{tally}
use Rattle.rules.specs.Batch.{call_of, Batched}

module _ {S : Type 0} where
  -- a batch b on the state s does what the calls do, one after the other, of the operations that the trace's reading r
  -- has, and stops where that stops
  pub record Agrees (does : Call → S → Done S) (s : S) (r : Reading) (b : Batched S) : Type 0 where
    pub done : b.done ≡ length r.operations
    pub refusal : b.refusal ≡ stop_number r.refusal
    pub offset : b.offset ≡ r.offset
    pub answers : b.answers ≡ (run does (map call_of r.operations) s).answers
    pub state : b.state ≡ (run does (map call_of r.operations) s).state
    pub counts : b.counts ≡ tally (run does (map call_of r.operations) s).answers

  -- "For any bytes: the trace check's answer and the run of the trace agree": the same operations done, refusal and
  -- offset
  pub record AsChecked (bs : List ℕ) (b : Batched S) : Type 0 where
    pub operations : b.done ≡ (check_of bs).operations
    pub refusal : b.refusal ≡ stop_number (check_of bs).refusal
    pub offset : b.offset ≡ (check_of bs).offset

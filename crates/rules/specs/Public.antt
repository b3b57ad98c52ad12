-- The public calls on an area (RULES 3). Assumes nothing.
--
-- An area is handed in as what it reads as: a well-formed state of the policy that is called, or nothing.
use Rattle.std.specs.Prelude.{ℕ, ◌+◌, ◌*◌, List, ◌++◌, cond, ltb, length, drop}
use Rattle.std.proofs.Math.Option.{Option, some, none}
use Rattle.rules.specs.State.{max_capacity}
use Rattle.rules.specs.Calls.{Call, Ask, Listing, Record, Answer, Made, Refused, Done, done}
use Rattle.rules.specs.Counts.{Counts}
use Rattle.rules.specs.Batch.{run_from, batch, answer_of}

-- "`new` needs 24c + 64 words" (RULES 2.2)
abbrev pub words_needed : ℕ → ℕ
words_needed c = 24 * c + 64

module _ {S : Type 0} where
  -- "1 CAPACITY: `new` with c > 1,024" (RULES 3.1), "2 AREA: `new` with fewer than 24c + 64 words" (RULES 3.2), 1
  -- before 2; both leave the area unchanged
  unfoldable pub made : (ℕ → S) → ℕ → ℕ → Option S → Done (Option S)
  made new c words area =
      cond (ltb max_capacity c) (done (Refused 1) area)
      (cond (ltb words (words_needed c)) (done (Refused 2) area)
      (done Made (some (new c))))

  -- "3 STATE: any other call on an area not well formed for that policy" (RULES 3.3), before all else; all unchanged
  unfoldable pub called : (Call → S → Done S) → Call → Option S → Done (Option S)
  called does k none = done (Refused 3) none
  called does k (some s) = let d = does k s in done d.answer (some d.state)

-- ---- a listing into lent records, with the area and the records that it leaves
pub record ListingDone (S : Type 0) : Type 0 where
  pub answer : Answer
  pub area : Option S
  pub records : List Record

-- "records past them keep what they held" (RULES 7.1); where there are too few, all do
abbrev pub written : List Record → List Record → List Record
written l lent = cond (ltb (length lent) (length l)) lent (l ++ drop (length l) lent)

-- ---- a batch with lent counts, with the area and the counts that it leaves
pub record BatchDone (S : Type 0) : Type 0 where
  pub answer : Answer
  pub area : Option S
  pub counts : Counts

module _ {S : Type 0} where
  -- 3 leaves the records as they were, and so does 6
  unfoldable pub listed : (Call → S → Done S) → (S → List Record) → List Record → Option S → ListingDone S
  listed does listing lent none = record { answer = Refused 3; area = none; records = lent }
  listed does listing lent (some s) =
      let d = does (Ask (Listing (length lent))) s in
      record { answer = d.answer; area = some d.state; records = written (listing s) lent }

  -- 3 leaves the counts as they were
  unfoldable pub batched : (Call → S → Done S) → List ℕ → Counts → Option S → BatchDone S
  unfolding run_from
  batched does bs lent none = record { answer = Refused 3; area = none; counts = lent }
  batched does bs lent (some s) =
      let b = batch does 0 bs s in
      record { answer = answer_of b; area = some b.state; counts = b.counts }

-- Answers as numbers, for C. Assumes nothing.
use Rattle.std.specs.Prelude.{◌≡◌, Bool, cond, List, ℕ, ◌-◌, eqb, ltb, length, ⊤, Result, Ok, Err}
use Rattle.rules.specs.Calls as rules
use Rattle.rules.specs.Calls.{Answer}
use Rattle.refusals.specs.declared.Refusal.{Refusal}
use Rattle.refusals.specs.Refusals.{number_of}
use Rattle.empty_cache.specs.Fresh.{New, answer_of}

-- whether the words pass
abbrev pub passed : Bool → ℕ
passed b = cond b 1 0

-- the number of what `new` answers: 0 for made, else that of the refusal
abbrev pub made_at : Result ⊤ Refusal → ℕ
made_at (Ok _) = 0
made_at (Err r) = number_of r

-- THE CONTRACT of `new` for C: it answers the number of the answer, and leaves what `new` leaves
pub record NewAt (kind c : ℕ) (w v : List ℕ) (n : ℕ) : Type 0 where
  pub number : n ≡ made_at (answer_of c (length w))
  pub new : New kind c w v (answer_of c (length w))

-- what a get answers, by its number: a frame, 2^32 for a miss, or 2^32 and the number of a refusal; no answer has two numbers
abbrev pub got_at : ℕ → Answer
got_at n = cond (ltb n 4294967296) (rules.Hit n) (cond (eqb n 4294967296) rules.Miss (rules.Refused (n - 4294967296)))

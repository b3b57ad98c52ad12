-- WORDS AND STATES: when words are a writing of a well-formed state, and what the rules say of a call on them.
-- Assumes nothing.
--
-- The names from a state to the words that an inner call may take. Each says what it adds to those above it.
--
--   Sound        rules/specs/State     of the four lists of a state: "all pages, resident and ghost, are distinct;
--                                      residents <= c; each ghost list <= c; 0 <= target <= c"
--   Obeys        rules/specs/Arc, Car  Sound, and the policy's own rule: ARC's two sums of lengths, CAR's slots
--   Ranged       rules/specs/State     pages are u64, frames u32, c is at most 1,024
--   WellFormed   rules/specs/Arc, Car  Obeys and Ranged: the rules' "well formed", of a state
--   Holds        area_state/specs/Parts     of words, cut into parts: the rings, the ghost lists and the lookup are as they
--                                      have to be, and the lookup holds exactly the places of the lists
--   Stored       area/specs/Stored     Holds, of an area's parts; its header has the capacity c, and it is long enough
--   Writes       area/specs/Stored     Stored; the header has the kind, and the words read as the state s
--   WritingOf    here                  Writes, as the policy sees s, and WellFormed: the rules' "well formed", of words
--   Good         Inner                 the same, where the caller has the capacity: what an inner call asks
--
-- What links them:
--
--   Every call keeps Obeys; and WellFormed, where its page is a u64 and its frame a u32.
--       rules/proofs/ClosureArc, ClosureCar (`does_obeys`), Closure (`arc_call`, `car_call`)
--   What parts that Hold read as obeys CAR's rules. So it is Sound, and ARC's rule is left to be tested: the two sums.
--       area_state/proofs/Reading (`state_obeys`)
--   The state test passes exactly where words of 64 bits write a well-formed state.
--       state_check/proofs/State (`arc_sound`, `arc_complete`, `car_sound`, `car_complete`)
--   Words write one state at most, and not one of each kind.
--       state_check/proofs/State (`unique`, `kinds_apart`)
--   `reads` gives a state exactly where the words are a WritingOf it, and nothing exactly where they are of none.
--       contracts/proofs/Reading (`reads_sound`, `reads_complete`, `none_sound`, `none_complete`)
--   Good and WritingOf say the same of an area.
--       contracts/proofs/Reading (`good_writing`, `writing_good`)
--
-- So an area is "not well formed for that policy" (RULES 3.3), for which the rules give refusal 3, exactly where there
-- is NoWriting. The contracts of the public calls (Outer, and those of batch and listing) speak through `reads`
-- (Policy), which is the check's own test. ByRules says them without it, and follows from them: contracts/proofs/ByRules.
use Rattle.std.specs.Prelude.{◌≡◌, List, ℕ, ◌+◌, ◌*◌, ◌<◌, ◌≤◌, length, drop}
use Rattle.rules.specs.Calls.{Call, Answer, Made, Refused}
use Rattle.rules.specs.Car.{Car}
use Rattle.rules.specs.Public.{words_needed}
use Rattle.area.specs.Area.{capacity_of}
use Rattle.area.specs.Stored.{Writes}
use Rattle.state_check.specs.Check.{Words}
use Rattle.contracts.specs.Policy.{Policy}

module _ (P : Policy) where
  -- the words w are a writing of the policy's state t, and t is well formed
  pub record WritingOf (w : List ℕ) (t : P.State) : Type 0 where
    pub state : Car
    pub writes : Writes P.kind w state
    pub view : P.view state ≡ t
    pub well : P.WellFormed t

  -- they are a writing of no well-formed state
  abbrev pub NoWriting : List ℕ → Type 0
  NoWriting w = (t : P.State) → WritingOf w t → ⊥

  -- "3 STATE": the answer a on the words w is refusal 3 exactly where they are a writing of no well-formed state
  pub record Exactly (w : List ℕ) (a : Answer) : Type 0 where
    pub only : a ≡ Refused 3 → NoWriting w
    pub always : Words w → NoWriting w → a ≡ Refused 3

  -- WHAT THE RULES SAY OF A CALL, any but `new`. On the words w it gives x and leaves the words v; x is its answer, and
  -- with it the counts or the records that it was lent. On a state t the rules give `gives t` and leave the state
  -- `after t`. `kept` is refusal 3, with what was lent as it was.
  pub record ByRules {X : Type 0} (gives : P.State → X) (after : P.State → P.State) (kept : X)
      (w v : List ℕ) (x : X) : Type 0 where
    -- on a writing of a well-formed state: what the rules give, and a writing of the rules' state, well formed again
    pub given : (t : P.State) → WritingOf w t → x ≡ gives t
    pub left : (t : P.State) → WritingOf w t → WritingOf v (after t)
    -- "3 STATE: any other call on an area not well formed for that policy .. all unchanged" (RULES 3.3)
    pub refused : NoWriting w → x ≡ kept
    pub unchanged : NoWriting w → v ≡ w
    -- "Words past those are never written" (RULES 2.2)
    pub size : length v ≡ length w
    pub rest : drop (words_needed (capacity_of w)) v ≡ drop (words_needed (capacity_of w)) w

  -- a call k that answers a; a question leaves v = w
  abbrev pub CallByRules : Call → List ℕ → List ℕ → Answer → Type 0
  CallByRules k w v a = ByRules (λ t. (P.does k t).answer) (λ t. (P.does k t).state) (Refused 3) w v a

  -- WHAT THE RULES SAY OF `NEW`: "1 CAPACITY: `new` with c > 1,024" (RULES 3.1), "2 AREA: `new` with fewer than 24c +
  -- 64 words" (RULES 3.2), 1 before 2, "area unchanged"; and else an empty cache is made
  pub record NewExactly (c : ℕ) (w v : List ℕ) (a : Answer) : Type 0 where
    pub too_large : 1024 < c → a ≡ Refused 1
    pub too_short : c ≤ 1024 → length w < 24 * c + 64 → a ≡ Refused 2
    pub makes : c ≤ 1024 → 24 * c + 64 ≤ length w → (a ≡ Made) × WritingOf v (P.new c)
    pub unchanged : (a ≡ Made → ⊥) → v ≡ w
    pub size : length v ≡ length w
    pub rest : drop (words_needed c) v ≡ drop (words_needed c) w

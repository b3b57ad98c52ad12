-- What the first bytes of the input say: the kind byte and c. That the program's definition says the same is a law (proofs/Headers). Assumes nothing.
use Rattle.std.specs.Prelude.{◌≡◌, cond, List, [], ◌∷◌, ℕ, ◌+◌, ◌≤◌, ltb, eqb, length, drop, Result, Ok, Err}
use Rattle.refusals.specs.declared.Refusal.{Refusal}
use Rattle.refusals.specs.declared.Refusal.TheVariants as refusals
use Rattle.numbers.specs.Reading.{Number, frame_of}
use Rattle.trace.specs.Reading.{fault_refusal, fault_place}
use Rattle.rules.specs.Program.{max_replayed}
use Rattle.rules.specs.Public.{words_needed}
use Rattle.rules.specs.declared.Kind.{Kind}
use Rattle.rules.specs.declared.Kind.TheVariants.{Arc, Car}
use Rattle.contracts.specs.Policy.{policy_of, state_of}
use Rattle.contracts.specs.Inner.{Good}
use Rattle.replaying.specs.declared.Header.{Header}
use Rattle.replaying.specs.declared.Stop.{Stop}
use Rattle.replaying.specs.Pending.{area_words}

-- a refusal at an offset
abbrev pub stop : Refusal → ℕ → Stop
stop r o = record { refusal = r; offset = o }

-- "1 CAPACITY .. (program: c > 256)" (RULES 3.1), "for a bad c, 1" (RULES 9.2)
abbrev pub sized : Kind → Number → Result Header Stop
sized k (Ok n) = cond (ltb max_replayed n.value) (Err (stop refusals.Capacity 1)) (Ok (record { kind = k; c = n.value; used = 1 + n.used }))
sized k (Err f) = Err (stop (fault_refusal f) (1 + fault_place 0 f))

-- "a kind byte (1 ARC, 2 CAR)" (RULES 9.1), "4 OPERATION .. program: kind byte not 1 or 2" (RULES 3.4), "Empty input:
-- `stop 5 at 0`." (RULES 9.3)
unfoldable pub header_of : List ℕ → Result Header Stop
header_of [] = Err (stop refusals.Number 0)
header_of (b ∷ bs) = cond (eqb b 1) (sized Arc (frame_of bs)) (cond (eqb b 2) (sized Car (frame_of bs)) (Err (stop refusals.Operation 0)))

-- a capacity of the program, and an area for it
pub record Sizes (c : ℕ) (w : List ℕ) : Type 0 where
  pub small : c ≤ max_replayed
  pub words : area_words ≤ length w

-- an empty cache of a kind and a capacity; the words past those that it needs are as they were
pub record Fresh (k : Kind) (c : ℕ) (w v : List ℕ) : Type 0 where
  pub good : Good (policy_of k) c v
  pub new : state_of (policy_of k) c v ≡ (policy_of k).new c
  pub rest : drop (words_needed c) v ≡ drop (words_needed c) w

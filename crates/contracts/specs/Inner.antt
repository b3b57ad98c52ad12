-- What the inner calls ask and leave. Assumes nothing.
use Rattle.std.specs.Prelude.{◌≡◌, List, ℕ, length, drop}
use Rattle.rules.specs.Calls.{Call, Question, Ask, Answer}
use Rattle.area.specs.Area.{kind_of, end_at}
use Rattle.area.specs.Stored.{Stored}
use Rattle.contracts.specs.Policy.{Policy, state_of}

module _ (P : Policy) where
  -- the area is a writing of a well-formed state of the policy, of capacity c
  pub record Good (c : ℕ) (w : List ℕ) : Type 0 where
    pub stored : Stored c w
    pub kind : kind_of w ≡ P.kind
    pub well : P.WellFormed (state_of P c w)

  -- THE CONTRACT of an inner call k on the area w: it answers a and leaves the area v. Answer and state are the rules', the state is well formed again,
  -- and nothing past the area's need is another than it was.
  pub record Did (k : Call) (c : ℕ) (w v : List ℕ) (a : Answer) : Type 0 where
    pub good : Good c v
    pub state : state_of P c v ≡ (P.does k (state_of P c w)).state
    pub answer : a ≡ (P.does k (state_of P c w)).answer
    pub size : length v ≡ length w
    pub rest : drop (end_at c) v ≡ drop (end_at c) w

  -- the contract of an inner call that only reads
  pub record Says (q : Question) (c : ℕ) (w : List ℕ) (a : Answer) : Type 0 where
    pub answer : a ≡ (P.does (Ask q) (state_of P c w)).answer

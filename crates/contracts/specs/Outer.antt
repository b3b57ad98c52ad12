-- What the public calls answer and leave, for any words (RULES 3). Assumes nothing.
use Rattle.std.specs.Prelude.{◌≡◌, List, ℕ, length, drop}
use Rattle.std.proofs.Math.Option.{none}
use Rattle.rules.specs.Calls as rules
use Rattle.rules.specs.Calls.{Call, Question, Ask, Answer, done}
use Rattle.rules.specs.Public.{words_needed, made, called}
use Rattle.area.specs.Area.{capacity_of}
use Rattle.contracts.specs.Policy.{Policy, reads}

module _ (P : Policy) where
  -- THE CONTRACT of a public call k on any words w: it answers a and leaves v. By the rules for what w reads as, a
  -- refusal 3 and no state included; words past the need of the cache are as they were, and after a refusal 3 all are.
  pub record Outcome (k : Call) (w v : List ℕ) (a : Answer) : Type 0 where
    pub is : done a (reads P v) ≡ called P.does k (reads P w)
    pub size : length v ≡ length w
    pub rest : drop (words_needed (capacity_of w)) v ≡ drop (words_needed (capacity_of w)) w
    pub refused : reads P w ≡ none → v ≡ w

  -- THE CONTRACT of a public call that only reads
  pub record Told (q : Question) (w : List ℕ) (a : Answer) : Type 0 where
    pub answer : a ≡ (called P.does (Ask q) (reads P w)).answer

  -- THE CONTRACT of `new`, with capacity c, on any words w
  pub record Making (c : ℕ) (w v : List ℕ) (a : Answer) : Type 0 where
    pub is : done a (reads P v) ≡ made P.new c (length w) (reads P w)
    pub size : length v ≡ length w
    pub rest : drop (words_needed c) v ≡ drop (words_needed c) w
    pub refused : (a ≡ rules.Made → ⊥) → v ≡ w

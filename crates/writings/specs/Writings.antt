-- That a state has a writing: words, exactly as many as `new` needs, that are a writing of it ("Every such state has a
-- writing", RULES 2.10). Assumes nothing.
use Rattle.std.specs.Prelude.{◌≡◌, List, ℕ, ◌^◌, ◌<◌, length}
use Rattle.std.proofs.Math.Option.{some}
use Rattle.rules.specs.Lists.{Each}
use Rattle.rules.specs.Public.{words_needed}
use Rattle.rules.specs.Car.{Car}
use Rattle.area.specs.Stored.{Writes}
use Rattle.contracts.specs.Policy.{Policy, reads}

-- a word of 64 bits; n such words
abbrev pub IsWord : ℕ → Type 0
IsWord x = x < 2 ^ 64

pub record Words (n : ℕ) (w : List ℕ) : Type 0 where
  pub size : length w ≡ n
  pub below : Each IsWord w

-- the state s has a writing as a cache of kind k (1 ARC, 2 CAR)
pub record Written (k : ℕ) (s : Car) : Type 0 where
  pub area : List ℕ
  pub words : Words (words_needed s.lists.c) area
  pub writes : Writes k area s

-- THE CLAIM, of a state t of the policy P: a state that P sees as t has a writing of P's kind, and that reads as t
pub record HasWriting (P : Policy) (t : P.State) : Type 0 where
  pub state : Car
  pub view : P.view state ≡ t
  pub written : Written P.kind state
  pub read : reads P written.area ≡ some t

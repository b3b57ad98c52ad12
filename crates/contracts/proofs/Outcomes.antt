-- What a contract says of an area that reads as a state, and of one that reads as none. In order: a call; a question,
-- which leaves the area; `new`. Assumes nothing.
use mathlib.Core.Path.{◌≡◌, refl, ap, ◌∙◌}
use mathlib.Core.Bool.{Bool, true, false, cond}
use mathlib.Core.List.{List}
use mathlib.Core.Logic.{◌⊎◌, inl, inr}
use mathlib.Core.Option.{Option, some, none}
use Prim.Native.Nat.{ℕ}
use lib.Dec.{ltb}
use lib.ListN.{length}
use Rattle.rules.specs.Calls.{Call, Question, Ask, Answer, Made, Refused, done}
use Rattle.rules.specs.State.{max_capacity}
use Rattle.rules.specs.Public.{words_needed, made, called}
use Rattle.contracts.specs.Policy.{Policy, reads}
use Rattle.contracts.specs.Outer.{Outcome, Told, Making}
use Rattle.contracts.proofs.Exact.{Exact}

module _ (P : Policy) where
  -- A CALL ON A STATE answers and leaves what the rules say
  pub outcome_is : (k : Call) (w v : List ℕ) (a : Answer) (s : P.State) → Outcome P k w v a → reads P w ≡ some s → (a ≡ (P.does k s).answer) × (reads P v ≡ some (P.does k s).state)
  unfolding called
  outcome_is k w v a s o r =
      let q : done a (reads P v) ≡ done (P.does k s).answer (some (P.does k s).state) = o.is ∙ rw r refl in
      (ap (λ d. d.answer) q, ap (λ d. d.state) q)

  -- A CALL ON NO STATE is refused with 3 and changes nothing
  pub outcome_refused : (k : Call) (w v : List ℕ) (a : Answer)
      → Outcome P k w v a
      → reads P w ≡ none
      → (a ≡ Refused 3) × (v ≡ w)
  unfolding called
  outcome_refused k w v a o r =
      let q : done a (reads P v) ≡ done (Refused 3) none = o.is ∙ rw r refl in
      (ap (λ d. d.answer) q, o.refused r)

  -- A QUESTION is a call that leaves the area as it is
  pub told_outcome : Exact P → (q : Question) (w : List ℕ) (a : Answer) → Told P q w a → Outcome P (Ask q) w w a
  unfolding called
  told_outcome e q w a t = record { is = by (reads P w) t.answer; size = refl; rest = refl; refused = λ n. refl }
    where
      by : (o : Option P.State) → a ≡ (called P.does (Ask q) o).answer → done a o ≡ called P.does (Ask q) o
      by none x = rw x refl
      by (some s) x = rw (x, e.asks q s) refl

  -- `NEW` makes an empty state, or leaves the one that is there
  pub making_is : (c : ℕ) (w v : List ℕ) (a : Answer) → Making P c w v a → (reads P v ≡ some (P.new c)) ⊎ (reads P v ≡ reads P w)
  unfolding made
  making_is c w v a m = by (ltb max_capacity c) (ltb (length w) (words_needed c)) m.is
    where
      by : (x y : Bool) → done a (reads P v) ≡ cond x (done (Refused 1) (reads P w)) (cond y (done (Refused 2) (reads P w)) (done Made (some (P.new c))))
          → (reads P v ≡ some (P.new c)) ⊎ (reads P v ≡ reads P w)
      by true y q = inr (ap (λ d. d.state) q)
      by false true q = inr (ap (λ d. d.state) q)
      by false false q = inl (ap (λ d. d.state) q)

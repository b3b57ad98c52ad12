-- What the store leaves, and stages, one after another, over the policy. Assumes nothing.
use mathlib.Core.Path.{◌≡◌, refl, ap, ◌∙◌}
use mathlib.Core.List.{List}
use Prim.Native.Nat.{ℕ}
use Rattle.rules.specs.Calls.{Done}
use Rattle.rules.specs.Car.{Car}
use Rattle.area.specs.Stored.{Stored, state_in, Left}
use Rattle.answers.specs.declared.Inserted.{Inserted}
use Rattle.contracts.specs.Policy.{Policy, state_of}
use Rattle.stages.specs.Stages.{Stage, Gives}

-- the store does f after s was left
pub then_left : (c : ℕ) (w v u : List ℕ) (s : Car) (f : Car → Car) → Left c w v s → Left c v u (f (state_in c v)) → Left c w u (f s)
then_left c w v u s f l d = record { stored = d.stored; reads = d.reads ∙ ap f l.reads; kind = d.kind ∙ l.kind; size = d.size ∙ l.size; rest = d.rest ∙ l.rest }

module _ (P : Policy) (c : ℕ) where
  -- what the store leaves is a stage, in the policy's view
  pub staged : (w v : List ℕ) (s : Car) (t : P.State) → Left c w v s → P.view s ≡ t → Stage P c w v t
  staged w v s t l q = record { stored = l.stored; reads = ap P.view l.reads ∙ q; kind = l.kind; size = l.size; rest = l.rest }

  -- nothing is done
  pub stays : (w : List ℕ) (t : P.State) → Stored c w → state_of P c w ≡ t → Stage P c w w t
  stays w t s q = record { stored = s; reads = q; kind = refl; size = refl; rest = refl }

  pub as_stage : (w v : List ℕ) (s t : P.State) → Stage P c w v s → s ≡ t → Stage P c w v t
  as_stage w v s t l q = record { stored = l.stored; reads = l.reads ∙ q; kind = l.kind; size = l.size; rest = l.rest }

  pub then_staged : (w v u : List ℕ) (s t : P.State) → Stage P c w v s → Stage P c v u t → Stage P c w u t
  then_staged w v u s t l m = record { stored = m.stored; reads = m.reads; kind = m.kind ∙ l.kind; size = m.size ∙ l.size; rest = m.rest ∙ l.rest }

  -- an answer after a stage, by what answers each state
  pub then_gives : (w v u : List ℕ) (s : P.State) (r : Inserted) (d : P.State → Done P.State) → Stage P c w v s → Gives P (d (state_of P c v)) c v u r → Gives P (d s) c w u r
  then_gives w v u s r d l m =
      record {
        left = then_staged w v u s (d s).state l (as_stage v u (d (state_of P c v)).state (d s).state m.left (ap (λ (t : P.State). (d t).state) l.reads));
        answer = m.answer ∙ ap (λ (t : P.State). (d t).answer) l.reads;
      }

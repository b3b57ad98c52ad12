-- What a step of a replacement does, and all of them. Assumes nothing.
use Rattle.std.specs.Prelude.{◌≡◌, Bool, List, [], ◌∷◌, ℕ, ◌+◌, Option, Some, None}
use Rattle.rules.specs.State.{residents}
use Rattle.rules.specs.declared.Side.{Side}
use Rattle.rules.specs.Calls.{replaced}
use Rattle.rules.specs.Car.{referenced, step_then, replace}
use Rattle.area_state.specs.States.{evicted_at}
use Rattle.area.specs.Stored.{state_in, Left}
use Rattle.store.specs.Store.{HasSlot}
use Rattle.stages.specs.Stages.{out_of}

-- a step that puts nobody out: a replacement is that step, and then the replacement of what it leaves; one mark is cleared
pub record Passes (c : ℕ) (w v : List ℕ) (hit : Bool) : Type 0 where
  pub side : Side
  pub left : Left c w v (state_in c v)
  pub is : replace hit (state_in c w) ≡ step_then side (replace hit (state_in c v))
  pub some : residents (state_in c v).lists ≡ residents (state_in c w).lists
  pub marks : referenced (state_in c w).lists ≡ referenced (state_in c v).lists + 1

-- a step that meets the victim, in slot e of the list of side i: the replacement is to put it out. Nothing is changed
pub record Meeting (c : ℕ) (w v : List ℕ) (hit : Bool) (i : Side) (e : ℕ) : Type 0 where
  pub same : v ≡ w
  pub slot : HasSlot c w i e
  pub is : replace hit (state_in c w) ≡ replaced (out_of i e (state_in c w)) (i ∷ []) (evicted_at i e (state_in c w))

-- what one step does: it passes a page over, or meets the victim
abbrev pub StepIs : ℕ → List ℕ → List ℕ → Bool → Option (Side × ℕ) → Type 0
StepIs c w v hit None = Passes c w v hit
StepIs c w v hit (Some (i, e)) = Meeting c w v hit i e

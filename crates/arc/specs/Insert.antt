-- What the stages of an insert do, in the words of the rules. Assumes nothing.
use Rattle.std.specs.Prelude.{Bool, List, ℕ}
use Rattle.rules.specs.State.{with_frame, full}
use Rattle.rules.specs.Calls.{Place, ghost, nowhere, Old, Done, done, Replaced, replace_if}
use Rattle.rules.specs.Stages.{ghost_hit}
use Rattle.rules.specs.Arc.{Arc, replace, admitted, trimmed, to_front}
use Rattle.rules.specs.Car.{Car}
use Rattle.area_state.specs.States.{resident_at, fronted_at, entered_at_front}
use Rattle.area.specs.Stored.{state_in, plainly, arc_of}
use Rattle.contracts.specs.Policy.{arc_policy}
use Rattle.stages.specs.Stages.{Stages}

-- the state of ARC that an area of capacity c is read as
abbrev pub arc_in : ℕ → List ℕ → Arc
arc_in c w = arc_of (state_in c w)

-- what comes before "replace if full", by where the page is
abbrev pub ready : Place → ℕ → Arc → Arc
ready (ghost i) x s = ghost_hit i x s
ready nowhere x s = trimmed s

-- "replace if full"
abbrev pub made : Bool → Arc → Replaced Arc
made hit s = replace_if (full s) (replace hit) s

-- an update of the resident of slot e: the new frame, at the front of T2; the answer is the old frame
abbrev pub updated : ℕ → ℕ → Car → Done Arc
updated e f s = done (Old (resident_at e s).frame) (to_front (with_frame f (plainly (resident_at e s))) (arc_of s))

-- ARC in stages
abbrev pub stages : Stages arc_policy
stages = record { touched = fronted_at; put = entered_at_front; ready = ready; made = made; replace = replace; admitted = admitted; updated = updated }

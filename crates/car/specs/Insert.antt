-- What the stages of an insert do, in the words of the rules. Assumes nothing.
use Rattle.std.specs.Prelude.{Bool, true, ℕ}
use Rattle.rules.specs.State.{with_frame, full}
use Rattle.rules.specs.Calls.{Place, ghost, nowhere, Old, Done, done, Replaced, replace_if}
use Rattle.rules.specs.Stages.{ghost_hit}
use Rattle.rules.specs.Car.{Car, car, with_bit, touched, replace, admitted}
use Rattle.area_state.specs.States.{resident_at, marked_at, entered_at_end}
use Rattle.contracts.specs.Policy.{car_policy}
use Rattle.stages.specs.Stages.{Stages}

-- what comes before "replace if full", by where the page is
abbrev pub ready : Place → ℕ → Car → Car
ready (ghost i) x s = car (ghost_hit i x s.lists) s.free
ready nowhere x s = s

-- "replace if full"
abbrev pub made : Bool → Car → Replaced Car
made hit s = replace_if (full s.lists) (replace hit) s

-- an update of the resident of slot e: the new frame and the bit; the answer is the old frame
abbrev pub updated : ℕ → ℕ → Car → Done Car
updated e f s = done (Old (resident_at e s).frame) (touched (resident_at e s).page (λ r. with_bit true (with_frame f r)) s)

-- CAR in stages
abbrev pub stages : Stages car_policy
stages = record { touched = λ e. marked_at e true; put = entered_at_end; ready = ready; made = made; replace = replace; admitted = admitted; updated = updated }

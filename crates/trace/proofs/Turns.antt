-- One turn of a loop over a trace: what a cursor's step says of the reading from there on. The loops of the layers above need these laws as the check
-- does. Assumes nothing.
use mathlib.Core.Path.{◌≡◌, refl, sym, subst, ap, ◌∙◌}
use mathlib.Core.List.{List, [], ◌∷◌}
use Prim.Native.Nat.{ℕ, suc, ◌+◌, ◌-◌, ◌<◌, ◌≤◌}
use native.Mathlib.Omega.{arith}
use lib.ListN.{length, drop, length-drop}
use lib.Seq.{drop-drop}
use borrow.Author.Rules.{part_to_end}
use Rattle.std.specs.Prelude.{Option, Some, None}
use Rattle.refusals.specs.declared.Refusal.{Refusal}
use Rattle.trace.specs.Reading.{Parsed, whole, refused, operation_of, Reading, reading, read_from}
use Rattle.trace.specs.Steps.{stepped, step_at, step_of}
use Rattle.trace.specs.declared.Operation.{Operation}
use Rattle.trace.specs.declared.Found.{Found}
use Rattle.trace.specs.declared.Found.TheVariants.{Read, End, Refused}
use Rattle.trace.specs.declared.Step.{Step}
use Rattle.trace.proofs.Laws.{Held, sound, added, read_end, read_whole, read_refused}
use Rattle.trace.proofs.Arms.{part}

-- the reading of the trace s from the place at on
abbrev pub from : List ℕ → ℕ → Reading
from s at = read_from at 0 (drop at s)

-- an operation was read at the place at, up to the place c
pub record Moved (s : List ℕ) (at c : ℕ) (op : Operation) : Type 0 where
  pub past : at < c
  pub inside : c ≤ length s
  pub held : Held op
  pub is : from s at ≡ added op (from s c)

-- the cursor stays where it was
pub record Stayed (s : List ℕ) (at c : ℕ) (refusal : Option Refusal) (offset : ℕ) : Type 0 where
  pub stays : c ≡ at
  pub is : from s at ≡ reading [] refusal offset

-- a cursor at the place at found f, and is at the place c then
abbrev pub Turn : List ℕ → ℕ → ℕ → Found → Type 0
Turn s at c (Read op) = Moved s at c op
Turn s at c End = Stayed s at c None at
Turn s at c (Refused r offset) = Stayed s at c (Some r) offset

abbrev TurnOf : List ℕ → ℕ → Step → Type 0
TurnOf s at x = Turn s at x.cursor.at x.found

turn_by : (s : List ℕ) (at b : ℕ) (bs : List ℕ) (x : Parsed) → drop at s ≡ b ∷ bs → operation_of b bs ≡ x → TurnOf s at (stepped at x)
turn_by s at b bs (whole op used) e is =
    let z = sound b bs op used is in
    let k : length s - at ≡ suc (length bs) = sym (length-drop at s) ∙ ap length e in
    let d : drop used (b ∷ bs) ≡ drop (at + used) s = ap (drop used) (sym e) ∙ drop-drop used at s in
    record {
      past = omega (arith, z.some);
      inside = omega (arith, z.there);
      held = z.held;
      is =
          ap (read_from at 0) e
          ∙ read_whole at b bs op used is
          ∙ ap (λ (t : List ℕ). added op (read_from (at + used) 0 t)) d;
    }
turn_by s at b bs (refused r place) e is =
    record { stays = refl; is = ap (read_from at 0) e ∙ read_refused at b bs r place is }

turn_at : (s : List ℕ) (at : ℕ) → TurnOf s at (step_of at s)
unfolding step_at
turn_at s at = go (drop at s) refl
  where
    go : (t : List ℕ) → drop at s ≡ t → TurnOf s at (step_at at t)
    go [] e = record { stays = refl; is = ap (read_from at 0) e ∙ read_end at }
    go (b ∷ bs) e = turn_by s at b bs (operation_of b bs) e refl

-- the law, of a step x over the whole trace
pub turn_of : (s : List ℕ) (at : ℕ) (x : Step) → x ≡ step_of at s → (f : Found) → x.found ≡ f → Turn s at x.cursor.at f
turn_of s at x e f is = subst (Turn s at x.cursor.at) is (subst (TurnOf s at) (sym e) (turn_at s at))

-- and of one over the rest of the trace, as the code lends it
pub turn : (s : List ℕ) (at : ℕ) (x : Step) → x ≡ step_at at (part s at) → (f : Found) → x.found ≡ f → Turn s at x.cursor.at f
turn s at x e f is = turn_of s at x (e ∙ ap (step_at at) (part_to_end s at)) f is

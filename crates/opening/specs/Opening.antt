-- Words as a cache of a kind, or none. Assumes nothing.
use Rattle.std.specs.Prelude.{◌≡◌, true, false, List, ℕ, ◌^◌, ◌<◌, get_or, Result, Ok, Err}
use Rattle.area.specs.Area.{capacity_of}
use Rattle.state_check.specs.Check.{state_test}
use Rattle.refusals.specs.declared.Refusal.{Refusal}
use Rattle.refusals.specs.declared.Refusal.TheVariants.{State}

-- the words pass the test of that kind, are of 64 bits, and have the capacity c in their header
pub record Holding (kind c : ℕ) (w : List ℕ) : Type 0 where
  pub test : state_test kind w ≡ true
  pub words : (i : ℕ) → get_or w i 0 < 2 ^ 64
  pub capacity : c ≡ capacity_of w

-- what `open` tells of the words w
abbrev pub Opens : ℕ → List ℕ → Result ℕ Refusal → Type 0
Opens kind w (Ok c) = Holding kind c w
Opens kind w (Err r) = (r ≡ State) × (state_test kind w ≡ false)

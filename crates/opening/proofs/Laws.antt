-- What answers the needs of `open`. Assumes nothing.
use mathlib.Core.Path.{◌≡◌, refl, sym, ◌∙◌}
use mathlib.Core.Bool.{Bool, true, false}
use mathlib.Core.List.{List}
use Prim.Native.Nat.{ℕ, ◌^◌, ◌<◌, ◌≤◌}
use native.Mathlib.Omega.{arith}
use lib.ListN.{length, get_or}
use borrow.Author.Rules.{rules}
use Rattle.area_state.specs.Parts as parts
use Rattle.area.specs.Area.{capacity_of, end_at}
use Rattle.area.specs.Stored.{state_in}
use Rattle.state_check.specs.Check.{state_test}
use Rattle.state_check.proofs.State.{state_writes}
use Rattle.opening.specs.Opening.{Opens}
use Rattle.std.specs.Prelude.{Ok, Err}
use Rattle.refusals.specs.declared.Refusal.TheVariants.{State}

-- the test b of the words w, by the number n, which is the kind's
module _ (kind n : ℕ) (w : List ℕ) (b : Bool) (e : n ≡ kind) (is : b ≡ state_test n w) where
  -- words that pass have a header
  pub has_header : (i : ℕ) → i < 64 → b ≡ true → i < length w
  unfolding state_in parts.state_of
  has_header i h q = let s : end_at (capacity_of w) ≤ length w = (state_writes n w (sym is ∙ q)).stored.size in omega arith

  pub opens : b ≡ true → ((i : ℕ) → get_or w i 0 < 2 ^ 64) → Opens kind w (Ok (get_or w 1 0))
  opens q words = record { test = rw (sym e) (sym is ∙ q); words = words; capacity = refl }

  pub refuses : b ≡ false → Opens kind w (Err State)
  refuses q = (refl, rw (sym e) (sym is ∙ q))

pub ruleset laws = (has_header, opens, refuses, rules)

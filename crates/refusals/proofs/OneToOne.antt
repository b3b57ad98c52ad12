-- A REFUSAL'S NUMBER IS ITS OWN: `number_of` is one to one. Assumes nothing.
use mathlib.Core.Path.{◌≡◌, refl, sym, subst}
use Rattle.std.specs.Prelude.{ℕ, [], ◌∷◌, get_or}
use Rattle.refusals.specs.declared.Refusal.{Refusal}
use Rattle.refusals.specs.declared.Refusal.TheVariants.{Capacity, Area, State, Operation, Number, Room}
use Rattle.refusals.specs.Refusals.{number_of}

-- the refusal of a number
named : ℕ → Refusal
named n = get_or (Room ∷ Capacity ∷ Area ∷ State ∷ Operation ∷ Number ∷ []) n Room

named_number : (r : Refusal) → named (number_of r) ≡ r
unfolding named
named_number Capacity = refl
named_number Area = refl
named_number State = refl
named_number Operation = refl
named_number Number = refl
named_number Room = refl

pub number_one : (r q : Refusal) → number_of r ≡ number_of q → r ≡ q
number_one r q e =
    subst (λ v. v ≡ q) (named_number r) (subst (λ n. named n ≡ q) (sym e) (named_number q))

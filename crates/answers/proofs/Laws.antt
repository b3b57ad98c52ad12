-- Where a victim is recorded. Assumes nothing.
use mathlib.Core.Path.{◌≡◌, refl}
use Prim.Native.Nat.{ℕ}
use borrow.Author.Rules.{rules}
use borrow.Author.Tests.{eq-eqb, ne_eqb}
use Rattle.answers.specs.Answers.{place_is, place_of_list}
use Rattle.answers.specs.declared.Place.TheVariants.{B1, B2}

pub in_b1 : (i : ℕ) → i ≡ 0 → place_is B1 ≡ place_of_list i
in_b1 i q = rw (eq-eqb i 0 q) refl

pub in_b2 : (i : ℕ) → (i ≡ 0 → ⊥) → place_is B2 ≡ place_of_list i
in_b2 i q = rw (ne_eqb i 0 q) refl

pub ruleset laws = (in_b1, in_b2, rules)

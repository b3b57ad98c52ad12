-- The list to replace from. Assumes nothing.
use mathlib.Core.Path.{◌≡◌, refl, sym, ap, ◌∙◌}
use mathlib.Core.Bool.{Bool, true, false}
use mathlib.Core.List.{List}
use Prim.Native.Nat.{ℕ}
use lib.ListN.{length}
use borrow.Author.Tests.{ne_eqb}
use Rattle.rules.specs.State.{list}
use Rattle.rules.specs.declared.Side.TheVariants.{First as first, Second as second}
use Rattle.rules.specs.Stages.{prefers_t1}
use Rattle.area.specs.Area.{target_of}
use Rattle.area.specs.Stored.{Stored, state_in}
use Rattle.stages.specs.Common.{TurnIs}
use Rattle.stages.proofs.Finding.{state_target}

module _ (c : ℕ) (w : List ℕ) (s : Stored c w) where
  module _ (hit : Bool) (n t : ℕ) (p : n ≡ length (list first (state_in c w).lists)) (q : t ≡ target_of w) (b : Bool) (k : b ≡ prefers_t1 hit t n) where
    test_is : prefers_t1 hit (state_in c w).lists.target (length (state_in c w).lists.T1) ≡ b
    test_is = sym (k ∙ ap (λ (m : ℕ). prefers_t1 hit t m) p ∙ ap (λ (m : ℕ). prefers_t1 hit m (length (state_in c w).lists.T1)) (q ∙ sym (state_target c w)))

    pub turn_first : b ≡ true → TurnIs c w hit first
    turn_first z = record { is = rw (test_is ∙ z) refl }

    pub turn_second : b ≡ false → (m : ℕ) → m ≡ length (list second (state_in c w).lists) → (m ≡ 0 → ⊥) → TurnIs c w hit second
    turn_second z m u y = record { is = rw (test_is ∙ z, ne_eqb (length (state_in c w).lists.T2) 0 (λ x. y (u ∙ x))) refl }

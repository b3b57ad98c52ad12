-- What the library's `copy_within` to the place 0 leaves is what `keep` promises; and any two outcomes that its contract allows are equal. Assumes
-- nothing.
use mathlib.Core.Path.{◌≡◌, refl, sym, ap, ◌∙◌}
use mathlib.Core.List.{List, ◌++◌}
use Prim.Native.Nat.{ℕ, ◌+◌, ◌-◌}
use native.Mathlib.Omega.{arith}
use borrow.Author.Rules.{rules}
use Rattle.std.specs.List.{copy_within}
use lib.ListN.{take, drop}
use Rattle.input_buffer.specs.Pieces.{moved, Kept}

pub kept : (w v : List ℕ) (from to : ℕ) → v ≡ copy_within w from to 0 → Kept w v from to (to - from)
unfolding moved
kept w v from to e =
    let z : 0 + (to - from) ≡ to - from = omega arith in
    record { buffer = e ∙ ap (λ (k : ℕ). take (to - from) (drop from w) ++ drop k w) z; count = refl }

pub ruleset laws = (kept, rules)

pub one_outcome : (w u v : List ℕ) (from to p r : ℕ) → Kept w u from to p → Kept w v from to r → (u ≡ v) × (p ≡ r)
one_outcome w u v from to p r x y = (x.buffer ∙ sym y.buffer, x.count ∙ sym y.count)

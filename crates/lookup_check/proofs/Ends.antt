-- The walk of a bucket at its last place, the one before the sentinel: it ends well where the sentinel stands after it, and only there. Pages rise, so that a walk which goes on cannot come back. Assumes nothing.
use mathlib.Core.Path.{◌≡◌, refl, ◌∙◌, subst}
use mathlib.Core.Logic.{inl, inr}
use mathlib.Core.List.{List, [], ◌∷◌}
use Prim.Native.Nat.{ℕ, suc, ◌+◌, ◌<◌, ◌≤◌}
use native.Mathlib.Omega.{arith}
use borrow.Author.Tests.{eq-eqb}
use Rattle.cells.specs.Cells.{next_of, prev_of}
use Rattle.rings.specs.Members.{Mem}
use Rattle.rings.specs.Rings.{Links}
use Rattle.lookup.specs.Part.{page_of, links_of}
use Rattle.lookup.specs.Lookup.{Rising}
use Rattle.lookup.proofs.Rising.{rising_least}
use Rattle.std.specs.Prelude.{Option, Some, None}
use Rattle.lookup_check.specs.Check.{least_after, closing, walk_from}
use Rattle.lookup_check.proofs.Exact.{Passed, passed, least_place}
use Rattle.lookup_check.proofs.Steps.{walk_last}

-- the cell before the sentinel is the last of those passed
ends_in : (l : List ℕ) (x : ℕ) (xs : List ℕ) (s : ℕ) → Links l x xs s → Mem (prev_of l s) (x ∷ xs)
ends_in l x [] s ls = inl ls.1
ends_in l x (y ∷ ys) s ls = inr (ends_in l y ys s ls.2)

-- and it is not the one where the walk began, unless nothing was passed
no_return : (w : List ℕ) (m s a : ℕ) (xs : List ℕ) → Links (links_of m w) a xs s → Rising w (least_after w m a) xs → a < m → prev_of (links_of m w) s ≡ a → (next_of (links_of m w) a ≡ s → ⊥) → ⊥
no_return w m s a [] ls r h q n = n ls.0
no_return w m s a (x ∷ xs) ls r h q n =
    let j : Mem a (x ∷ xs) = subst (λ v. Mem v (x ∷ xs)) q (ends_in (links_of m w) x xs s ls.2) in
    let l : suc (page_of w a) ≤ page_of w a = rw (least_place w m a h) at (rising_least w (least_after w m a) (x ∷ xs) r a j) in
    omega arith

module _ (w : List ℕ) (m k b left a : ℕ) (h : a < m) (q : prev_of (links_of m w) (m + b) ≡ a) where
  pub last_closes : next_of (links_of m w) a ≡ m + b → walk_from w m k b left a ≡ Some left
  unfolding closing
  last_closes e = walk_last w m k b left a (omega arith) ∙ simp (eq-eqb (next_of (links_of m w) a) (m + b) e, eq-eqb (prev_of (links_of m w) (m + b)) a q)

  pub last_strays : (next_of (links_of m w) a ≡ m + b → ⊥) → walk_from w m k b left a ≡ None
  last_strays n = go (walk_from w m k b left a) refl
    where
      go : (r : Option ℕ) → walk_from w m k b left a ≡ r → walk_from w m k b left a ≡ None
      go None e = e
      go (Some rest) e = let p : Passed w m k b left rest a = passed w m k b left rest a e in absurd (no_return w m (m + b) a p.places p.links p.rising h q n)

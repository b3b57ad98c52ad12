-- Two lists of slots below c, one after the other: xs ends at c, ys at c + 1, and past the last of xs comes the first of ys. Assumes nothing.
use mathlib.Core.Path.{◌≡◌, refl, sym, ◌∙◌}
use mathlib.Core.Bool.{cond}
use mathlib.Core.List.{List, [], ◌∷◌, ◌++◌}
use mathlib.Core.Logic.{inl, inr}
use Prim.Native.Nat.{ℕ, zero, suc, ◌+◌, ◌<◌}
use native.Mathlib.Nat.{not-suc-le-zero, le_of_suc-le-suc}
use native.Mathlib.Omega.{arith}
use lib.Dec.{eqb}
use lib.ListN.{length, get_or}
use borrow.Author.Tests.{eq-eqb, ne_eqb}
use Rattle.rings.specs.Members.{Mem, Below}

-- an element by its place is a member
pub mem_get_d : (l : List ℕ) (j : ℕ) → j < length l → Mem (get_or l j 0) l
mem_get_d [] j less = absurd (not-suc-le-zero less)
mem_get_d (x ∷ l) zero less = inl refl
mem_get_d (x ∷ l) (suc j) less = inr (mem_get_d l j (le_of_suc-le-suc less))

pub joined_first : (c : ℕ) (xs ys : List ℕ) → Below c xs → cond (eqb (get_or xs 0 c) c) (get_or ys 0 (c + 1)) (get_or xs 0 c) ≡ get_or (xs ++ ys) 0 (c + 1)
joined_first c [] ys b = rw (eq-eqb c c refl) refl
joined_first c (x ∷ xs) ys b = let l : x < c = b.0 in rw (ne_eqb x c (omega arith)) refl

-- no place of ys, nor past it, has the number c
not_end : (c : ℕ) (ys : List ℕ) (k : ℕ) → Below c ys → get_or ys k (c + 1) ≡ c → ⊥
not_end c [] k b q = omega arith
not_end c (y ∷ ys) zero b q = let l : y < c = b.0 in omega arith
not_end c (y ∷ ys) (suc k) b q = not_end c ys k b.1 q

pub joined_next : (c : ℕ) (xs ys : List ℕ) (n e j : ℕ) → Below c xs → Below c ys → ((k : ℕ) → k < length xs → get_or xs k 0 ≡ e → n ≡ get_or xs (suc k) c) → ((k : ℕ) → k < length ys → get_or ys k 0 ≡ e → n ≡ get_or ys (suc k) (c + 1))
    → j < length (xs ++ ys) → get_or (xs ++ ys) j 0 ≡ e → cond (eqb n c) (get_or ys 0 (c + 1)) n ≡ get_or (xs ++ ys) (suc j) (c + 1)
joined_next c [] ys n e j b d f g less at = let q : n ≡ get_or ys (suc j) (c + 1) = g j less at in rw (ne_eqb n c (λ z. not_end c ys (suc j) d (sym q ∙ z))) q
joined_next c (x ∷ xs) ys n e zero b d f g less at = let q : n ≡ get_or xs 0 c = f 0 (omega arith) at in rw q (joined_first c xs ys b.1)
joined_next c (x ∷ xs) ys n e (suc j) b d f g less at = joined_next c xs ys n e j b.1 d (λ k h z. f (suc k) (omega arith) z) g (le_of_suc-le-suc less) at

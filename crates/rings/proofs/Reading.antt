-- The reading of a ring is the only one: its members are found by following next from the sentinel. Assumes nothing.
use mathlib.Core.Path.{◌≡◌, refl, sym, subst}
use mathlib.Core.Logic.{inl}
use mathlib.Core.List.{List, [], ◌∷◌}
use Prim.Native.Nat.{ℕ, zero, suc, ◌<◌, ◌≤◌}
use native.Mathlib.Omega.{arith}
use native.Mathlib.Nat.{not-suc-le-zero}
use lib.ListN.{length}
use borrow.Author.Tests.{lt-ltb, le-ltb}
use Rattle.cells.specs.Cells.{next_of, prev_of}
use Rattle.rings.specs.Members.{Below, last_of, without_last, Mem, without}
use Rattle.rings.specs.Rings.{Links, Ring, follow, members_from, members_of}
use Rattle.rings.proofs.Pigeons.{last_mem, without_last_lem}
use Rattle.rings.proofs.Ring.{ring_short, ring_distinct}

pub follow_links : (w : List ℕ) (m n a : ℕ) (xs : List ℕ) (s : ℕ) → m ≤ s → Links w a xs s → Below m xs → length xs ≤ n → follow w m n (next_of w a) ≡ xs
follow_links w m zero a [] s h l b f = refl
follow_links w m zero a (x ∷ xs) s h l b f = absurd (not-suc-le-zero f)
follow_links w m (suc n) a [] s h l b f = simp (l.0, le-ltb s m h)
follow_links w m (suc n) a (x ∷ xs) s h l b f = simp (l.0, lt-ltb x m b.0, follow_links w m n x xs s h l.2 b.1 (omega arith))

pub ring_members : (w : List ℕ) (m s : ℕ) (xs : List ℕ) → Ring w m s xs → members_of w m s ≡ xs
unfolding members_from
ring_members w m s xs r = follow_links w m m s xs s r.high r.links r.below (ring_short w m s xs r)

pub ring_read : (w : List ℕ) (m s : ℕ) (xs : List ℕ) → Ring w m s xs → Ring w m s (members_of w m s)
ring_read w m s xs r = rw (ring_members w m s xs r) r

-- the first and the last of a ring that is not empty; of one that is empty both are the sentinel
pub first_is : (w : List ℕ) (m s : ℕ) (x : ℕ) (xs : List ℕ) → Ring w m s (x ∷ xs) → next_of w s ≡ x
first_is w m s x xs r = r.links.0

links_last : (w : List ℕ) (a : ℕ) (xs : List ℕ) (b : ℕ) → Links w a xs b → prev_of w b ≡ last_of a xs
links_last w a [] b l = l.1
links_last w a (x ∷ xs) b l = links_last w x xs b l.2

pub last_is : (w : List ℕ) (m s : ℕ) (xs : List ℕ) → Ring w m s xs → prev_of w s ≡ last_of s xs
last_is w m s xs r = links_last w s xs s r.links

pub last_member : (w : List ℕ) (m s : ℕ) (xs : List ℕ) → Ring w m s xs → 0 < length xs → Mem (prev_of w s) xs
last_member w m s [] r h = absurd (not-suc-le-zero h)
last_member w m s (x ∷ xs) r h = subst (λ v. Mem v (x ∷ xs)) (sym (last_is w m s (x ∷ xs) r)) (last_mem x xs)

pub first_member : (w : List ℕ) (m s : ℕ) (xs : List ℕ) → Ring w m s xs → 0 < length xs → Mem (next_of w s) xs
first_member w m s [] r h = absurd (not-suc-le-zero h)
first_member w m s (x ∷ xs) r h = inl r.links.0

pub last_out : (w : List ℕ) (m s : ℕ) (xs : List ℕ) → Ring w m s xs → 0 < length xs → without (prev_of w s) xs ≡ without_last xs
last_out w m s [] r h = absurd (not-suc-le-zero h)
last_out w m s (x ∷ xs) r h = subst (λ v. without v (x ∷ xs) ≡ without_last (x ∷ xs)) (sym (last_is w m s (x ∷ xs) r)) (without_last_lem x xs (ring_distinct w m s (x ∷ xs) r))

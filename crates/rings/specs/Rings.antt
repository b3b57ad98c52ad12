-- Rings in a part of words: the cells below m are members of at most one ring, the cells from m on are the rings' sentinels.
-- A ring starts and ends at its sentinel. It keeps no count. Assumes nothing.
use Rattle.std.specs.Prelude.{◌≡◌, cond, List, [], ◌∷◌, ◌++◌, ℕ, zero, suc, ◌+◌, ◌<◌, ◌≤◌, eqb, ltb}
use Rattle.cells.specs.Cells.{In, next_of, prev_of, with_next, with_prev}
use Rattle.rings.specs.Members.{Below, without}

-- the cells xs lead from a to b by next, and back by prev
abbrev pub Links : List ℕ → ℕ → List ℕ → ℕ → Type 0
Links w a [] b = (next_of w a ≡ b) × (prev_of w b ≡ a)
Links w a (x ∷ xs) b = (next_of w a ≡ x) × (prev_of w x ≡ a) × Links w x xs b

-- the ring of the sentinel s has the members xs, first to last
pub record Ring (w : List ℕ) (m s : ℕ) (xs : List ℕ) : Type 0 where
  pub high : m ≤ s
  pub root : In w s
  pub links : Links w s xs s
  pub below : Below m xs

-- k rings: ring i is that of the sentinel m + i, and has the members P i
abbrev pub Rings : List ℕ → ℕ → ℕ → (ℕ → List ℕ) → Type 0
Rings w m k P = (i : ℕ) → i < k → Ring w m (m + i) (P i)

-- P, with xs for ring j
unfoldable pub changed : (ℕ → List ℕ) → ℕ → List ℕ → ℕ → List ℕ
changed P j xs i = cond (eqb i j) xs (P i)

-- P once e has left ring i; and once it has come to the front, or to the end, of ring j
abbrev pub out_of : ℕ → ℕ → (ℕ → List ℕ) → ℕ → List ℕ
out_of i e P = changed P i (without e (P i))

abbrev pub fronted_in : ℕ → ℕ → ℕ → (ℕ → List ℕ) → ℕ → List ℕ
fronted_in i j e P = changed (out_of i e P) j (e ∷ out_of i e P j)

abbrev pub ended_in : ℕ → ℕ → ℕ → (ℕ → List ℕ) → ℕ → List ℕ
ended_in i j e P = changed (out_of i e P) j (out_of i e P j ++ (e ∷ []))

-- the members of the first n rings together
abbrev pub together : (ℕ → List ℕ) → ℕ → List ℕ
together P zero = []
together P (suc n) = P n ++ together P n

-- THE READING: at most n members from e on, by next, up to the first cell that is none
abbrev pub follow : List ℕ → ℕ → ℕ → ℕ → List ℕ
follow w m zero e = []
follow w m (suc n) e = cond (ltb e m) (e ∷ follow w m n (next_of w e)) []

-- the members from the cell e on, and those of the ring of s
unfoldable pub members_from : List ℕ → ℕ → ℕ → List ℕ
members_from w m e = follow w m m e

abbrev pub members_of : List ℕ → ℕ → ℕ → List ℕ
members_of w m s = members_from w m (next_of w s)

-- THE CHANGES. e, which is in no ring, comes between p and f
abbrev pub placed : ℕ → ℕ → ℕ → List ℕ → List ℕ
placed p f e w = with_next (with_prev (with_prev (with_next w e f) e p) f e) p e

-- e, which is in no ring, comes before f: after what stands there
unfoldable pub inserted : ℕ → ℕ → List ℕ → List ℕ
inserted f e w = placed (prev_of w f) f e w

-- e leaves its ring
unfoldable pub detached : ℕ → List ℕ → List ℕ
detached e w = with_prev (with_next w (prev_of w e) (next_of w e)) (next_of w e) (prev_of w e)

-- e leaves its ring and comes to the front, or to the end, of the ring of s
unfoldable pub fronted : ℕ → ℕ → List ℕ → List ℕ
fronted s e w = inserted (next_of (detached e w) s) e (detached e w)

unfoldable pub ended : ℕ → ℕ → List ℕ → List ℕ
ended s e w = inserted s e (detached e w)

-- y, which is in no ring, takes the place of x
unfoldable pub replaced : ℕ → ℕ → List ℕ → List ℕ
replaced x y w = inserted (next_of w x) y (detached x w)

-- the ring of s has no members
unfoldable pub emptied : ℕ → List ℕ → List ℕ
emptied s w = with_prev (with_next w s s) s s

-- b now stands after a
unfoldable pub linked : ℕ → ℕ → List ℕ → List ℕ
linked a b w = with_prev (with_next w a b) b a

-- the cell before n, where the sentinel s comes before the first; the cells below n one after the other, from the sentinel on; they become that ring
abbrev pub before : ℕ → ℕ → ℕ
before s zero = s
before s (suc n) = n

unfoldable pub chained : ℕ → ℕ → List ℕ → List ℕ
chained s zero w = w
chained s (suc n) w = linked (before s n) n (chained s n w)

unfoldable pub filled : ℕ → ℕ → List ℕ → List ℕ
filled s n w = linked (before s n) s (chained s n w)

-- WHAT THE CHANGES ASK: the cells that are touched are there
pub record CanPlace (w : List ℕ) (p f e : ℕ) : Type 0 where
  pub self : In w e
  pub at : In w f
  pub back : In w p

pub record CanInsert (w : List ℕ) (f e : ℕ) : Type 0 where
  pub self : In w e
  pub at : In w f
  pub back : In w (prev_of w f)

pub record CanDetach (w : List ℕ) (e : ℕ) : Type 0 where
  pub self : In w e
  pub back : In w (prev_of w e)
  pub after : In w (next_of w e)

pub record CanFront (w : List ℕ) (s e : ℕ) : Type 0 where
  pub root : In (detached e w) s
  pub out : CanDetach w e
  pub into : CanInsert (detached e w) (next_of (detached e w) s) e
  pub back : prev_of (detached e w) (next_of (detached e w) s) ≡ s

pub record CanEnd (w : List ℕ) (s e : ℕ) : Type 0 where
  pub out : CanDetach w e
  pub into : CanInsert (detached e w) s e

pub record CanReplace (w : List ℕ) (x y : ℕ) : Type 0 where
  pub out : CanDetach w x
  pub into : CanInsert (detached x w) (next_of w x) y

pub record CanFill (w : List ℕ) (m s : ℕ) : Type 0 where
  pub high : m ≤ s
  pub root : In w s

-- The test of a ring, for any words: a walk by next and one by prev, from both ends at once, each link held against the link back, until they meet. Each member is
-- put to a test T besides. Assumes nothing.
use Rattle.std.specs.Prelude.{◌≡◌, Bool, true, false, cond, List, [], ◌∷◌, ℕ, zero, suc, ◌<◌, ◌≤◌, eqb, ltb}
use Rattle.cells.specs.Cells.{In, next_of, prev_of}

-- b stands after a
unfoldable pub joined : List ℕ → ℕ → ℕ → Bool
joined w a b = cond (eqb (next_of w a) b) (eqb (prev_of w b) a) false

-- a member that passes the test stands after a; and one stands before b
unfoldable pub ahead : List ℕ → ℕ → (ℕ → Bool) → ℕ → Bool
ahead w m T a = cond (ltb (next_of w a) m) (cond (eqb (prev_of w (next_of w a)) a) (T (next_of w a)) false) false

unfoldable pub behind : List ℕ → ℕ → (ℕ → Bool) → ℕ → Bool
behind w m T b = cond (ltb (prev_of w b) m) (cond (eqb (next_of w (prev_of w b)) b) (T (prev_of w b)) false) false

-- n members lead from a to b, and each passes the test
abbrev pub between : List ℕ → ℕ → (ℕ → Bool) → ℕ → ℕ → ℕ → Bool
between w m T zero a b = joined w a b
between w m T (suc zero) a b = cond (ahead w m T a) (joined w (next_of w a) b) false
between w m T (suc (suc n)) a b = cond (ahead w m T a) (cond (behind w m T b) (between w m T n (next_of w a) (prev_of w b)) false) false

-- each of these passes the test; the test that all pass
abbrev pub each : (ℕ → Bool) → List ℕ → Bool
each T [] = true
each T (x ∷ xs) = cond (T x) (each T xs) false

abbrev pub any : ℕ → Bool
any x = true

-- THE TEST: the ring of s has n members
unfoldable pub ring_test : List ℕ → ℕ → ℕ → ℕ → Bool
ring_test w m s n = between w m any n s s

-- what a walk asks of the words: s is a sentinel
pub record CanWalk (w : List ℕ) (m s : ℕ) : Type 0 where
  pub high : m ≤ s
  pub root : In w s

-- what a step asks of the words: the ring's sentinel is there, and the cell
pub record CanStep (w : List ℕ) (m s a : ℕ) : Type 0 where
  pub walk : CanWalk w m s
  pub cell : In w a

-- what P, the answers of a closure, tells of each member is what the test T tells
abbrev pub Tells : (ℕ → Bool → Type 0) → ℕ → (ℕ → Bool) → Type 0
Tells P m T = (e : ℕ) (r : Bool) → e < m → P e r → r ≡ T e

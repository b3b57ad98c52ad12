-- How the two numbers of a cell lie in words: cell e has the words 2e (the cell after it) and 2e + 1 (the cell before it).
-- Other crates see these names and the laws of proofs/Laws.antt, and nothing of the words. Assumes nothing.
use Rattle.std.specs.Prelude.{List, ℕ, ◌+◌, ◌*◌, ◌≤◌, ◌<◌, length, get_or, set}

-- the words that n cells take
unfoldable pub words_of : ℕ → ℕ
words_of n = 2 * n

-- w has n cells at least: those below n
unfoldable pub Cells : List ℕ → ℕ → Type 0
Cells w n = words_of n ≤ length w

-- e is a cell of w: its words are there, and any cell of w can hold its number
unfoldable pub In : List ℕ → ℕ → Type 0
In w e = 2 * e + 1 < length w

-- the cell after e, and the cell before e
unfoldable pub next_of : List ℕ → ℕ → ℕ
next_of w e = get_or w (2 * e) 0

unfoldable pub prev_of : List ℕ → ℕ → ℕ
prev_of w e = get_or w (2 * e + 1) 0

-- w with x after e, and with x before e
unfoldable pub with_next : List ℕ → ℕ → ℕ → List ℕ
with_next w e x = set w (2 * e) x

unfoldable pub with_prev : List ℕ → ℕ → ℕ → List ℕ
with_prev w e x = set w (2 * e + 1) x

-- what a store asks: both are cells
pub record CanLink (w : List ℕ) (e x : ℕ) : Type 0 where
  pub cell : In w e
  pub to : In w x

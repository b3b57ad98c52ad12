-- The words of a part from word a on, and the part with others in their place. Assumes nothing.
use Rattle.std.specs.Prelude.{List, ◌++◌, ℕ, ◌≤◌, length, take, drop}

unfoldable pub tail_of : ℕ → List ℕ → List ℕ
tail_of a w = drop a w

unfoldable pub with_tail : ℕ → List ℕ → List ℕ → List ℕ
with_tail a l w = take a w ++ l

-- the words from a on may be lent to a call that asks P of them
pub record Tail (w : List ℕ) (a : ℕ) (P : Type 0) : Type 0 where
  pub within : a ≤ length w
  pub can : P

-- What the parts of a feed ask. Assumes nothing.
use Rattle.std.specs.Prelude.{List, ℕ, ◌+◌, ◌^◌, ◌<◌, ◌≤◌, length}
use Rattle.lines.specs.Lines.{line_room}
use Rattle.replaying.specs.declared.Running.{Running}
use Rattle.replaying.specs.Pending.{area_words, Going}

-- at the start: words for the largest cache, and room for a line
pub record Begins (w out : List ℕ) : Type 0 where
  pub words : area_words ≤ length w
  pub room : line_room ≤ length out

-- later: a cache to go on with, and room for a line
pub record Goes (r : Running) (w out : List ℕ) : Type 0 where
  pub going : Going r w
  pub room : line_room ≤ length out

-- and offsets that can be counted
pub record Runs (r : Running) (w bytes out : List ℕ) : Type 0 where
  pub going : Going r w
  pub room : line_room ≤ length out
  pub fits : r.offset + length bytes < 2 ^ 64

-- A text that is written into a lent buffer. Assumes nothing.
use Rattle.std.specs.Prelude.{◌≡◌, List, ◌++◌, ℕ, ◌+◌, ◌≤◌, length, take, drop}

-- the bytes w with a text laid over them from `at` on
unfoldable pub laid : ℕ → List ℕ → List ℕ → List ℕ
laid at text w = take at w ++ text ++ drop (at + length text) w

-- the buffer w has room for a text from `at` on
pub record Room (w : List ℕ) (at : ℕ) (text : List ℕ) : Type 0 where
  pub fits : at + length text ≤ length w

-- THE CONTRACT of each writer: the buffer was w and is v, and the text stands in it from `at` up to r
pub record Put (w v : List ℕ) (at : ℕ) (text : List ℕ) (r : ℕ) : Type 0 where
  pub buffer : v ≡ laid at text w
  pub past : r ≡ at + length text

-- the bytes of the longest line, `new out 18446744073709551615 4294967295 b1` with its end
abbrev pub line_room : ℕ
line_room = 43

-- the buffer w has room for any line from `at` on
abbrev pub LineRoom : List ℕ → ℕ → Type 0
LineRoom w at = at + line_room ≤ length w

-- What the readers ask of a width: the most bytes of a number, and the limit of the last of them. Assumes nothing.
use Rattle.std.specs.Prelude.{ℕ, zero, suc, ◌+◌, ◌*◌, ◌-◌, ◌^◌, ◌≤◌, List, length, get_or}

-- every number of at most suc n bytes, the last of these at most limit, is below this
unfoldable pub top : ℕ → ℕ → ℕ
top limit zero = limit + 1
top limit (suc n) = 128 * top limit n

-- three bytes or more, the last of which may be other than 0, and every number fits 64 bits
pub record Wide (most limit : ℕ) : Type 0 where
  pub three : 3 ≤ most
  pub some : 1 ≤ limit
  pub fits : top limit (most - 1) ≤ 2 ^ 64

-- such a width, and two bytes with their top bit set, after which a third must come
pub record Long (most limit : ℕ) (s : List ℕ) : Type 0 where
  pub wide : Wide most limit
  pub two : 2 ≤ length s
  pub first : 128 ≤ get_or s 0 0
  pub second : 128 ≤ get_or s 1 0

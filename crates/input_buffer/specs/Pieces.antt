-- A buffer whose unread bytes are moved to its front. Assumes nothing.
use Rattle.std.specs.Prelude.{◌≡◌, List, ◌++◌, ℕ, ◌-◌, ◌≤◌, length, take, drop}

-- from and to are places of the buffer w, in order
pub record Within (w : List ℕ) (from to : ℕ) : Type 0 where
  pub order : from ≤ to
  pub inside : to ≤ length w

-- the buffer w with n bytes from `from` on laid over its front
unfoldable pub moved : ℕ → ℕ → List ℕ → List ℕ
moved from n w = take n (drop from w) ++ drop n w

-- THE CONTRACT of `keep`: the buffer was w and is v, which starts with the r bytes that stood from `from` up to `to`; no byte behind them is another
pub record Kept (w v : List ℕ) (from to r : ℕ) : Type 0 where
  pub buffer : v ≡ moved from (to - from) w
  pub count : r ≡ to - from

-- A number, written digit by digit. Assumes nothing.
use mathlib.Core.List.{List, [], ◌∷◌, ◌++◌}
use Prim.Native.Nat.{ℕ, ◌+◌, ◌/◌, ◌%◌, ◌^◌, ◌<◌, ◌≤◌}
use native.Mathlib.Omega.{arith}
use lib.ListN.{length, set}
use mir.Syntax.{w64}
use mir.Val.{Fits}
use Rattle.rules.specs.Decimal.{digit, decimal}
use Rattle.lines.specs.Lines.{Room, Put}
use Rattle.lines.proofs.Puts.{put_byte, put_length, put_then, room_first, room_second}
use Rattle.lines.proofs.Digits.{decimal_small, decimal_large}

-- ---- the room
small_room : (w : List ℕ) (at n : ℕ) → n < 10 → Room w at (decimal n) → at < length w
small_room w at n h r = omega (arith, (rw (decimal_small n h) at r).fits)

large_room : (w : List ℕ) (at n : ℕ) → 10 ≤ n → Room w at (decimal n) → Room w at (decimal (n / 10) ++ digit (n % 10) ∷ [])
large_room w at n h r = rw (decimal_large n h) at r

pub higher_room : (w : List ℕ) (at n : ℕ) → 10 ≤ n → Room w at (decimal n) → Room w at (decimal (n / 10))
higher_room w at n h r = room_first w at (decimal (n / 10)) _ (large_room w at n h r)

pub small_fits : (w : List ℕ) (at n : ℕ) → Room w at (decimal n) → n < 10 → at < length w
small_fits w at n r h = small_room w at n h r

pub last_fits : (w u : List ℕ) (at n p : ℕ) → Room w at (decimal n) → 10 ≤ n → Put w u at (decimal (n / 10)) p → p < length u
last_fits w u at n p r h x = omega (arith, (room_second w u at (decimal (n / 10)) (digit (n % 10) ∷ []) p x (large_room w at n h r)).fits)

-- ---- the text
pub number_small : (w : List ℕ) (at n : ℕ) → Room w at (decimal n) → n < 10 → Put w (set w at (0x30 + n)) at (decimal n) (at + 1)
number_small w at n r h = rw (decimal_small n h) (put_byte w at (0x30 + n) (small_room w at n h r))

pub number_large : (w u : List ℕ) (at n p : ℕ) → Room w at (decimal n) → 10 ≤ n → Put w u at (decimal (n / 10)) p
    → Put w (set u p (0x30 + n % 10)) at (decimal n) (p + 1)
number_large w u at n p r h x =
    rw (decimal_large n h) (put_then w u _ at (decimal (n / 10)) _ p _ (omega arith) x (put_byte u p _ (last_fits w u at n p r h x)))

-- the position behind the last digit is one of a buffer
pub behind_fits : (w u : List ℕ) (at n p : ℕ) → length w < 2 ^ 64 → Room w at (decimal n) → 10 ≤ n → Put w u at (decimal (n / 10)) p → Fits w64 (p + 1)
behind_fits w u at n p small r h x =
    record { fits = omega (arith, last_fits w u at n p r h x, put_length w u at (decimal (n / 10)) p x (higher_room w at n h r)) }

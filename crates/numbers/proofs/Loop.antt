-- The loop of `read_long`, and the two straight bytes before it, in the shapes of the code: what answers the needs of the readers.
-- Assumes nothing.
use mathlib.Core.Path.{◌≡◌, refl}
use mathlib.Core.List.{List}
use Prim.Native.Nat.{ℕ, ◌+◌, ◌*◌, ◌-◌, ◌%◌, ◌<◌, ◌≤◌}
use native.Mathlib.Omega.{arith}
use lib.ListN.{length, get_or}
use borrow.Author.Rules.{rules}
use mir.Val.{Fits}
use mir.Syntax.{w32, w64}
use Rattle.std.specs.Prelude.{Err}
use Rattle.numbers.specs.Reading.{numeral, number_of}
use Rattle.numbers.specs.Widths.{Wide, Long}
use Rattle.numbers.specs.declared.Fault.TheVariants.{Missing, NotShortest, TooLarge}
use Rattle.numbers.proofs.Bounds.{number_bounds, frame_top}
use Rattle.numbers.proofs.Laws.{SoFar, begins, again, missing, first_value, group_zero, group_value, last_over, last_zero, last_value, group_room, last_room, weight_room}

-- the loop's invariant
pub record Turn (most limit : ℕ) (s : List ℕ) (last v c at : ℕ) : Type 0 where
  pub ends : last ≡ most - 1
  pub past : 0 < at
  pub so_far : SoFar most limit s v c at

-- the first byte, and the second, have their top bit set
pub after_one : (most limit : ℕ) (s : List ℕ) → Wide most limit → 0 < length s → 128 ≤ get_or s 0 0 → SoFar most limit s (get_or s 0 0 % 128) 128 1
after_one most limit s w h b =
    let e : 0 + 1 * (get_or s 0 0 % 128) ≡ get_or s 0 0 % 128 = omega arith in
    rw e at (again most limit s 0 1 0 (begins most limit s w) (omega (arith, w.three)) h b)

pub after_two : (most limit : ℕ) (s : List ℕ) → Long most limit s → SoFar most limit s (get_or s 0 0 % 128 + 128 * (get_or s 1 0 % 128)) 16384 2
after_two most limit s g =
    again most limit s (get_or s 0 0 % 128) 128 1 (after_one most limit s g.wide (omega (arith, g.two)) g.first) (omega (arith, g.wide.three)) g.two g.second

pub loop_begins : (most limit : ℕ) (s : List ℕ) → Long most limit s → Turn most limit s (most - 1) (get_or s 0 0 % 128 + 128 * (get_or s 1 0 % 128)) 16384 2
loop_begins most limit s g = record { ends = refl; past = omega arith; so_far = after_two most limit s g }

pub mod_small : (x : ℕ) → x % 128 < 128
mod_small x = omega arith

-- a turn before the last place
module _ (most limit : ℕ) (s : List ℕ) (last v c at : ℕ) (w : Wide most limit) (i : Turn most limit s last v c at) where
  pub turn_missing : length s ≤ at → Err (Missing at) ≡ number_of most limit s
  turn_missing h = missing most limit s v c at i.so_far h

  before : at < last → at < most - 1
  before l = omega (arith, i.ends)

  pub turn_zero : at < last → at < length s → get_or s at 0 < 128 → get_or s at 0 ≡ 0 → Err (NotShortest at) ≡ number_of most limit s
  turn_zero l h b z = group_zero most limit s v c at i.so_far (before l) h b i.past z

  pub turn_value : at < last → at < length s → get_or s at 0 < 128 → (get_or s at 0 ≡ 0 → ⊥) → numeral (v + c * get_or s at 0) (at + 1) ≡ number_of most limit s
  turn_value l h b z = group_value most limit s v c at i.so_far (before l) h b z

  pub turn_again : at < last → at < length s → 128 ≤ get_or s at 0 → Turn most limit s last (v + c * (get_or s at 0 % 128)) (c * 128) (at + 1)
  turn_again l h b =
      record { ends = i.ends; past = omega arith; so_far = again most limit s v c at i.so_far (before l) h b }

  pub product_fits : (d : ℕ) → at < last → d < 128 → Fits w64 (c * d)
  product_fits d l h = omega (arith, (group_room most limit s v c at d w i.so_far (before l) h).product)

  pub sum_fits : (d : ℕ) → at < last → d < 128 → Fits w64 (v + c * d)
  sum_fits d l h = omega (arith, (group_room most limit s v c at d w i.so_far (before l) h).sum)

  pub weight_fits : at < last → Fits w64 (c * 128)
  weight_fits l = omega (arith, weight_room most limit s v c at w i.so_far (before l))

  -- and the last place
  ended : last ≤ at → SoFar most limit s v c last
  ended l =
      let e : at ≡ last = omega (arith, i.ends, i.so_far.inside) in
      rw e at i.so_far

  pub end_missing : last ≤ at → length s ≤ last → Err (Missing last) ≡ number_of most limit s
  end_missing l h = missing most limit s v c last (ended l) h

  pub end_over : last ≤ at → last < length s → limit < get_or s last 0 → Err (TooLarge last) ≡ number_of most limit s
  end_over l h o = last_over most limit s v c last (ended l) i.ends h o

  pub end_zero : last ≤ at → last < length s → get_or s last 0 ≤ limit → get_or s last 0 ≡ 0 → Err (NotShortest last) ≡ number_of most limit s
  end_zero l h o z = last_zero most limit s v c last (ended l) i.ends h (omega (arith, i.past, i.ends, i.so_far.inside)) o z

  pub end_value : last ≤ at → last < length s → get_or s last 0 ≤ limit → (get_or s last 0 ≡ 0 → ⊥) → numeral (v + c * get_or s last 0) (last + 1) ≡ number_of most limit s
  end_value l h o z = last_value most limit s v c last (ended l) i.ends h o z

  pub end_product_fits : (d : ℕ) → last ≤ at → d ≤ limit → Fits w64 (c * d)
  end_product_fits d l h = omega (arith, (last_room most limit s v c last d (ended l) i.ends h).product)

  pub end_sum_fits : (d : ℕ) → last ≤ at → d ≤ limit → Fits w64 (v + c * d)
  end_sum_fits d l h = omega (arith, (last_room most limit s v c last d (ended l) i.ends h).sum)

-- ---- the straight bytes
module _ (most limit : ℕ) (s : List ℕ) (w : Wide most limit) where
  pub no_bytes : length s ≡ 0 → Err (Missing 0) ≡ number_of most limit s
  no_bytes h = missing most limit s 0 1 0 (begins most limit s w) (omega arith)

  pub one_byte : (length s ≡ 0 → ⊥) → get_or s 0 0 < 128 → numeral (get_or s 0 0) 1 ≡ number_of most limit s
  one_byte h b =
      let e : 0 + 1 * get_or s 0 0 ≡ get_or s 0 0 = omega arith in
      rw e at (first_value most limit s 0 1 0 (begins most limit s w) (omega (arith, w.three)) (omega arith) b refl)

  pub one_missing : 128 ≤ get_or s 0 0 → length s ≡ 1 → Err (Missing 1) ≡ number_of most limit s
  one_missing b h = missing most limit s (get_or s 0 0 % 128) 128 1 (after_one most limit s w (omega arith) b) (omega arith)

  pub two_zero : (length s ≡ 0 → ⊥) → (length s ≡ 1 → ⊥) → 128 ≤ get_or s 0 0 → get_or s 1 0 < 128 → get_or s 1 0 ≡ 0
      → Err (NotShortest 1) ≡ number_of most limit s
  two_zero h k b d z =
      group_zero most limit s (get_or s 0 0 % 128) 128 1 (after_one most limit s w (omega arith) b) (omega (arith, w.three)) (omega arith) d (omega arith) z

  pub two_bytes : (length s ≡ 0 → ⊥) → (length s ≡ 1 → ⊥) → 128 ≤ get_or s 0 0 → get_or s 1 0 < 128 → (get_or s 1 0 ≡ 0 → ⊥)
      → numeral (get_or s 0 0 % 128 + 128 * get_or s 1 0) 2 ≡ number_of most limit s
  two_bytes h k b d z =
      group_value most limit s (get_or s 0 0 % 128) 128 1 (after_one most limit s w (omega arith) b) (omega (arith, w.three)) (omega arith) d z

  pub three_bytes : (length s ≡ 0 → ⊥) → (length s ≡ 1 → ⊥) → 128 ≤ get_or s 0 0 → 128 ≤ get_or s 1 0 → Long most limit s
  three_bytes h k b d = record { wide = w; two = omega arith; first = b; second = d }

-- ---- a frame
pub frame_fits : (s : List ℕ) (v u : ℕ) → numeral v u ≡ number_of 5 15 s → Fits w32 v
frame_fits s v u e = omega (arith, (number_bounds 15 4 s v u e).below, frame_top)

pub ruleset laws = (loop_begins, mod_small, turn_missing, turn_zero, turn_value, turn_again, product_fits, sum_fits, weight_fits, end_missing, end_over, end_zero, end_value, end_product_fits, end_sum_fits, no_bytes, one_byte, one_missing, two_zero, two_bytes, three_bytes, frame_fits, rules)

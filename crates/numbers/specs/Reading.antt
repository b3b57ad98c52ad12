-- Numbers of a trace (RULES 8). Assumes nothing.
--
-- "Numbers are groups of seven bits, lowest group first, top bit set on all but the last byte, shortest form only: a
-- last byte 0 is allowed only for zero itself. A page has at most ten bytes, the tenth being 1; a frame at most five,
-- the fifth at most 15." (RULES 8.2, 8.3)
--
-- One definition serves every width: a width is the most bytes of a number and the limit of the last of them. Reading
-- byte by byte, the first fault decides, and its place is counted from the number's first byte.
use Rattle.std.specs.Prelude.{ℕ, zero, suc, ◌+◌, ◌-◌, ◌*◌, ◌%◌, List, [], ◌∷◌, cond, ◌&&◌, ltb, eqb, Result, Ok, Err}
use Rattle.numbers.specs.declared.Fault.{Fault}
use Rattle.numbers.specs.declared.Fault.TheVariants.{Missing, NotShortest, TooLarge}
use Rattle.numbers.specs.declared.Numeral.{Numeral}

-- what stands at the start of some bytes: a number and how many bytes it takes, or a fault
abbrev pub Number : Type 0
Number = Result (Numeral ℕ) Fault

-- the number v, of u bytes
abbrev pub numeral : ℕ → ℕ → Number
numeral v u = Ok (record { value = v; used = u })

-- a last byte b at the place at: 0 is allowed only for zero itself
abbrev pub last_byte : ℕ → ℕ → Number
last_byte at b = cond (eqb b 0 && ltb 0 at) (Err (NotShortest at)) (numeral b (at + 1))

-- a byte b with its top bit set, in front of the higher groups
abbrev pub group : ℕ → Number → Number
group b (Ok n) = numeral (128 * n.value + b % 128) n.used
group b (Err f) = Err f

-- the number whose byte at the place at comes first in the bytes; n more may follow that byte, and with none to follow it is at most limit
unfoldable pub read_from : ℕ → ℕ → ℕ → List ℕ → Number
read_from limit zero at [] = Err (Missing at)
read_from limit zero at (b ∷ bs) = cond (ltb limit b) (Err (TooLarge at)) (last_byte at b)
read_from limit (suc n) at [] = Err (Missing at)
read_from limit (suc n) at (b ∷ bs) = cond (ltb b 128) (last_byte at b) (group b (read_from limit n (at + 1) bs))

-- a number of at most `most` bytes, the last of these at most limit
abbrev pub number_of : ℕ → ℕ → List ℕ → Number
number_of most limit bs = read_from limit (most - 1) 0 bs

-- a page has at most ten bytes, the tenth being 1
abbrev pub page_of : List ℕ → Number
page_of = number_of 10 1

-- a frame at most five, the fifth at most 15
abbrev pub frame_of : List ℕ → Number
frame_of = number_of 5 15

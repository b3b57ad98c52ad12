-- P9 (RULES 11) and its neighbours, of the definitions: one statement over a table, which antt computes. A row has the
-- bytes, with the page that they read as and the frame; a fault has its place, counted from the number's first byte.
-- Assumes nothing.
use mathlib.Core.Path.{◌≡◌, refl}
use mathlib.Core.List.{List, [], ◌∷◌, ◌++◌, map}
use Prim.Native.Nat.{ℕ, ◌+◌, ◌-◌, ◌^◌}
use lib.ListN.{replicate}
use Rattle.std.specs.Prelude.{Err}
use Rattle.numbers.specs.Reading.{numeral, Number, read_from, page_of, frame_of}
use Rattle.numbers.specs.declared.Fault.TheVariants.{Missing, NotShortest, TooLarge}

pub record Example : Type 0 where
  pub bytes : List ℕ
  pub page : Number
  pub frame : Number

abbrev reads : List ℕ → Number → Number → Example
reads bs p f = record { bytes = bs; page = p; frame = f }

abbrev pub examples : List Example
examples =
    -- P9
    reads (0x80 ∷ 0x01 ∷ []) (numeral 128 2) (numeral 128 2) ∷
    reads (0x80 ∷ 0x00 ∷ []) (Err (NotShortest 1)) (Err (NotShortest 1)) ∷
    reads (replicate 9 0xff ++ 0x01 ∷ []) (numeral (2 ^ 64 - 1) 10) (Err (TooLarge 4)) ∷
    reads (replicate 9 0xff ++ 0x02 ∷ []) (Err (TooLarge 9)) (Err (TooLarge 4)) ∷
    -- zero, and what follows a number
    reads (0x00 ∷ []) (numeral 0 1) (numeral 0 1) ∷
    reads (0x00 ∷ 0x07 ∷ []) (numeral 0 1) (numeral 0 1) ∷
    reads (0x7f ∷ 0xff ∷ []) (numeral 127 1) (numeral 127 1) ∷
    reads (0xac ∷ 0x02 ∷ 0x80 ∷ []) (numeral 300 2) (numeral 300 2) ∷
    -- the lowest group comes first
    reads (0x81 ∷ 0x82 ∷ 0x03 ∷ []) (numeral 49409 3) (numeral 49409 3) ∷
    -- bytes are missing
    reads [] (Err (Missing 0)) (Err (Missing 0)) ∷
    reads (0xff ∷ []) (Err (Missing 1)) (Err (Missing 1)) ∷
    reads (0x80 ∷ 0x80 ∷ 0x80 ∷ []) (Err (Missing 3)) (Err (Missing 3)) ∷
    reads (replicate 4 0xff) (Err (Missing 4)) (Err (Missing 4)) ∷
    reads (replicate 9 0xff) (Err (Missing 9)) (Err (TooLarge 4)) ∷
    -- the form is not the shortest
    reads (0x80 ∷ 0x80 ∷ 0x00 ∷ []) (Err (NotShortest 2)) (Err (NotShortest 2)) ∷
    reads (replicate 4 0xff ++ 0x00 ∷ []) (Err (NotShortest 4)) (Err (NotShortest 4)) ∷
    reads (replicate 9 0xff ++ 0x00 ∷ []) (Err (NotShortest 9)) (Err (TooLarge 4)) ∷
    -- the number is too large, also where the byte past the limit has its top bit set
    reads (replicate 9 0x80 ++ 0x80 ∷ 0x01 ∷ []) (Err (TooLarge 9)) (Err (TooLarge 4)) ∷
    reads (replicate 9 0xff ++ 0xff ∷ []) (Err (TooLarge 9)) (Err (TooLarge 4)) ∷
    reads (replicate 4 0xff ++ 0x0f ∷ []) (numeral (2 ^ 32 - 1) 5) (numeral (2 ^ 32 - 1) 5) ∷
    reads (replicate 4 0xff ++ 0x10 ∷ []) (numeral (2 ^ 32 + 2 ^ 28 - 1) 5) (Err (TooLarge 4)) ∷
    reads (replicate 4 0x80 ++ 0x80 ∷ 0x01 ∷ []) (numeral (2 ^ 35) 6) (Err (TooLarge 4)) ∷
    reads (replicate 9 0x80 ++ 0x01 ∷ []) (numeral (2 ^ 63) 10) (Err (TooLarge 4)) ∷ []

pub all_right : map (λ e. reads e.bytes (page_of e.bytes) (frame_of e.bytes)) examples ≡ examples
unfolding read_from
all_right = refl

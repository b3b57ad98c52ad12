-- The definitions, computed. Assumes nothing.
use mathlib.Core.Path.{◌≡◌, refl}
use mathlib.Core.List.{[], ◌∷◌}
use lib.ListN.{length}
use Rattle.rules.specs.declared.Side.TheVariants.{First as first}
use Rattle.rules.specs.Calls.{ghost, out, New, Stopped}
use Rattle.rules.specs.Program.{bytes, text_of}
use Rattle.lines.specs.Lines.{laid, line_room}

-- a text covers as many bytes as it has
pub over_two : laid 1 (7 ∷ 8 ∷ []) (0 ∷ 1 ∷ 2 ∷ 3 ∷ []) ≡ 0 ∷ 7 ∷ 8 ∷ 3 ∷ []
unfolding laid
over_two = refl

-- the longest line
pub longest : length (text_of (New (out 18446744073709551615 4294967295 (ghost first)) 0)) ≡ line_room
unfolding text_of
longest = refl

pub a_stop : text_of (Stopped 5 1023) ≡ bytes "stop 5 at 1023\n"
unfolding text_of
a_stop = refl

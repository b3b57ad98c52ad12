-- A number depends only on the bytes that its width allows: where these are there, what follows them changes nothing. One law over the width; pages and
-- frames are instances of it. Assumes nothing.
use mathlib.Core.Path.{◌≡◌, refl, ap}
use mathlib.Core.List.{List, [], ◌∷◌, ◌++◌}
use mathlib.Core.Bool.{cond}
use Prim.Native.Nat.{ℕ, zero, suc, ◌+◌, ◌<◌, ◌≤◌}
use native.Mathlib.Omega.{arith}
use lib.Dec.{ltb}
use lib.ListN.{length}
use Rattle.numbers.specs.Reading.{Number, read_from, page_of, frame_of, last_byte, group}

-- the law for every width
pub number_prefix : (limit n at : ℕ) (bs rest : List ℕ) → n < length bs → read_from limit n at (bs ++ rest) ≡ read_from limit n at bs
unfolding read_from
number_prefix limit zero at [] rest h =
    let z : ⊥ = omega arith in
    absurd z
number_prefix limit zero at (b ∷ bs) rest h = refl
number_prefix limit (suc n) at [] rest h =
    let z : ⊥ = omega arith in
    absurd z
number_prefix limit (suc n) at (b ∷ bs) rest h =
    ap (λ (r : Number). cond (ltb b 128) (last_byte at b) (group b r)) (number_prefix limit n (at + 1) bs rest (omega arith))

-- ---- the two widths
pub page_prefix : (bs rest : List ℕ) → 10 ≤ length bs → page_of (bs ++ rest) ≡ page_of bs
page_prefix bs rest h = number_prefix 1 9 0 bs rest (omega arith)

pub frame_prefix : (bs rest : List ℕ) → 5 ≤ length bs → frame_of (bs ++ rest) ≡ frame_of bs
frame_prefix bs rest h = number_prefix 15 4 0 bs rest (omega arith)

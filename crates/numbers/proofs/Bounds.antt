-- What every number that was read obeys: it is below its width's limit, and takes at least one byte, at most those that there are, and at most the
-- most that its width allows. One law over the width; pages and frames are instances of it. Assumes nothing.
use mathlib.Core.Path.{◌≡◌, refl, sym, subst}
use mathlib.Core.List.{List, [], ◌∷◌}
use mathlib.Core.Bool.{Bool, true, false, cond, ◌&&◌}
use Prim.Native.Nat.{ℕ, zero, suc, ◌+◌, ◌*◌, ◌^◌, ◌<◌, ◌≤◌}
use native.Mathlib.Omega.{arith}
use lib.Dec.{ltb, eqb}
use lib.ListN.{length}
use borrow.Author.Tests.{ltb-true, ltb-false}
use Rattle.std.specs.Prelude.{Ok, Err}
use Rattle.numbers.specs.Reading.{numeral, Number, read_from, page_of, frame_of, last_byte, group}
use Rattle.numbers.specs.Widths.{top}

-- a value below t, read up to the place u, past the place at, with n bytes there and at most m allowed
pub record Bounds (t at n m v u : ℕ) : Type 0 where
  pub below : v < t
  pub some : at < u
  pub there : u ≤ at + n
  pub allowed : u ≤ at + m

abbrev pub Bounded : ℕ → ℕ → ℕ → ℕ → Number → Type 0
Bounded t at n m (Ok r) = Bounds t at n m r.value r.used
Bounded t at n m (Err f) = Unit {0}

cond_elim : (P : Number → Type 0) (x : Bool) (a b : Number) → (x ≡ true → P a) → (x ≡ false → P b) → P (cond x a b)
cond_elim P true a b f g = f refl
cond_elim P false a b f g = g refl

top_pos : (limit n : ℕ) → 0 < top limit n
unfolding top
top_pos limit zero = omega arith
top_pos limit (suc n) = omega (arith, top_pos limit n)

last_bounded : (t at n m b : ℕ) → b < t → Bounded t at (suc n) (suc m) (last_byte at b)
last_bounded t at n m b h =
    cond_elim (Bounded t at (suc n) (suc m)) (eqb b 0 && ltb 0 at) _ _ (λ _. tt)
    (λ _. record { below = h; some = omega arith; there = omega arith; allowed = omega arith })

group_bounded : (t at n m b : ℕ) (r : Number) → Bounded t (at + 1) n m r → Bounded (128 * t) at (suc n) (suc m) (group b r)
group_bounded t at n m b (Ok r) h =
    record {
      below = omega (arith, h.below);
      some = omega (arith, h.some);
      there = omega (arith, h.there);
      allowed = omega (arith, h.allowed);
    }
group_bounded t at n m b (Err f) h = tt

pub bounded : (limit n at : ℕ) (bs : List ℕ) → Bounded (top limit n) at (length bs) (suc n) (read_from limit n at bs)
unfolding read_from top
bounded limit zero at [] = tt
bounded limit zero at (b ∷ bs) =
    cond_elim (Bounded (limit + 1) at (suc (length bs)) 1) (ltb limit b) _ _ (λ _. tt)
    (λ e. last_bounded (limit + 1) at (length bs) 0 b (omega (arith, ltb-false limit b e)))
bounded limit (suc n) at [] = tt
bounded limit (suc n) at (b ∷ bs) =
    cond_elim (Bounded (128 * top limit n) at (suc (length bs)) (suc (suc n))) (ltb b 128) _ _
    (λ e. last_bounded (128 * top limit n) at (length bs) (suc n) b (omega (arith, ltb-true b 128 e, top_pos limit n)))
    (λ _. group_bounded (top limit n) at (length bs) (suc n) b (read_from limit n (at + 1) bs) (bounded limit n (at + 1) bs))

-- the law for every width
pub number_bounds : (limit n : ℕ) (bs : List ℕ) (v u : ℕ) → numeral v u ≡ read_from limit n 0 bs → Bounds (top limit n) 0 (length bs) (suc n) v u
number_bounds limit n bs v u e = subst (Bounded (top limit n) 0 (length bs) (suc n)) (sym e) (bounded limit n 0 bs)

-- ---- the two widths
pub page_top : top 1 9 ≡ 2 ^ 64
unfolding top
page_top = refl

pub frame_top : top 15 4 ≡ 2 ^ 32
unfolding top
frame_top = refl

pub page_bounds : (bs : List ℕ) (v u : ℕ) → numeral v u ≡ page_of bs → Bounds (2 ^ 64) 0 (length bs) 10 v u
unfolding top
page_bounds bs v u e = number_bounds 1 9 bs v u e

pub frame_bounds : (bs : List ℕ) (v u : ℕ) → numeral v u ≡ frame_of bs → Bounds (2 ^ 32) 0 (length bs) 5 v u
unfolding top
frame_bounds bs v u e = number_bounds 15 4 bs v u e

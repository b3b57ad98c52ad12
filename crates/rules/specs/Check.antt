-- The state rules as tests of a state that compute: each is true of the well-formed states of its policy, and of no others (proofs/CheckLaws). Assumes nothing.
use Rattle.std.specs.Prelude.{ℕ, zero, suc, ◌+◌, ◌*◌, ◌^◌, List, [], ◌∷◌, ◌++◌, map, Bool, true, not, ◌&&◌, ltb, leb, eqb, length}
use Rattle.rules.specs.Lists.{times, holds}
use Rattle.rules.specs.State.{pages, Lists, residents, in_all, max_capacity}
use Rattle.rules.specs.Arc.{Arc}
use Rattle.rules.specs.Car.{Car, slots}

-- no number stands twice
unfoldable pub distinct : List ℕ → Bool
distinct [] = true
distinct (x ∷ l) = not (holds x l) && distinct l

-- each number is below n
unfoldable pub below : ℕ → List ℕ → Bool
below n [] = true
below n (x ∷ l) = ltb x n && below n l

-- each number below n stands once
unfoldable pub once_each : ℕ → List ℕ → Bool
once_each zero l = true
once_each (suc n) l = eqb (times n l) 1 && once_each n l

module _ {X : Type 0} where
  abbrev pub all_pages : Lists X → List ℕ
  all_pages s = pages s.T1 ++ pages s.T2 ++ s.B1 ++ s.B2

  abbrev pub all_frames : Lists X → List ℕ
  all_frames s = map (λ e. e.frame) (s.T1 ++ s.T2)

  unfoldable pub sound_test : Lists X → Bool
  sound_test s =
      distinct (all_pages s)
      && (leb (residents s) s.c && (leb (length s.B1) s.c && (leb (length s.B2) s.c && leb s.target s.c)))

  unfoldable pub ranged_test : Lists X → Bool
  ranged_test s = leb s.c max_capacity && (below (2 ^ 64) (all_pages s) && below (2 ^ 32) (all_frames s))

unfoldable pub arc_test : Arc → Bool
arc_test s =
    sound_test s && (ranged_test s && (leb (length s.T1 + length s.B1) (s.c + 1) && leb (in_all s) (2 * s.c + 1)))

unfoldable pub car_test : Car → Bool
car_test s =
    let k = slots s.lists.T1 ++ slots s.lists.T2 ++ s.free in
    sound_test s.lists && (ranged_test s.lists && (below s.lists.c k && once_each s.lists.c k))

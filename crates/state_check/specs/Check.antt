-- The test of an area, for any words of any length (RULES 2). Assumes nothing.
use Rattle.std.specs.Prelude.{◌≡◌, Bool, true, false, cond, List, [], ◌∷◌, ℕ, ◌+◌, ◌*◌, ◌^◌, ◌<◌, ◌≤◌, eqb, ltb, leb, length, get_or}
use Rattle.cells.specs.Cells.{prev_of}
use Rattle.rings.specs.Rings.{Ring, members_of}
use Rattle.tails.specs.Tails.{tail_of}
use Rattle.residents.specs.Residents as residents
use Rattle.residents.specs.Tests.{residents_test}
use Rattle.ghosts.specs.Ghosts as ghosts
use Rattle.ghosts.specs.Ghosts.{ghosts_test}
use Rattle.lookup.specs.Buckets.{buckets_of, places_of}
use Rattle.lookup.specs.Part.{links_of, Room}
use Rattle.lookup_check.specs.Check.{lookup_test}
use Rattle.area_state.specs.Parts.{Parts}
use Rattle.rules.specs.declared.Side.{Side}
use Rattle.area.specs.Area.{kind_of, capacity_of, target_of, end_at, ghosts_in, parts_of}

-- words of 64 bits, as every slice of u64 has them
abbrev pub Words : List ℕ → Type 0
Words w = (i : ℕ) → get_or w i 0 < 2 ^ 64

-- ---- the lists: the residents, and both ghost lists
unfoldable pub lists_test : ℕ → Parts → Bool
lists_test c p = cond (residents_test p.residents c) (cond (ghosts_test p.ghosts1 c) (ghosts_test p.ghosts2 c) false) false

-- ---- the lookup: it holds as many places as the four lists have
-- how many pages T1 and B1 have by their counts; how many T1, T2, B1 and B2 have
unfoldable pub row_count : Parts → ℕ
row_count p = residents.count_of p.residents 0 + ghosts.count_of p.ghosts1

unfoldable pub live_count : Parts → ℕ
live_count p = residents.count_of p.residents 0 + residents.count_of p.residents 1 + ghosts.count_of p.ghosts1 + ghosts.count_of p.ghosts2

unfoldable pub held_test : ℕ → Parts → Bool
held_test c p = lookup_test p.lookup (places_of c) (buckets_of c) (live_count p)

-- ---- the others: the places of the free slots and of the spare cells are dead
-- the place x of a lookup's words k with m places stands before itself
unfoldable pub dead_at : List ℕ → ℕ → ℕ → Bool
dead_at k m x = eqb (prev_of (links_of m k) x) x

-- the place of a slot or a cell x, which is `from` + x
unfoldable pub dead_from : List ℕ → ℕ → ℕ → ℕ → Bool
dead_from k c from x = dead_at k (places_of c) (from + x)

-- each of these, once `from` is added
abbrev pub deads_test : List ℕ → ℕ → ℕ → List ℕ → Bool
deads_test k m from [] = true
deads_test k m from (x ∷ xs) = cond (dead_at k m (from + x)) (deads_test k m from xs) false

unfoldable pub dead_test : ℕ → Parts → Bool
dead_test c p =
    cond (deads_test p.lookup (places_of c) 0 (residents.lists_of p.residents c 2))
    (cond (deads_test p.lookup (places_of c) c (ghosts.spare_of p.ghosts1 c))
    (deads_test p.lookup (places_of c) (2 * c) (ghosts.spare_of p.ghosts2 c))
    false)
    false

-- ---- "for ARC also T1+B1 <= c+1 and all four lists together <= 2c+1" (RULES 2.7)
unfoldable pub sums_test : ℕ → ℕ → Parts → Bool
sums_test kind c p = cond (eqb kind 1) (cond (ltb (c + 1) (row_count p)) false (leb (live_count p) (2 * c + 1))) true

-- ---- the parts together
unfoldable pub parts_test : ℕ → ℕ → Parts → Bool
parts_test kind c p = cond (lists_test c p) (cond (dead_test c p) (cond (sums_test kind c p) (held_test c p) false) false) false

-- THE TEST: the header, and then the parts
unfoldable pub state_test : ℕ → List ℕ → Bool
state_test kind w =
    cond (ltb (length w) 64) false
    (cond (eqb (kind_of w) kind)
    (cond (ltb 1024 (capacity_of w)) false
    (cond (ltb (length w) (end_at (capacity_of w))) false
    (cond (ltb (capacity_of w) (target_of w)) false
    (parts_test kind (capacity_of w) (parts_of (capacity_of w) w)))))
    false)

-- ---- what the functions ask
-- an area with words for a cache of capacity c; one whose lists have passed
pub record Fits (c : ℕ) (w : List ℕ) : Type 0 where
  pub small : c ≤ 1024
  pub size : end_at c ≤ length w

pub record Listed (c : ℕ) (w : List ℕ) : Type 0 where
  pub fits : Fits c w
  pub lists : lists_test c (parts_of c w) ≡ true

-- the number n, which is a count, is small
pub record Few (n r : ℕ) : Type 0 where
  pub is : r ≡ n
  pub small : r ≤ 1024

-- a ring in the words of w from a on, and a lookup k
pub record CanTell (w : List ℕ) (a : ℕ) (k : List ℕ) (c s from : ℕ) : Type 0 where
  pub small : c ≤ 1024
  pub within : a ≤ length w
  pub ring : Ring (tail_of a w) c s (members_of (tail_of a w) c s)
  pub lookup : Room k (places_of c) (buckets_of c)
  pub first : from ≤ 2 * c

-- that, and how many members the ring has
pub record CanTellAll (w : List ℕ) (a : ℕ) (k : List ℕ) (c s from n : ℕ) : Type 0 where
  pub tell : CanTell w a k c s from
  pub count : length (members_of (tail_of a w) c s) ≡ n

-- the ghost list of a side, whose first cell has the place `from`
pub record CanSpare (c : ℕ) (w : List ℕ) (i : Side) (from : ℕ) : Type 0 where
  pub small : c ≤ 1024
  pub size : end_at c ≤ length w
  pub first : from ≤ 2 * c
  pub ghosts : ghosts.IsGhosts (ghosts_in i c w) c

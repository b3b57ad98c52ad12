-- A ghost list of capacity c in a part of words: the count, then the links of the cells 0 to c - 1 and of the sentinels c, of the list, and c + 1, of the spare cells.
-- Assumes nothing.
use Rattle.std.specs.Prelude.{◌≡◌, Bool, true, false, cond, List, [], ◌∷◌, ℕ, ◌+◌, ◌-◌, ◌<◌, ◌≤◌, length, get_or, set, ltb}
use Rattle.cells.specs.Cells.{In, next_of, prev_of}
use Rattle.rings.specs.Members.{Mem, last_of, without_last}
use Rattle.rings.specs.Rings.{Ring, members_of, fronted, emptied, filled}
use Rattle.rings.specs.Walks.{ring_test}
use Rattle.tails.specs.Tails.{tail_of, with_tail}

-- the count, and the links
unfoldable pub count_of : List ℕ → ℕ
count_of w = get_or w 0 0

abbrev pub links_of : List ℕ → List ℕ
links_of w = tail_of 1 w

-- the part w with the count n and the links l
unfoldable pub ghost_words : ℕ → List ℕ → List ℕ → List ℕ
ghost_words n l w = set (with_tail 1 l w) 0 n

-- the words that a ghost list of capacity c takes are there
pub record Room (w : List ℕ) (c : ℕ) : Type 0 where
  pub small : c ≤ 1024
  pub head : 1 ≤ length w
  pub links : In (links_of w) (c + 1)

-- THE PART READS AS the list of its cells, newest first, and the spare cells in the order in which they are taken
pub record Ghosts (w : List ℕ) (c : ℕ) (live spare : List ℕ) : Type 0 where
  pub room : Room w c
  pub count : count_of w ≡ length live
  pub list : Ring (links_of w) c c live
  pub spares : Ring (links_of w) c (c + 1) spare
  pub all : length live + length spare ≡ c

-- the two lists as functions of the words
unfoldable pub live_of : List ℕ → ℕ → List ℕ
live_of w c = members_of (links_of w) c c

unfoldable pub spare_of : List ℕ → ℕ → List ℕ
spare_of w c = members_of (links_of w) c (c + 1)

abbrev pub IsGhosts : List ℕ → ℕ → Type 0
IsGhosts w c = Ghosts w c (live_of w c) (spare_of w c)

-- the part has the count n
pub record Counted (w : List ℕ) (c n : ℕ) : Type 0 where
  pub room : Room w c
  pub count : n ≡ count_of w

-- what each change asks
pub record CanRecord (w : List ℕ) (c : ℕ) : Type 0 where
  pub some : 0 < c
  pub ghosts : IsGhosts w c

pub record CanForget (w : List ℕ) (c e : ℕ) : Type 0 where
  pub ghosts : IsGhosts w c
  pub member : Mem e (live_of w c)

-- a page is recorded: the cell that it gets, and the count, by whether a cell is spare
abbrev pub cell_for : Bool → ℕ → List ℕ → ℕ
cell_for true c l = next_of l (c + 1)
cell_for false c l = prev_of l c

abbrev pub count_for : Bool → ℕ → ℕ
count_for true n = n + 1
count_for false n = n

unfoldable pub record_cell : ℕ → List ℕ → ℕ
record_cell c w = cell_for (ltb (count_of w) c) c (links_of w)

unfoldable pub recorded : ℕ → List ℕ → List ℕ
recorded c w = ghost_words (count_for (ltb (count_of w) c) (count_of w)) (fronted c (record_cell c w) (links_of w)) w

pub record Recorded (w v : List ℕ) (c r : ℕ) : Type 0 where
  pub cell : r ≡ record_cell c w
  pub words : v ≡ recorded c w

-- and what that is on the two lists: a spare cell, or the oldest
abbrev pub cell_of : List ℕ → List ℕ → ℕ
cell_of live [] = last_of 0 live
cell_of live (x ∷ xs) = x

abbrev pub live_after : List ℕ → List ℕ → List ℕ
live_after live [] = last_of 0 live ∷ without_last live
live_after live (x ∷ xs) = x ∷ live

abbrev pub spare_after : List ℕ → List ℕ
spare_after [] = []
spare_after (x ∷ xs) = xs

-- the cell e of the list goes to the spares
unfoldable pub forgotten : ℕ → ℕ → List ℕ → List ℕ
forgotten c e w = ghost_words (count_of w - 1) (fronted (c + 1) e (links_of w)) w

-- an empty list
unfoldable pub made : ℕ → List ℕ → List ℕ
made c w = ghost_words 0 (filled (c + 1) c (emptied c (links_of w))) w

-- THE TEST: the list has as many cells as the count says, and the spares are the others
unfoldable pub ghosts_test : List ℕ → ℕ → Bool
ghosts_test w c =
    cond (ltb c (count_of w)) false
    (cond (ring_test (links_of w) c c (count_of w)) (ring_test (links_of w) c (c + 1) (c - count_of w)) false)

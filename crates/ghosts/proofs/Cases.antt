-- The definitions at work, with capacity 2: the count, two cells, the sentinel of the list (cell 2) and that of the spares (cell 3). Assumes nothing.
use mathlib.Core.Path.{◌≡◌, refl}
use mathlib.Core.Bool.{true, false}
use mathlib.Core.List.{List, [], ◌∷◌}
use Prim.Native.Nat.{ℕ}
use Rattle.cells.specs.Cells.{next_of, prev_of, with_next, with_prev}
use Rattle.rings.specs.Rings.{members_from, inserted, detached, fronted, emptied, linked, chained, filled}
use Rattle.rings.specs.Walks.{joined, ahead, behind, ring_test}
use Rattle.tails.specs.Tails.{tail_of, with_tail}
use Rattle.ghosts.specs.Ghosts as G

-- whatever the words were
pub new : List ℕ
new = 0 ∷ 1 ∷ 3 ∷ 3 ∷ 0 ∷ 2 ∷ 2 ∷ 0 ∷ 1 ∷ []

pub new_made : G.made 2 (9 ∷ 9 ∷ 9 ∷ 9 ∷ 9 ∷ 9 ∷ 9 ∷ 9 ∷ 9 ∷ []) ≡ new
unfolding new G.made G.ghost_words tail_of with_tail filled chained linked emptied inserted next_of prev_of with_next with_prev
new_made = refl

-- two pages recorded: cell 0, then cell 1, which is the newest
pub two : List ℕ
two = 2 ∷ 2 ∷ 1 ∷ 0 ∷ 2 ∷ 1 ∷ 0 ∷ 3 ∷ 3 ∷ []

pub two_recorded : G.recorded 2 (G.recorded 2 new) ≡ two
unfolding new two G.recorded G.record_cell G.count_of G.ghost_words tail_of with_tail fronted detached inserted next_of prev_of with_next with_prev
two_recorded = refl

-- the list is full: the third page gets the cell of the oldest
pub third_cell : G.record_cell 2 two ≡ 0
unfolding two G.record_cell G.count_of tail_of next_of prev_of
third_cell = refl

pub third_recorded : G.live_of (G.recorded 2 two) 2 ≡ 0 ∷ 1 ∷ []
unfolding two G.live_of members_from G.recorded G.record_cell G.count_of G.ghost_words tail_of with_tail fronted detached inserted next_of prev_of with_next with_prev
third_recorded = refl

-- the oldest forgotten: its cell is spare
pub forgotten_live : G.live_of (G.forgotten 2 0 two) 2 ≡ 1 ∷ []
unfolding two G.live_of members_from G.forgotten G.count_of G.ghost_words tail_of with_tail fronted detached inserted next_of prev_of with_next with_prev
forgotten_live = refl

pub forgotten_spare : G.spare_of (G.forgotten 2 0 two) 2 ≡ 0 ∷ []
unfolding two G.spare_of members_from G.forgotten G.count_of G.ghost_words tail_of with_tail fronted detached inserted next_of prev_of with_next with_prev
forgotten_spare = refl

-- the test, and the test with a count that is one short
pub passes : G.ghosts_test two 2 ≡ true
unfolding two G.ghosts_test G.count_of ring_test joined ahead behind tail_of next_of prev_of
passes = refl

pub fails : G.ghosts_test (1 ∷ 2 ∷ 1 ∷ 0 ∷ 2 ∷ 1 ∷ 0 ∷ 3 ∷ 3 ∷ []) 2 ≡ false
unfolding G.ghosts_test G.count_of ring_test joined ahead behind tail_of next_of prev_of
fails = refl

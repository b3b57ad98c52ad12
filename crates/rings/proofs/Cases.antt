-- The definitions at work: two members, the sentinel is cell 2. A cell's words are the cell after it and the cell before it. Assumes nothing.
use mathlib.Core.Path.{◌≡◌, refl}
use mathlib.Core.Bool.{true, false}
use mathlib.Core.List.{[], ◌∷◌}
use Rattle.cells.specs.Cells.{next_of, prev_of, with_next, with_prev}
use Rattle.rings.specs.Rings.{members_from, members_of, inserted, detached, fronted, ended, replaced, linked, chained, filled}
use Rattle.rings.specs.Walks.{joined, ahead, behind, ring_test}

-- whatever the words were
pub two : filled 2 2 (9 ∷ 9 ∷ 9 ∷ 9 ∷ 9 ∷ 9 ∷ []) ≡ 1 ∷ 2 ∷ 2 ∷ 0 ∷ 0 ∷ 1 ∷ []
unfolding filled chained linked with_next with_prev
two = refl

pub two_members : members_of (1 ∷ 2 ∷ 2 ∷ 0 ∷ 0 ∷ 1 ∷ []) 2 2 ≡ 0 ∷ 1 ∷ []
unfolding members_from next_of
two_members = refl

pub second_to_front : members_of (fronted 2 1 (1 ∷ 2 ∷ 2 ∷ 0 ∷ 0 ∷ 1 ∷ [])) 2 2 ≡ 1 ∷ 0 ∷ []
unfolding members_from fronted detached inserted next_of prev_of with_next with_prev
second_to_front = refl

pub first_to_end : members_of (ended 2 0 (1 ∷ 2 ∷ 2 ∷ 0 ∷ 0 ∷ 1 ∷ [])) 2 2 ≡ 1 ∷ 0 ∷ []
unfolding members_from ended detached inserted next_of prev_of with_next with_prev
first_to_end = refl

-- cell 1 in the place of cell 0, which was alone
pub in_place : members_of (replaced 0 1 (2 ∷ 2 ∷ 9 ∷ 9 ∷ 0 ∷ 0 ∷ [])) 2 2 ≡ 1 ∷ []
unfolding members_from replaced detached inserted next_of prev_of with_next with_prev
in_place = refl

pub tested : ring_test (1 ∷ 2 ∷ 2 ∷ 0 ∷ 0 ∷ 1 ∷ []) 2 2 2 ≡ true
unfolding ring_test joined ahead behind next_of prev_of
tested = refl

-- one more than it has, and one less; and a link back that leads astray
pub too_many : ring_test (1 ∷ 2 ∷ 2 ∷ 0 ∷ 0 ∷ 1 ∷ []) 2 2 3 ≡ false
unfolding ring_test joined ahead behind next_of prev_of
too_many = refl

pub too_few : ring_test (1 ∷ 2 ∷ 2 ∷ 0 ∷ 0 ∷ 1 ∷ []) 2 2 1 ≡ false
unfolding ring_test joined ahead behind next_of prev_of
too_few = refl

pub no_way_back : ring_test (1 ∷ 2 ∷ 2 ∷ 2 ∷ 0 ∷ 1 ∷ []) 2 2 2 ≡ false
unfolding ring_test joined ahead behind next_of prev_of
no_way_back = refl

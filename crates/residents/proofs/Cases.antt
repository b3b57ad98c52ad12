-- The definitions at work, with capacity 2: three counts, two frames, list numbers and bits, the links of two slots and of the sentinels 2 (T1), 3 (T2) and 4 (free). Assumes nothing.
use mathlib.Core.Path.{◌≡◌, refl}
use mathlib.Core.Bool.{true, false}
use mathlib.Core.List.{List, [], ◌∷◌}
use Prim.Native.Nat.{ℕ}
use Rattle.cells.specs.Cells.{next_of, prev_of, with_next, with_prev}
use Rattle.rings.specs.Rings.{members_from, inserted, detached, fronted, emptied, linked, chained, filled}
use Rattle.rings.specs.Walks.{joined, ahead, behind, ring_test}
use Rattle.tails.specs.Tails.{tail_of, with_tail}
use Rattle.residents.specs.Residents as R
use Rattle.residents.specs.Changes as C
use Rattle.residents.specs.Tests as T

-- whatever the words were
pub new : List ℕ
new = 0 ∷ 0 ∷ 2 ∷ 9 ∷ 9 ∷ 9 ∷ 9 ∷ 9 ∷ 9 ∷ 1 ∷ 4 ∷ 4 ∷ 0 ∷ 2 ∷ 2 ∷ 3 ∷ 3 ∷ 0 ∷ 1 ∷ []

pub new_made : C.made 2 (9 ∷ 9 ∷ 9 ∷ 9 ∷ 9 ∷ 9 ∷ 9 ∷ 9 ∷ 9 ∷ 9 ∷ 9 ∷ 9 ∷ 9 ∷ 9 ∷ 9 ∷ 9 ∷ 9 ∷ 9 ∷ 9 ∷ []) ≡ new
unfolding new C.made C.fresh_links tail_of with_tail filled chained linked emptied inserted next_of prev_of with_next with_prev
new_made = refl

-- frames 10 and 11 at the front of T1: slot 0, then slot 1
pub two : List ℕ
two = 2 ∷ 0 ∷ 0 ∷ 10 ∷ 11 ∷ 0 ∷ 0 ∷ 0 ∷ 0 ∷ 2 ∷ 1 ∷ 0 ∷ 2 ∷ 1 ∷ 0 ∷ 3 ∷ 3 ∷ 4 ∷ 4 ∷ []

pub two_added : C.added_front 2 0 11 0 (C.added_front 2 0 10 0 new) ≡ two
unfolding new two C.added_front C.top_of C.with_slot C.with_frame C.with_list C.with_bit C.shifted C.recounted R.count_of tail_of with_tail fronted detached inserted next_of prev_of with_next with_prev
two_added = refl

pub two_lists : R.lists_of two 2 0 ≡ 1 ∷ 0 ∷ []
unfolding two R.lists_of members_from tail_of next_of
two_lists = refl

-- slot 0 to the front of T2, and then freed: it is the next to be taken
pub promoted_list : R.lists_of (C.promoted 2 0 two) 2 1 ≡ 0 ∷ []
unfolding two R.lists_of C.promoted C.with_list C.shifted C.recounted R.count_of R.list_of members_from tail_of with_tail fronted detached inserted next_of prev_of with_next with_prev
promoted_list = refl

pub freed_top : R.lists_of (C.freed 2 0 (C.freed 2 1 two)) 2 2 ≡ 0 ∷ 1 ∷ []
unfolding two R.lists_of C.freed C.shifted C.recounted R.count_of R.list_of members_from tail_of with_tail fronted detached inserted next_of prev_of with_next with_prev
freed_top = refl

-- the test, and the test with a list number that is wrong
pub passes : T.residents_test two 2 ≡ true
unfolding two T.residents_test T.counts_test T.side_test T.ring_at T.slot_test R.count_of R.frame_of R.list_of R.bit_of R.lists_of ring_test joined ahead behind members_from tail_of next_of prev_of
passes = refl

pub fails : T.residents_test (C.with_list 2 0 1 two) 2 ≡ false
unfolding two C.with_list T.residents_test T.counts_test T.side_test T.ring_at T.slot_test R.count_of R.frame_of R.list_of R.bit_of R.lists_of ring_test joined ahead behind members_from tail_of next_of prev_of
fails = refl

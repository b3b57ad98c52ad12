-- The definitions at work: two places and one bucket, so that every page belongs there. The words: two pages, then a cell's next and prev for the places 0 and 1 and the sentinel 2. Assumes nothing.
use Rattle.std.proofs.Common.{◌≡◌, [], ◌∷◌, refl}
use Rattle.cells.specs.Cells.{next_of, prev_of, with_next, with_prev}
use Rattle.rings.specs.Rings.{members_from, inserted, detached, replaced, emptied}
use Rattle.lookup.specs.Buckets.{bucket_of}
use Rattle.lookup.specs.Part.{links_of, in_links}
use Rattle.lookup.specs.Lookup.{bucket_in, find_of, at, none, look}
use Rattle.lookup.specs.Changes.{unlinked, handed_over, deadened, cleared, blank, put_in, taken, renamed, made}

-- whatever the words were; pages, and the cell after a dead place, stay
pub fresh_made : made 2 1 (9 ∷ 9 ∷ 9 ∷ 9 ∷ 9 ∷ 9 ∷ 9 ∷ 9 ∷ []) ≡ 9 ∷ 9 ∷ 9 ∷ 0 ∷ 9 ∷ 1 ∷ 2 ∷ 2 ∷ []
unfolding made in_links blank deadened cleared emptied next_of prev_of with_next with_prev
fresh_made = refl

-- the bucket is empty: page 5 comes before the sentinel
pub first_belongs : find_of (9 ∷ 9 ∷ 9 ∷ 0 ∷ 9 ∷ 1 ∷ 2 ∷ 2 ∷ []) 2 1 5 ≡ 2
unfolding find_of bucket_of bucket_in members_from links_of next_of
first_belongs = refl

pub first_put : put_in 2 2 1 5 (9 ∷ 9 ∷ 9 ∷ 0 ∷ 9 ∷ 1 ∷ 2 ∷ 2 ∷ []) ≡ 9 ∷ 5 ∷ 9 ∷ 0 ∷ 2 ∷ 2 ∷ 1 ∷ 1 ∷ []
unfolding put_in in_links inserted next_of prev_of with_next with_prev
first_put = refl

-- page 3 belongs before page 5
pub second_belongs : find_of (9 ∷ 5 ∷ 9 ∷ 0 ∷ 2 ∷ 2 ∷ 1 ∷ 1 ∷ []) 2 1 3 ≡ 1
unfolding find_of bucket_of bucket_in members_from links_of next_of
second_belongs = refl

pub second_put : bucket_in (put_in 2 1 0 3 (9 ∷ 5 ∷ 9 ∷ 0 ∷ 2 ∷ 2 ∷ 1 ∷ 1 ∷ [])) 2 0 ≡ 0 ∷ 1 ∷ []
unfolding bucket_in members_from links_of put_in in_links inserted next_of prev_of with_next with_prev
second_put = refl

-- answers: the page is there; another page is not; the page of a dead place is not
pub found_there : look (9 ∷ 5 ∷ 9 ∷ 0 ∷ 2 ∷ 2 ∷ 1 ∷ 1 ∷ []) 2 1 5 ≡ at 1
unfolding look find_of bucket_of bucket_in members_from links_of next_of
found_there = refl

pub not_there : look (9 ∷ 5 ∷ 9 ∷ 0 ∷ 2 ∷ 2 ∷ 1 ∷ 1 ∷ []) 2 1 3 ≡ none
unfolding look find_of bucket_of bucket_in members_from links_of next_of
not_there = refl

pub dead_not_there : look (9 ∷ 5 ∷ 9 ∷ 0 ∷ 2 ∷ 2 ∷ 1 ∷ 1 ∷ []) 2 1 9 ≡ none
unfolding look find_of bucket_of bucket_in members_from links_of next_of
dead_not_there = refl

-- page 5 comes from place 1 to place 0, and then goes
pub renamed_there : renamed 2 1 0 (9 ∷ 5 ∷ 9 ∷ 0 ∷ 2 ∷ 2 ∷ 1 ∷ 1 ∷ []) ≡ 5 ∷ 5 ∷ 2 ∷ 2 ∷ 2 ∷ 1 ∷ 0 ∷ 0 ∷ []
unfolding renamed in_links handed_over replaced detached inserted next_of prev_of with_next with_prev
renamed_there = refl

pub taken_out : taken 2 0 (5 ∷ 5 ∷ 2 ∷ 2 ∷ 2 ∷ 1 ∷ 0 ∷ 0 ∷ []) ≡ 5 ∷ 5 ∷ 2 ∷ 0 ∷ 2 ∷ 1 ∷ 2 ∷ 2 ∷ []
unfolding taken in_links unlinked detached next_of prev_of with_next with_prev
taken_out = refl

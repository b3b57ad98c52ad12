-- The test at work, on words with two places and one bucket: two pages, then a cell's next and prev for the places 0 and 1 and the sentinel 2.
-- The bucket has the places 0 and 1, with the pages 3 and 5. Assumes nothing.
use mathlib.Core.Path.{◌≡◌, refl}
use mathlib.Core.Bool.{true, false}
use mathlib.Core.List.{[], ◌∷◌}
use Rattle.cells.specs.Cells.{next_of, prev_of}
use Rattle.lookup.specs.Buckets.{bucket_of}
use Rattle.lookup.specs.Part.{links_of}
use Rattle.lookup_check.specs.Check.{least_after, suits_test, closing, walk_of, walks_of, lookup_test}

pub two_held : lookup_test (3 ∷ 5 ∷ 1 ∷ 2 ∷ 2 ∷ 0 ∷ 0 ∷ 1 ∷ []) 2 1 2 ≡ true
unfolding lookup_test walks_of walk_of closing suits_test least_after bucket_of links_of next_of prev_of
two_held = refl

-- more than there are, and fewer
pub three_wanted : lookup_test (3 ∷ 5 ∷ 1 ∷ 2 ∷ 2 ∷ 0 ∷ 0 ∷ 1 ∷ []) 2 1 3 ≡ false
unfolding lookup_test walks_of walk_of closing suits_test least_after bucket_of links_of next_of prev_of
three_wanted = refl

pub one_wanted : lookup_test (3 ∷ 5 ∷ 1 ∷ 2 ∷ 2 ∷ 0 ∷ 0 ∷ 1 ∷ []) 2 1 1 ≡ false
unfolding lookup_test walks_of walk_of closing suits_test least_after bucket_of links_of next_of prev_of
one_wanted = refl

-- the same page twice; a link back that leads astray; of two buckets, a page in the one that it does not belong to
pub page_twice : lookup_test (5 ∷ 5 ∷ 1 ∷ 2 ∷ 2 ∷ 0 ∷ 0 ∷ 1 ∷ []) 2 1 2 ≡ false
unfolding lookup_test walks_of walk_of closing suits_test least_after bucket_of links_of next_of prev_of
page_twice = refl

pub no_way_back : lookup_test (3 ∷ 5 ∷ 1 ∷ 2 ∷ 2 ∷ 2 ∷ 0 ∷ 1 ∷ []) 2 1 2 ≡ false
unfolding lookup_test walks_of walk_of closing suits_test least_after bucket_of links_of next_of prev_of
no_way_back = refl

pub wrong_bucket : lookup_test (3 ∷ 6 ∷ 1 ∷ 3 ∷ 3 ∷ 0 ∷ 2 ∷ 2 ∷ 0 ∷ 1 ∷ []) 2 2 2 ≡ false
unfolding lookup_test walks_of walk_of closing suits_test least_after bucket_of links_of next_of prev_of
wrong_bucket = refl

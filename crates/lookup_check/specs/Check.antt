-- The test of a lookup, for any words: the walk of each bucket, with what is left of a budget handed from one to the next. Assumes nothing.
use Rattle.std.specs.Prelude.{◌≡◌, Bool, false, cond, List, ℕ, zero, suc, ◌+◌, ◌-◌, ◌<◌, length, eqb, ltb, leb, Option, Some, None}
use Rattle.cells.specs.Cells.{next_of, prev_of}
use Rattle.lookup.specs.declared.Divisor.{Divisor}
use Rattle.lookup.specs.Buckets.{bucket_of}
use Rattle.lookup.specs.Dividing.{Divides}
use Rattle.lookup.specs.Part.{page_of, links_of, Room}
use Rattle.lookup.specs.Lookup.{Lookup, places_in}

-- the least page that may follow the cell a: above the page of a, where a is a place
unfoldable pub least_after : List ℕ → ℕ → ℕ → ℕ
least_after w m a = cond (ltb a m) (suc (page_of w a)) 0

-- whether the place x may follow the cell a in bucket b
unfoldable pub suits_test : List ℕ → ℕ → ℕ → ℕ → ℕ → ℕ → Bool
suits_test w m k b a x = cond (eqb (bucket_of k (page_of w x)) b) (leb (least_after w m a) (page_of w x)) false

-- the walk has come to a, after which no place follows: it ends well at the sentinel s
unfoldable pub closing : List ℕ → ℕ → ℕ → ℕ → Option ℕ
closing l s left a = cond (eqb (next_of l a) s) (cond (eqb (prev_of l s) a) (Some left) None) None

-- the walk of bucket b from the cell a on, with at most `left` places to come
abbrev pub walk_from : List ℕ → ℕ → ℕ → ℕ → ℕ → ℕ → Option ℕ
walk_from w m k b zero a = cond (ltb (next_of (links_of m w) a) m) None (closing (links_of m w) (m + b) 0 a)
walk_from w m k b (suc left) a =
    cond (ltb (next_of (links_of m w) a) m)
    (cond (eqb (prev_of (links_of m w) (next_of (links_of m w) a)) a)
    (cond (suits_test w m k b a (next_of (links_of m w) a)) (walk_from w m k b left (next_of (links_of m w) a)) None)
    None)
    (closing (links_of m w) (m + b) (suc left) a)

-- the walk of bucket b
unfoldable pub walk_of : List ℕ → ℕ → ℕ → ℕ → ℕ → Option ℕ
walk_of w m k b most = walk_from w m k b most (m + b)

-- the walks of the first n buckets, one after the other
abbrev pub walk_on : List ℕ → ℕ → ℕ → ℕ → Option ℕ → Option ℕ
walk_on w m k b (Some left) = walk_of w m k b left
walk_on w m k b None = None

unfoldable pub walks_of : List ℕ → ℕ → ℕ → ℕ → ℕ → Option ℕ
walks_of w m k live zero = Some live
walks_of w m k live (suc n) = walk_on w m k n (walks_of w m k live n)

-- whether nothing is left
abbrev pub used_up : Option ℕ → Bool
used_up (Some left) = eqb left 0
used_up None = false

-- THE TEST: the words are a lookup that holds exactly `live` places
unfoldable pub lookup_test : List ℕ → ℕ → ℕ → ℕ → Bool
lookup_test w m k live = used_up (walks_of w m k live k)

-- which the test tells: proofs/Exact.antt has both directions
pub record Holding (w : List ℕ) (m k live : ℕ) : Type 0 where
  pub table : Lookup w m k
  pub count : length (places_in w m k) ≡ live

-- A BUCKET OF ONE PLACE OR NONE: the cell x stands both after and before the sentinel of bucket b. The page to test for x: of a place
-- its page p; of a sentinel the number of its bucket, which belongs to that bucket and to no other
unfoldable pub shown_page : ℕ → ℕ → ℕ → ℕ
shown_page m x p = cond (ltb x m) p (x - m)

-- 1 where x is a place, 0 where it is a sentinel
unfoldable pub places_at : ℕ → ℕ → ℕ
places_at m x = cond (ltb x m) 1 0

-- whether x is alone in bucket b: a cell after which and before which the sentinel stands, and that shows a page of the bucket
unfoldable pub alone_test : List ℕ → ℕ → ℕ → ℕ → ℕ → Bool
alone_test w m k b x =
    cond (ltb x (m + k))
    (cond (eqb (next_of (links_of m w) x) (m + b)) (cond (eqb (prev_of (links_of m w) x) (m + b)) (eqb (bucket_of k (shown_page m x (page_of w x))) b) false) false)
    false

-- what the functions ask of the words: a bucket; a bucket with the cell x first and another, z, last; a place that is not the last
pub record CanWalk (w : List ℕ) (m : ℕ) (d : Divisor) (b : ℕ) : Type 0 where
  pub room : Room w m d.k
  pub divides : Divides d
  pub bucket : b < d.k

pub record CanPass (w : List ℕ) (m : ℕ) (d : Divisor) (b x z : ℕ) : Type 0 where
  pub walk : CanWalk w m d b
  pub first : x ≡ next_of (links_of m w) (m + b)
  pub last : z ≡ prev_of (links_of m w) (m + b)
  pub other : x ≡ z → ⊥

pub record CanGoOn (w : List ℕ) (m : ℕ) (d : Divisor) (b z a : ℕ) : Type 0 where
  pub walk : CanWalk w m d b
  pub place : a < m
  pub last : z ≡ prev_of (links_of m w) (m + b)
  pub other : a ≡ z → ⊥

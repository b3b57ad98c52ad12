-- The lookup: m places and k buckets. Bucket b is the ring of the sentinel m + b; its places stand in strictly rising order of their
-- pages, and each page is in the bucket that it belongs to. A place in no bucket stands before itself. Assumes nothing.
use Rattle.std.specs.Prelude.{◌≡◌, ℕ, suc, ◌+◌, ◌<◌, ◌≤◌, cond, List, [], ◌∷◌, ◌==◌, nat_lt, Option, Some, None}
use Rattle.cells.specs.Cells.{prev_of}
use Rattle.rings.specs.Members.{Mem, Fresh}
use Rattle.rings.specs.Rings.{Ring, Rings, together, members_of}
use Rattle.lookup.specs.Buckets.{bucket_of}
use Rattle.lookup.specs.Part.{page_of, links_of, Room}

-- the pages of xs rise strictly, the first at least low
abbrev pub Rising : List ℕ → ℕ → List ℕ → Type 0
Rising w low [] = Unit {0}
Rising w low (x ∷ xs) = (low ≤ page_of w x) × Rising w (suc (page_of w x)) xs

-- the first of xs whose page is not below p, or s
abbrev pub seek : List ℕ → ℕ → ℕ → List ℕ → ℕ
seek w p s [] = s
seek w p s (x ∷ xs) = cond (nat_lt (page_of w x) p) (seek w p s xs) x

-- w is a lookup whose bucket b has the places P b
pub record Table (w : List ℕ) (m k : ℕ) (P : ℕ → List ℕ) : Type 0 where
  pub room : Room w m k
  pub rings : Rings (links_of m w) m k P
  pub homes : (b x : ℕ) → b < k → Mem x (P b) → bucket_of k (page_of w x) ≡ b
  pub rising : (b : ℕ) → b < k → Rising w 0 (P b)

-- THE READING: the places of bucket b; w is a lookup; the places of all buckets, which are the places that it holds
unfoldable pub bucket_in : List ℕ → ℕ → ℕ → List ℕ
bucket_in w m b = members_of (links_of m w) m (m + b)

abbrev pub Lookup : List ℕ → ℕ → ℕ → Type 0
Lookup w m k = Table w m k (bucket_in w m)

unfoldable pub places_in : List ℕ → ℕ → ℕ → List ℕ
places_in w m k = together (bucket_in w m) k

abbrev pub Held : List ℕ → ℕ → ℕ → ℕ → Type 0
Held w m k x = Mem x (places_in w m k)

-- the place x is in no bucket: it stands before itself
unfoldable pub Dead : List ℕ → ℕ → ℕ → Type 0
Dead w m x = prev_of (links_of m w) x ≡ x

-- w is a lookup that holds exactly the places xs, and the others are dead: all that a caller has to say of it
pub record Exactly (w : List ℕ) (m k : ℕ) (xs : List ℕ) : Type 0 where
  pub table : Lookup w m k
  pub held : (z : ℕ) → Mem z xs → Held w m k z
  pub only : (z : ℕ) → Held w m k z → Mem z xs
  pub dead : (z : ℕ) → z < m → Fresh z xs → Dead w m z

-- where the page p is, or before which it belongs: the first place of its bucket whose page is not below p, or the bucket's sentinel
unfoldable pub find_of : List ℕ → ℕ → ℕ → ℕ → ℕ
find_of w m k p = seek w p (m + bucket_of k p) (bucket_in w m (bucket_of k p))

-- THE ANSWER: the place of a page, or none
pub data Place : Type 0 where
  at : ℕ → Place
  none : Place

-- f, where the page p is or belongs, as an answer
abbrev pub place_at : List ℕ → ℕ → ℕ → ℕ → Place
place_at w m p f = cond (nat_lt f m) (cond (page_of w f == p) (at f) none) none

unfoldable pub look : List ℕ → ℕ → ℕ → ℕ → Place
look w m k p = place_at w m p (find_of w m k p)

-- an answer as the code gives it
abbrev pub answered : Place → Option ℕ
answered (at x) = Some x
answered none = None

-- a plain search: the first of xs whose page is p
abbrev pub searched : List ℕ → ℕ → List ℕ → Place
searched w p [] = none
searched w p (x ∷ xs) = cond (page_of w x == p) (at x) (searched w p xs)

-- what a search asks of the words
pub record CanFind (w : List ℕ) (m k p : ℕ) : Type 0 where
  pub room : Room w m k
  pub ring : Ring (links_of m w) m (m + bucket_of k p) (bucket_in w m (bucket_of k p))

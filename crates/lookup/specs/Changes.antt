-- The changes of a lookup, and what they ask of the words. Assumes nothing.
use Rattle.std.specs.Prelude.{◌≡◌, ℕ, zero, suc, ◌+◌, ◌^◌, ◌<◌, ◌≤◌, ◌⊎◌, List, [], length, ◌≢◌}
use Rattle.cells.specs.Cells.{Cells, In, with_prev}
use Rattle.rings.specs.Rings.{inserted, detached, replaced, emptied, CanInsert, CanDetach, CanReplace}
use Rattle.lookup.specs.Part.{page_of, with_page, links_of, in_links}
use Rattle.lookup.specs.Lookup.{Lookup, places_in, Held, Dead}

-- OF THE LINKS: x leaves its ring and stands before itself; y, which is in no ring, takes the place of x, which then stands before itself
unfoldable pub unlinked : ℕ → List ℕ → List ℕ
unlinked x l = with_prev (detached x l) x x

unfoldable pub handed_over : ℕ → ℕ → List ℕ → List ℕ
handed_over x y l = with_prev (replaced x y l) x x

-- the cells below n stand before themselves; the rings of n sentinels from m on have no members
unfoldable pub deadened : ℕ → List ℕ → List ℕ
deadened zero l = l
deadened (suc n) l = with_prev (deadened n l) n n

unfoldable pub cleared : ℕ → ℕ → List ℕ → List ℕ
cleared m zero l = l
cleared m (suc n) l = emptied (m + n) (cleared m n l)

unfoldable pub blank : ℕ → ℕ → List ℕ → List ℕ
blank m k l = cleared m k (deadened m l)

-- OF THE LOOKUP: the dead place y gets the page p and comes before f
unfoldable pub put_in : ℕ → ℕ → ℕ → ℕ → List ℕ → List ℕ
put_in m f y p w = in_links m (inserted f y) (with_page w y p)

-- the place x leaves
unfoldable pub taken : ℕ → ℕ → List ℕ → List ℕ
taken m x w = in_links m (unlinked x) w

-- the page of the place x is at the dead place y, where x stood; x is dead
unfoldable pub renamed : ℕ → ℕ → ℕ → List ℕ → List ℕ
renamed m x y w = in_links m (handed_over x y) (with_page w y (page_of w x))

-- every place dead, every bucket empty
unfoldable pub made : ℕ → ℕ → List ℕ → List ℕ
made m k w = in_links m (blank m k) w

-- WHAT THE CHANGES ASK
pub record CanPut (w : List ℕ) (m f y : ℕ) : Type 0 where
  pub pages : m ≤ length w
  pub place : y < m
  pub links : CanInsert (links_of m w) f y

pub record CanTake (w : List ℕ) (m x : ℕ) : Type 0 where
  pub pages : m ≤ length w
  pub links : CanDetach (links_of m w) x

pub record CanRename (w : List ℕ) (m x y : ℕ) : Type 0 where
  pub pages : m ≤ length w
  pub from : x < m
  pub to : y < m
  pub links : CanReplace (links_of m w) x y

-- a cell that is read, and the cells that are made
pub record CanReach (w : List ℕ) (m e : ℕ) : Type 0 where
  pub pages : m ≤ length w
  pub cell : In (links_of m w) e

pub record CanBlank (l : List ℕ) (m k : ℕ) : Type 0 where
  pub some : 0 < k
  pub cells : Cells l (m + k)
  pub fits : m + k < 2 ^ 64

-- WHAT THEY DO: v is w with the page p come to the place y; with the place x gone; with the page of x come to y; with no place held
pub record Put (w v : List ℕ) (m k y p : ℕ) : Type 0 where
  pub table : Lookup v m k
  pub here : Held v m k y
  pub stays : (z : ℕ) → Held w m k z → Held v m k z
  pub only : (z : ℕ) → Held v m k z → (z ≡ y) ⊎ Held w m k z
  pub page : page_of v y ≡ p
  pub pages : (z : ℕ) → z < m → (z ≢ y) → page_of v z ≡ page_of w z
  pub dead : (z : ℕ) → z < m → (z ≢ y) → Dead w m z → Dead v m z
  pub size : length v ≡ length w

pub record Taken (w v : List ℕ) (m k x : ℕ) : Type 0 where
  pub table : Lookup v m k
  pub gone : Held v m k x → ⊥
  pub stays : (z : ℕ) → (z ≢ x) → Held w m k z → Held v m k z
  pub only : (z : ℕ) → Held v m k z → Held w m k z
  pub pages : (z : ℕ) → z < m → page_of v z ≡ page_of w z
  pub died : Dead v m x
  pub dead : (z : ℕ) → z < m → Dead w m z → Dead v m z
  pub size : length v ≡ length w

pub record Renamed (w v : List ℕ) (m k x y : ℕ) : Type 0 where
  pub table : Lookup v m k
  pub here : Held v m k y
  pub gone : Held v m k x → ⊥
  pub stays : (z : ℕ) → (z ≢ x) → Held w m k z → Held v m k z
  pub only : (z : ℕ) → Held v m k z → (z ≡ y) ⊎ Held w m k z
  pub page : page_of v y ≡ page_of w x
  pub pages : (z : ℕ) → z < m → (z ≢ y) → page_of v z ≡ page_of w z
  pub died : Dead v m x
  pub dead : (z : ℕ) → z < m → (z ≢ y) → Dead w m z → Dead v m z
  pub size : length v ≡ length w

pub record Made (w v : List ℕ) (m k : ℕ) : Type 0 where
  pub table : Lookup v m k
  pub empty : places_in v m k ≡ []
  pub pages : (z : ℕ) → z < m → page_of v z ≡ page_of w z
  pub dead : (z : ℕ) → z < m → Dead v m z
  pub size : length v ≡ length w

-- How a lookup's part is cut: the pages of m places, a word each, then the links. Assumes nothing.
use Rattle.std.specs.Prelude.{ℕ, ◌+◌, ◌^◌, ◌<◌, ◌≤◌, List, ◌++◌, length, take, drop, slice_index, slice_set}
use Rattle.cells.specs.Cells.{Cells}

-- the page of the place x
abbrev pub page_of : List ℕ → ℕ → ℕ
page_of w x = slice_index w x

-- w with the page p at the place x
abbrev pub with_page : List ℕ → ℕ → ℕ → List ℕ
with_page w x p = slice_set w x p

-- the links
unfoldable pub links_of : ℕ → List ℕ → List ℕ
links_of m w = drop m w

-- w with its links changed by f
unfoldable pub in_links : ℕ → (List ℕ → List ℕ) → List ℕ → List ℕ
in_links m f w = take m w ++ f (drop m w)

-- w has room for m places and k buckets, and there is a bucket; the numbers of the cells are words
pub record Room (w : List ℕ) (m k : ℕ) : Type 0 where
  pub some : 0 < k
  pub pages : m ≤ length w
  pub links : Cells (links_of m w) (m + k)
  pub fits : m + k < 2 ^ 64

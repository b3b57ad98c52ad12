-- The residents of a cache of capacity c in a part of words: three counts, the frame, the list number and the reference bit of each slot, then the links of the slots 0 to c - 1 and of the sentinels
-- c (T1), c + 1 (T2) and c + 2 (the free slots). Lists are numbered: 0 is T1, 1 is T2, 2 the free slots. Assumes nothing.
use Rattle.std.specs.Prelude.{◌≡◌, cond, List, ℕ, ◌+◌, ◌*◌, ◌^◌, ◌<◌, ◌≤◌, length, get_or, eqb}
use Rattle.cells.specs.Cells.{In}
use Rattle.rings.specs.Members.{Mem}
use Rattle.rings.specs.Rings.{Rings, members_of}
use Rattle.tails.specs.Tails.{tail_of}

-- where the links start, and the links
abbrev pub links_at : ℕ → ℕ
links_at c = 3 + 3 * c

abbrev pub links_of : ℕ → List ℕ → List ℕ
links_of c w = tail_of (3 + 3 * c) w

-- how many slots list i has; the frame, the list number and the reference bit of slot e
unfoldable pub count_of : List ℕ → ℕ → ℕ
count_of w i = get_or w i 0

unfoldable pub frame_of : List ℕ → ℕ → ℕ
frame_of w e = get_or w (3 + e) 0

unfoldable pub list_of : List ℕ → ℕ → ℕ → ℕ
list_of w c e = get_or w (3 + c + e) 0

unfoldable pub bit_of : List ℕ → ℕ → ℕ → ℕ
bit_of w c e = get_or w (3 + 2 * c + e) 0

-- the words that c slots take are there
pub record Room (w : List ℕ) (c : ℕ) : Type 0 where
  pub small : c ≤ 1024
  pub head : 3 + 3 * c ≤ length w
  pub links : In (links_of c w) (c + 2)

-- slot e holds a resident of list i
pub record Slot (w : List ℕ) (c i e : ℕ) : Type 0 where
  pub list : list_of w c e ≡ i
  pub frame : frame_of w e < 2 ^ 32
  pub bit : bit_of w c e < 2

-- how many slots three lists have together
abbrev pub total : (ℕ → List ℕ) → ℕ
total P = length (P 0) + length (P 1) + length (P 2)

-- THE PART READS AS the three lists of slots, each first to last. What the words of a free slot hold is not said
pub record Residents (w : List ℕ) (c : ℕ) (P : ℕ → List ℕ) : Type 0 where
  pub room : Room w c
  pub counts : (i : ℕ) → i < 3 → count_of w i ≡ length (P i)
  pub rings : Rings (links_of c w) c 3 P
  pub all : total P ≡ c
  pub slots : (i e : ℕ) → i < 2 → Mem e (P i) → Slot w c i e

-- three lists as a family
unfoldable pub lists : List ℕ → List ℕ → List ℕ → ℕ → List ℕ
lists t1 t2 free i = cond (eqb i 0) t1 (cond (eqb i 1) t2 free)

-- the lists as a function of the words
unfoldable pub lists_of : List ℕ → ℕ → ℕ → List ℕ
lists_of w c i = members_of (links_of c w) c (c + i)

abbrev pub IsResidents : List ℕ → ℕ → Type 0
IsResidents w c = Residents w c (lists_of w c)

-- The changes of the residents, as functions of the words, and what they ask. Assumes nothing.
use Rattle.std.specs.Prelude.{◌≡◌, List, ℕ, ◌+◌, ◌-◌, ◌*◌, ◌<◌, ◌≤◌, length, set}
use Rattle.cells.specs.Cells.{next_of}
use Rattle.rings.specs.Members.{Mem}
use Rattle.rings.specs.Rings.{fronted, ended, emptied, filled}
use Rattle.tails.specs.Tails.{with_tail}
use Rattle.residents.specs.Residents.{links_of, count_of, list_of, lists_of, Room, IsResidents}

-- the words of one slot
unfoldable pub with_frame : ℕ → ℕ → List ℕ → List ℕ
with_frame e f w = set w (3 + e) f

unfoldable pub with_list : ℕ → ℕ → ℕ → List ℕ → List ℕ
with_list c e i w = set w (3 + c + e) i

unfoldable pub with_bit : ℕ → ℕ → ℕ → List ℕ → List ℕ
with_bit c e b w = set w (3 + 2 * c + e) b

-- the counts once a slot has gone from list i to list j
unfoldable pub recounted : ℕ → ℕ → List ℕ → List ℕ
recounted i j w = set (set w i (count_of w i - 1)) j (count_of (set w i (count_of w i - 1)) j + 1)

pub record CanRecount (w : List ℕ) (c i j : ℕ) : Type 0 where
  pub room : Room w c
  pub from : i < 3
  pub to : j < 3
  pub some : 0 < count_of w i
  pub few : count_of w j ≤ c

-- a slot goes from list i to list j: the counts, and l for the links
unfoldable pub shifted : ℕ → ℕ → ℕ → List ℕ → List ℕ → List ℕ
shifted c i j l w = with_tail (3 + 3 * c) l (recounted i j w)

-- slot e goes from list i to the front, or to the end, of list j
abbrev pub shifted_front : ℕ → ℕ → ℕ → ℕ → List ℕ → List ℕ
shifted_front c i j e w = shifted c i j (fronted (c + j) e (links_of c w)) w

abbrev pub shifted_end : ℕ → ℕ → ℕ → ℕ → List ℕ → List ℕ
shifted_end c i j e w = shifted c i j (ended (c + j) e (links_of c w)) w

pub record CanShift (w : List ℕ) (c i j : ℕ) (P : Type 0) : Type 0 where
  pub counts : CanRecount w c i j
  pub can : P

-- THE CHANGES. A resident comes to the front of T2
unfoldable pub promoted : ℕ → ℕ → List ℕ → List ℕ
promoted c e w = with_list c e 1 (shifted_front c (list_of w c e) 1 e w)

-- a resident goes to the end of T2, and its bit is cleared
unfoldable pub sent_back : ℕ → ℕ → List ℕ → List ℕ
sent_back c e w = with_bit c e 0 (with_list c e 1 (shifted_end c (list_of w c e) 1 e w))

-- a resident leaves: its slot comes to the top of the free ones
unfoldable pub freed : ℕ → ℕ → List ℕ → List ℕ
freed c e w = shifted_front c (list_of w c e) 2 e w

-- the top free slot, and what is written into a slot that is taken
unfoldable pub top_of : ℕ → List ℕ → ℕ
top_of c w = next_of (links_of c w) (c + 2)

unfoldable pub with_slot : ℕ → ℕ → ℕ → ℕ → ℕ → List ℕ → List ℕ
with_slot c e f i b w = with_bit c e b (with_list c e i (with_frame e f w))

-- a new resident at the front, or at the end, of list j
unfoldable pub added_front : ℕ → ℕ → ℕ → ℕ → List ℕ → List ℕ
added_front c j f b w = with_slot c (top_of c w) f j b (shifted_front c 2 j (top_of c w) w)

unfoldable pub added_end : ℕ → ℕ → ℕ → ℕ → List ℕ → List ℕ
added_end c j f b w = with_slot c (top_of c w) f j b (shifted_end c 2 j (top_of c w) w)

pub record Added (w v : List ℕ) (c r : ℕ) (after : List ℕ) : Type 0 where
  pub slot : r ≡ top_of c w
  pub words : v ≡ after

-- no residents: two empty rings, and the ring of all slots
unfoldable pub fresh_links : ℕ → List ℕ → List ℕ
fresh_links c l = filled (c + 2) c (emptied (c + 1) (emptied c l))

unfoldable pub made : ℕ → List ℕ → List ℕ
made c w = set (set (set (with_tail (3 + 3 * c) (fresh_links c (links_of c w)) w) 0 0) 1 0) 2 c

-- WHAT THEY ASK: a slot that holds a resident; a slot that is free
pub record IsResident (w : List ℕ) (c e : ℕ) : Type 0 where
  pub residents : IsResidents w c
  pub side : list_of w c e < 2
  pub member : Mem e (lists_of w c (list_of w c e))

pub record CanAdd (w : List ℕ) (c j : ℕ) : Type 0 where
  pub residents : IsResidents w c
  pub side : j < 2
  pub room : 0 < length (lists_of w c 2)

-- a slot that holds a resident, and the list that its next one comes to
pub record CanExchange (w : List ℕ) (c e j : ℕ) : Type 0 where
  pub resident : IsResident w c e
  pub side : j < 2

-- a word of a slot is there
pub record HasSlot (w : List ℕ) (c e : ℕ) : Type 0 where
  pub room : Room w c
  pub slot : e < c

pub record HasList (w : List ℕ) (c i : ℕ) : Type 0 where
  pub room : Room w c
  pub list : i < 3

-- An area that holds a cache, the state that it is read as, and what an operation leaves. Assumes nothing.
use Rattle.std.specs.Prelude.{◌≡◌, List, map, ℕ, ◌≤◌, length, drop}
use Rattle.rules.specs.State.{Entry, entry}
use Rattle.rules.specs.Arc.{Arc, Plain}
use Rattle.rules.specs.Car.{Car, Resident}
use Rattle.area_state.specs.Parts.{Holds, state_of}
use Rattle.area.specs.Area.{kind_of, capacity_of, end_at, parts_of}

-- the words hold a cache of capacity c
pub record Stored (c : ℕ) (w : List ℕ) : Type 0 where
  pub size : end_at c ≤ length w
  pub capacity : capacity_of w ≡ c
  pub holds : Holds c (parts_of c w)

-- the state that they are read as
unfoldable pub state_in : ℕ → List ℕ → Car
state_in c w = state_of c (parts_of c w)

-- THE RELATION: the words are a writing of the state s of a cache of kind k (1 ARC, 2 CAR). docs/LAYOUT.md draws it.
pub record Writes (k : ℕ) (w : List ℕ) (s : Car) : Type 0 where
  pub kind : kind_of w ≡ k
  pub stored : Stored s.lists.c w
  pub reads : state_in s.lists.c w ≡ s

-- what an operation leaves: an area that reads as s, of the same kind and length, and with nothing past the area's need changed
pub record Left (c : ℕ) (w v : List ℕ) (s : Car) : Type 0 where
  pub stored : Stored c v
  pub reads : state_in c v ≡ s
  pub kind : kind_of v ≡ kind_of w
  pub size : length v ≡ length w
  pub rest : drop (end_at c) v ≡ drop (end_at c) w

-- ARC's view of a state: it forgets slots, bits and the order of the free slots
abbrev pub plainly : Resident → Entry Plain
plainly e = entry e.page e.frame tt

unfoldable pub arc_of : Car → Arc
arc_of s = record {
  c = s.lists.c;
  target = s.lists.target;
  T1 = map plainly s.lists.T1;
  T2 = map plainly s.lists.T2;
  B1 = s.lists.B1;
  B2 = s.lists.B2;
}

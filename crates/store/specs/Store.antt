-- What the operations of a store ask and answer. Assumes nothing.
use Rattle.std.specs.Prelude.{◌≡◌, List, ◌∷◌, ℕ, suc, ◌+◌, ◌<◌, length, get_or, drop}
use Rattle.std.proofs.Math.Option.{some, none}
use Rattle.rules.specs.Lists.{last}
use Rattle.rules.specs.State.{list, ghosts, resident}
use Rattle.rules.specs.declared.Side.{Side}
use Rattle.rules.specs.declared.Side.TheVariants.{First as first, Second as second}
use Rattle.rules.specs.Calls.{ghost, nowhere}
use Rattle.rules.specs.Ghosts.{drop_oldest}
use Rattle.rules.specs.Stages.{place_of}
use Rattle.rules.specs.Car.{Car, car, slots}
use Rattle.rings.specs.Members.{Mem}
use Rattle.residents.specs.Residents.{lists_of}
use Rattle.ghosts.specs.Ghosts.{live_of}
use Rattle.ghosts.specs.Ghosts.{recorded}
use Rattle.lookup.specs.Buckets.{places_of}
use Rattle.area_state.specs.Parts.{number_of, ghosts_of, ghost_of, set_ghosts, set_lookup}
use Rattle.area_state.specs.Changes.{record_place_of, is_full, cleared_for}
use Rattle.area_state.specs.States.{resident_at, evicted_at}
use Rattle.area.specs.Area.{parts_of, Became}
use Rattle.area.specs.Stored.{Stored, state_in, Left}
use Rattle.store.specs.declared.Found.{Found}
use Rattle.store.specs.declared.Found.TheVariants.{Resident, InB1, InB2, Nowhere}
use Rattle.store.specs.declared.Out.{Out}

-- slot e holds a resident of a side's list
pub record HasSlot (c : ℕ) (w : List ℕ) (i : Side) (e : ℕ) : Type 0 where
  pub stored : Stored c w
  pub member : Mem e (lists_of (parts_of c w).residents c (number_of i))

-- some slot holds a resident of a side's list
pub record AnySlot (c : ℕ) (w : List ℕ) (i : Side) : Type 0 where
  pub number : ℕ
  pub slot : HasSlot c w i number

-- slot e holds a resident; of which list, the area tells
pub record IsSlot (c : ℕ) (w : List ℕ) (e : ℕ) : Type 0 where
  pub side : Side
  pub slot : HasSlot c w side e

-- cell g of a side's ghost list holds the page x
pub record HasGhost (c : ℕ) (w : List ℕ) (i : Side) (g x : ℕ) : Type 0 where
  pub stored : Stored c w
  pub member : Mem g (live_of (ghosts_of i (parts_of c w)) c)
  pub page : ghost_of i c (parts_of c w) g ≡ x

-- where a page is: what each answer of `find` says of the state
abbrev pub FoundIs : ℕ → List ℕ → ℕ → Found → Type 0
FoundIs c w x (Resident e) = IsSlot c w e × (resident x (state_in c w).lists ≡ some (resident_at e (state_in c w)))
FoundIs c w x (InB1 g) = HasGhost c w first g x × (resident x (state_in c w).lists ≡ none) × (place_of x (state_in c w).lists ≡ ghost first)
FoundIs c w x (InB2 g) = HasGhost c w second g x × (resident x (state_in c w).lists ≡ none) × (place_of x (state_in c w).lists ≡ ghost second)
FoundIs c w x Nowhere = (resident x (state_in c w).lists ≡ none) × (place_of x (state_in c w).lists ≡ nowhere)

-- the page and the frame of the resident of slot e
pub record Names (c : ℕ) (w : List ℕ) (e : ℕ) (o : Out) : Type 0 where
  pub page : o.page ≡ (resident_at e (state_in c w)).page
  pub frame : o.frame ≡ (resident_at e (state_in c w)).frame

-- what is answered where the resident of slot e is put out
pub record Evicts (c : ℕ) (w v : List ℕ) (e : ℕ) (o : Out) (s : Car) : Type 0 where
  pub left : Left c w v s
  pub out : Names c w e o

-- a page may enter: a slot is free, and no list has the page
pub record CanEnter (c : ℕ) (w : List ℕ) (x : ℕ) : Type 0 where
  pub stored : Stored c w
  pub room : 0 < length (state_in c w).free
  pub fresh : resident x (state_in c w).lists ≡ none
  pub unrecorded : place_of x (state_in c w).lists ≡ nowhere

-- the list of a side has a resident; slot e holds its first, or its last
pub record HasSome (c : ℕ) (w : List ℕ) (i : Side) : Type 0 where
  pub stored : Stored c w
  pub some : 0 < length (list i (state_in c w).lists)

pub record FirstIs (c : ℕ) (w : List ℕ) (i : Side) (e : ℕ) : Type 0 where
  pub slot : HasSlot c w i e
  pub first : list i (state_in c w).lists ≡ resident_at e (state_in c w) ∷ drop 1 (list i (state_in c w).lists)

pub record LastIs (c : ℕ) (w : List ℕ) (i : Side) (e : ℕ) : Type 0 where
  pub slot : HasSlot c w i e
  pub last : last (list i (state_in c w).lists) ≡ some (resident_at e (state_in c w))

-- the slots of a side's list, first to last; the slot after e, where e stands in that list at place j, or past the last c and the list's number
abbrev pub slots_at : Side → ℕ → List ℕ → List ℕ
slots_at i c w = slots (list i (state_in c w).lists)

pub record NextIs (c : ℕ) (w : List ℕ) (e r : ℕ) : Type 0 where
  pub next : (i : Side) (j : ℕ) → j < length (slots_at i c w) → get_or (slots_at i c w) j 0 ≡ e → r ≡ get_or (slots_at i c w) (suc j) (c + number_of i)

-- the ghost list of a side has a page; its oldest leaves
pub record HasOldest (c : ℕ) (w : List ℕ) (i : Side) : Type 0 where
  pub stored : Stored c w
  pub some : 0 < length (ghosts i (state_in c w).lists)

unfoldable pub dropped_at : Side → Car → Car
dropped_at i s = car (drop_oldest i s.lists) s.free

-- the ghost list of side i has given a cell, whose place is y; where the list was full, the page that the cell had has left the lookup
pub record GivesPlace (c : ℕ) (w v : List ℕ) (i : Side) (y : ℕ) : Type 0 where
  pub place : y ≡ record_place_of i c (parts_of c w)
  pub became : Became c w v (set_lookup (cleared_for (is_full i c (parts_of c w)) (places_of c) y (parts_of c w).lookup) (set_ghosts i (recorded c (ghosts_of i (parts_of c w))) (parts_of c w)))

-- a page may take the slot of a resident that is put out: slot e holds one of that side, and once that is out no list has the page
pub record CanExchange (c : ℕ) (w : List ℕ) (i : Side) (e x : ℕ) : Type 0 where
  pub slot : HasSlot c w i e
  pub fresh : resident x (evicted_at i e (state_in c w)).lists ≡ none
  pub unrecorded : place_of x (evicted_at i e (state_in c w)).lists ≡ nowhere

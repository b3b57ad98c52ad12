-- The four parts of an area of capacity c together with the target, and the state that they read as. Assumes nothing.
--
-- A place of the lookup is a slot (0 to c - 1), c + a cell of B1, or 2c + a cell of B2. A page stands in the lookup alone, at the place of what it belongs to.
use Rattle.std.specs.Prelude.{List, map, ℕ, ◌+◌, ◌*◌, ◌<◌, ◌≤◌, eqb}
use Rattle.rules.specs.State.{entry, choose}
use Rattle.rules.specs.declared.Side.{Side}
use Rattle.rules.specs.declared.Side.TheVariants.{First as first, Second as second}
use Rattle.rules.specs.Car.{Car, car, clocked, Resident}
use Rattle.rings.specs.Members.{Mem}
use Rattle.residents.specs.Residents.{frame_of, bit_of, lists_of, IsResidents}
use Rattle.ghosts.specs.Ghosts.{live_of, spare_of, IsGhosts}
use Rattle.lookup.specs.Buckets.{buckets_of, places_of}
use Rattle.lookup.specs.Part.{page_of}
use Rattle.lookup.specs.Lookup.{Lookup, Held, Dead}

-- ---- the parts
pub record Parts : Type 0 where
  pub target : ℕ
  pub residents : List ℕ
  pub ghosts1 : List ℕ
  pub ghosts2 : List ℕ
  pub lookup : List ℕ

abbrev pub ghosts_of : Side → Parts → List ℕ
ghosts_of i p = choose i p.ghosts1 p.ghosts2

abbrev pub set_target : ℕ → Parts → Parts
set_target t p = record { target = t; residents = p.residents; ghosts1 = p.ghosts1; ghosts2 = p.ghosts2; lookup = p.lookup }

abbrev pub set_residents : List ℕ → Parts → Parts
set_residents r p = record { target = p.target; residents = r; ghosts1 = p.ghosts1; ghosts2 = p.ghosts2; lookup = p.lookup }

abbrev pub set_ghosts : Side → List ℕ → Parts → Parts
set_ghosts i g p = record { target = p.target; residents = p.residents; ghosts1 = choose i g p.ghosts1; ghosts2 = choose i p.ghosts2 g; lookup = p.lookup }

abbrev pub set_lookup : List ℕ → Parts → Parts
set_lookup k p = record { target = p.target; residents = p.residents; ghosts1 = p.ghosts1; ghosts2 = p.ghosts2; lookup = k }

-- the number of a side's list of residents: T1 is list 0, T2 list 1
abbrev pub number_of : Side → ℕ
number_of first = 0
number_of second = 1

-- ---- places
-- the place of a cell of a ghost list
abbrev pub ghost_place : Side → ℕ → ℕ → ℕ
ghost_place first c g = c + g
ghost_place second c g = 2 * c + g

-- a place is held by the lookup; it is dead
abbrev pub HeldIn : ℕ → Parts → ℕ → Type 0
HeldIn c p x = Held p.lookup (places_of c) (buckets_of c) x

abbrev pub DeadIn : ℕ → Parts → ℕ → Type 0
DeadIn c p x = Dead p.lookup (places_of c) x

-- ---- the parts hold a cache of capacity c: each is as it has to be, and the lookup holds exactly the live places
pub record Holds (c : ℕ) (p : Parts) : Type 0 where
  pub small : c ≤ 1024
  pub target : p.target ≤ c
  pub residents : IsResidents p.residents c
  pub ghosts : (i : Side) → IsGhosts (ghosts_of i p) c
  pub table : Lookup p.lookup (places_of c) (buckets_of c)
  -- the slots of T1 and T2; the free ones
  pub listed : (i x : ℕ) → i < 2 → Mem x (lists_of p.residents c i) → HeldIn c p x
  pub free : (x : ℕ) → Mem x (lists_of p.residents c 2) → DeadIn c p x
  -- the cells of each ghost list; the spare ones
  pub recorded : (i : Side) (x : ℕ) → Mem x (live_of (ghosts_of i p) c) → HeldIn c p (ghost_place i c x)
  pub spare : (i : Side) (x : ℕ) → Mem x (spare_of (ghosts_of i p) c) → DeadIn c p (ghost_place i c x)

-- ---- the state that they read as
-- the resident of a slot
unfoldable pub resident_of : ℕ → Parts → ℕ → Resident
resident_of c p e = entry (page_of p.lookup e) (frame_of p.residents e) (clocked e (eqb (bit_of p.residents c e) 1))

-- the page of a cell of a ghost list
unfoldable pub ghost_of : Side → ℕ → Parts → ℕ → ℕ
ghost_of i c p g = page_of p.lookup (ghost_place i c g)

unfoldable pub state_of : ℕ → Parts → Car
state_of c p =
    car (record {
      c = c;
      target = p.target;
      T1 = map (resident_of c p) (lists_of p.residents c 0);
      T2 = map (resident_of c p) (lists_of p.residents c 1);
      B1 = map (ghost_of first c p) (live_of p.ghosts1 c);
      B2 = map (ghost_of second c p) (live_of p.ghosts2 c);
    })
    (lists_of p.residents c 2)

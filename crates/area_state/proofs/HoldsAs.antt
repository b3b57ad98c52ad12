-- The parts hold a cache whose lists are named: L, of slots, and for each side the live and the spare cells of its ghost list. The names say no more than the reading does. Assumes nothing.
use mathlib.Core.Path.{◌≡◌, refl, ◌∙◌}
use mathlib.Core.List.{List, map}
use Prim.Native.Nat.{ℕ, ◌<◌, ◌≤◌}
use native.Mathlib.Omega.{arith}
use Rattle.rules.specs.declared.Side.{Side}
use Rattle.rules.specs.declared.Side.TheVariants.{First as first, Second as second}
use Rattle.rules.specs.Car.{Car, car, Resident}
use Rattle.rings.specs.Members.{Mem}
use Rattle.residents.specs.Residents.{lists_of, Residents}
use Rattle.residents.proofs.Changes.{lists_are, residents_read}
use Rattle.ghosts.specs.Ghosts.{live_of, spare_of, Ghosts}
use Rattle.ghosts.proofs.Laws.{live_is, spare_is, ghosts_read}
use Rattle.lookup.specs.Buckets.{buckets_of, places_of}
use Rattle.lookup.specs.Lookup.{Lookup}
use Rattle.area_state.specs.Parts.{Parts, ghosts_of, number_of, ghost_place, HeldIn, DeadIn, Holds, resident_of, ghost_of, state_of}

pub record HoldsAs (c : ℕ) (p : Parts) (L : ℕ → List ℕ) (live spare : Side → List ℕ) : Type 0 where
  pub small : c ≤ 1024
  pub target : p.target ≤ c
  pub residents : Residents p.residents c L
  pub ghosts : (i : Side) → Ghosts (ghosts_of i p) c (live i) (spare i)
  pub table : Lookup p.lookup (places_of c) (buckets_of c)
  pub listed : (i x : ℕ) → i < 2 → Mem x (L i) → HeldIn c p x
  pub free : (x : ℕ) → Mem x (L 2) → DeadIn c p x
  pub recorded : (i : Side) (x : ℕ) → Mem x (live i) → HeldIn c p (ghost_place i c x)
  pub spared : (i : Side) (x : ℕ) → Mem x (spare i) → DeadIn c p (ghost_place i c x)

-- the names that the reading gives
abbrev pub slots_of : ℕ → Parts → ℕ → List ℕ
slots_of c p = lists_of p.residents c

abbrev pub live_in : ℕ → Parts → Side → List ℕ
live_in c p i = live_of (ghosts_of i p) c

abbrev pub spare_in : ℕ → Parts → Side → List ℕ
spare_in c p i = spare_of (ghosts_of i p) c

pub named : (c : ℕ) (p : Parts) → Holds c p → HoldsAs c p (slots_of c p) (live_in c p) (spare_in c p)
named c p h =
    record {
      small = h.small;
      target = h.target;
      residents = h.residents;
      ghosts = h.ghosts;
      table = h.table;
      listed = h.listed;
      free = h.free;
      recorded = h.recorded;
      spared = h.spare;
    }

-- a state of named lists: T for the residents of each side, B for its ghosts, f for the free slots
unfoldable pub state_as : ℕ → ℕ → (Side → List Resident) → (Side → List ℕ) → List ℕ → Car
state_as c t T B f = car (record { c = c; target = t; T1 = T first; T2 = T second; B1 = B first; B2 = B second }) f

-- the residents, and the ghosts, of lists of slots and cells
abbrev pub residents_as : ℕ → Parts → (ℕ → List ℕ) → Side → List Resident
residents_as c p L j = map (resident_of c p) (L (number_of j))

abbrev pub ghosts_as : ℕ → Parts → (Side → List ℕ) → Side → List ℕ
ghosts_as c p live j = map (ghost_of j c p) (live j)

-- WHAT AN OPERATION DOES: the parts q hold, and they read as s
pub record Becomes (c : ℕ) (q : Parts) (s : Car) : Type 0 where
  pub holds : Holds c q
  pub reads : state_of c q ≡ s

module _ (c : ℕ) (p : Parts) (L : ℕ → List ℕ) (live spare : Side → List ℕ) (a : HoldsAs c p L live spare) where
  pub unnamed : Holds c p
  unnamed =
      record {
        small = a.small;
        target = a.target;
        residents = residents_read p.residents c L a.residents;
        ghosts = λ i. ghosts_read (ghosts_of i p) c (live i) (spare i) (a.ghosts i);
        table = a.table;
        listed = λ i x h k. a.listed i x h (rw (lists_are p.residents c L a.residents i (omega arith)) at k);
        free = λ x k. a.free x (rw (lists_are p.residents c L a.residents 2 (omega arith)) at k);
        recorded = λ i x k. a.recorded i x (rw (live_is (ghosts_of i p) c (live i) (spare i) (a.ghosts i)) at k);
        spare = λ i x k. a.spared i x (rw (spare_is (ghosts_of i p) c (live i) (spare i) (a.ghosts i)) at k);
      }

  -- THE STATE, by its lists
  pub reads_as : state_of c p ≡ state_as c p.target (residents_as c p L) (ghosts_as c p live) (L 2)
  unfolding state_of state_as
  reads_as =
      rw (
        lists_are p.residents c L a.residents 0 (omega arith),
        lists_are p.residents c L a.residents 1 (omega arith),
        lists_are p.residents c L a.residents 2 (omega arith),
        live_is p.ghosts1 c (live first) (spare first) (a.ghosts first),
        live_is p.ghosts2 c (live second) (spare second) (a.ghosts second),
      )
      refl

  pub becomes : (s : Car) → state_as c p.target (residents_as c p L) (ghosts_as c p live) (L 2) ≡ s → Becomes c p s
  becomes s q = record { holds = unnamed; reads = reads_as ∙ q }

-- two states of the same lists
pub states_same : (c t t' : ℕ) (T T' : Side → List Resident) (B B' : Side → List ℕ) (f f' : List ℕ) → t ≡ t' → ((j : Side) → T j ≡ T' j) → ((j : Side) → B j ≡ B' j) → f ≡ f' → state_as c t T B f ≡ state_as c t' T' B' f'
unfolding state_as
states_same c t t' T T' B B' f f' p q r s = rw (p, q first, q second, r first, r second, s) refl

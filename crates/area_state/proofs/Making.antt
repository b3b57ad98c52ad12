-- An empty cache is made, whatever the words were. Assumes nothing.
use mathlib.Core.Path.{◌≡◌, refl, ap}
use mathlib.Core.Logic.{⊎_elim}
use mathlib.Core.List.{List, [], ◌∷◌}
use Prim.Native.Nat.{ℕ, zero, suc, ◌<◌, ◌≤◌}
use native.Mathlib.Omega.{arith}
use Rattle.rules.specs.Lists.{count_from}
use Rattle.rules.specs.declared.Side.{Side}
use Rattle.rules.specs.declared.Side.TheVariants.{First as first, Second as second}
use Rattle.rules.specs.Car.{new}
use Rattle.rings.specs.Members.{Mem, up_from}
use Rattle.rings.proofs.Members.{same_or_other, below_mem}
use Rattle.rings.proofs.Pigeons.{below_up_from}
use Rattle.residents.specs.Residents.{lists, Room as ResidentsRoom}
use Rattle.residents.proofs.Making.{make_residents}
use Rattle.ghosts.specs.Ghosts.{Ghosts, Room as GhostsRoom}
use Rattle.ghosts.proofs.Laws.{make_ghosts}
use Rattle.lookup.specs.Buckets.{buckets_of, places_of}
use Rattle.lookup.specs.Part.{Room as LookupRoom}
use Rattle.lookup.specs.Changes.{Made}
use Rattle.lookup.proofs.Making.{make_does}
use Rattle.area_state.specs.Parts.{Parts, ghosts_of, ghost_place}
use Rattle.area_state.specs.Changes.{made}
use Rattle.area_state.proofs.Sides.{place_below}
use Rattle.area_state.proofs.HoldsAs.{HoldsAs, state_as, Becomes, becomes}

-- the parts have room for a cache of capacity c
pub record HaveRoom (c : ℕ) (p : Parts) : Type 0 where
  pub small : c ≤ 1024
  pub residents : ResidentsRoom p.residents c
  pub ghosts : (i : Side) → GhostsRoom (ghosts_of i p) c
  pub lookup : LookupRoom p.lookup (places_of c) (buckets_of c)

up_count : (a n : ℕ) → up_from a n ≡ count_from a n
up_count a zero = refl
up_count a (suc n) = ap (λ (l : List ℕ). a ∷ l) (up_count (suc a) n)

module _ (c : ℕ) (p : Parts) (room : HaveRoom c p) where
  slots : ℕ → List ℕ
  slots = lists [] [] (up_from 0 c)

  none_listed : (i x : ℕ) → i < 2 → Mem x (slots i) → ⊥
  unfolding slots lists
  none_listed i x h k = ⊎_elim (λ q. rw q at k) (λ n. let z : i ≡ 1 = omega arith in rw z at k) (same_or_other i 0)

  low : (x : ℕ) → Mem x (up_from 0 c) → x < c
  low x k = below_mem c (up_from 0 c) x (below_up_from c 0 c (omega arith)) k

  blank : Made p.lookup (made c p).lookup (places_of c) (buckets_of c)
  unfolding made
  blank = make_does p.lookup (places_of c) (buckets_of c) room.lookup

  ghosts_now : (i : Side) → Ghosts (ghosts_of i (made c p)) c [] (up_from 0 c)
  unfolding made
  ghosts_now first = make_ghosts p.ghosts1 c (room.ghosts first)
  ghosts_now second = make_ghosts p.ghosts2 c (room.ghosts second)

  holds_now : HoldsAs c (made c p) slots (λ i. []) (λ i. up_from 0 c)
  unfolding made slots lists
  holds_now =
      record {
        small = room.small;
        target = omega arith;
        residents = make_residents p.residents c room.residents;
        ghosts = ghosts_now;
        table = blank.table;
        listed = λ i x h k. absurd (none_listed i x h k);
        free = λ x k. let l : x < c = low x k in blank.dead x (omega arith);
        recorded = λ i x k. absurd k;
        spared = λ i x k. blank.dead (ghost_place i c x) (place_below i c x (low x k));
      }

  -- AN EMPTY CACHE
  pub made_becomes : Becomes c (made c p) (new c)
  unfolding made slots lists new state_as
  made_becomes = becomes c (made c p) slots (λ i. []) (λ i. up_from 0 c) holds_now (new c) (rw (up_count 0 c) refl)

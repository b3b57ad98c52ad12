-- Lists that have passed: what their tests say of the parts, and that no count passes c. Assumes nothing.
use mathlib.Core.Path.{◌≡◌, refl}
use mathlib.Core.Bool.{Bool, true, false, cond, false≢true}
use Prim.Native.Nat.{ℕ, ◌+◌, ◌≤◌}
use native.Mathlib.Omega.{arith}
use lib.ListN.{length}
use Rattle.rules.specs.declared.Side.{Side}
use Rattle.rules.specs.declared.Side.TheVariants.{First as first, Second as second}
use Rattle.residents.specs.Residents as residents
use Rattle.residents.specs.Tests.{residents_test}
use Rattle.residents.proofs.Tests.{residents_sound, residents_complete}
use Rattle.ghosts.specs.Ghosts as ghosts
use Rattle.ghosts.specs.Ghosts.{ghosts_test}
use Rattle.ghosts.proofs.Tests.{ghosts_sound, ghosts_complete}
use Rattle.area_state.specs.Parts.{Parts, ghosts_of}
use Rattle.area_state.proofs.Making.{HaveRoom}
use Rattle.state_check.specs.Check.{lists_test}

-- both of two tests
pub both : (t u : Bool) → cond t u false ≡ true → (t ≡ true) × (u ≡ true)
both true u q = (refl, q)
both false u q = absurd (false≢true q)

-- the parts have the three lists of slots and both ghost lists
pub record AreLists (c : ℕ) (p : Parts) : Type 0 where
  pub residents : residents.IsResidents p.residents c
  pub ghosts : (i : Side) → ghosts.IsGhosts (ghosts_of i p) c

pub lists_sound : (c : ℕ) (p : Parts) → HaveRoom c p → lists_test c p ≡ true → AreLists c p
unfolding lists_test
lists_sound c p room q = record { residents = residents_sound p.residents c room.residents a.0; ghosts = sides }
  where
    a : (residents_test p.residents c ≡ true) × (cond (ghosts_test p.ghosts1 c) (ghosts_test p.ghosts2 c) false ≡ true)
    a = both (residents_test p.residents c) _ q

    b : (ghosts_test p.ghosts1 c ≡ true) × (ghosts_test p.ghosts2 c ≡ true)
    b = both (ghosts_test p.ghosts1 c) _ a.1

    sides : (i : Side) → ghosts.IsGhosts (ghosts_of i p) c
    sides first = ghosts_sound p.ghosts1 c (room.ghosts first) b.0
    sides second = ghosts_sound p.ghosts2 c (room.ghosts second) b.1

pub lists_complete : (c : ℕ) (p : Parts) → AreLists c p → lists_test c p ≡ true
unfolding lists_test
lists_complete c p a =
    rw (residents_complete p.residents c _ a.residents, ghosts_complete p.ghosts1 c _ _ (a.ghosts first))
    (ghosts_complete p.ghosts2 c _ _ (a.ghosts second))

-- no count passes c
module _ (c : ℕ) (p : Parts) (a : AreLists c p) where
  pub first_few : residents.count_of p.residents 0 ≤ c
  first_few =
      let t : residents.total (residents.lists_of p.residents c) ≡ c = a.residents.all in
      let n : residents.count_of p.residents 0 ≡ length (residents.lists_of p.residents c 0) = a.residents.counts 0 (omega arith) in
      omega arith

  pub second_few : residents.count_of p.residents 1 ≤ c
  second_few =
      let t : residents.total (residents.lists_of p.residents c) ≡ c = a.residents.all in
      let n : residents.count_of p.residents 1 ≡ length (residents.lists_of p.residents c 1) = a.residents.counts 1 (omega arith) in
      omega arith

  pub ghost_few : (i : Side) → ghosts.count_of (ghosts_of i p) ≤ c
  ghost_few i =
      let n : ghosts.count_of (ghosts_of i p) ≡ length (ghosts.live_of (ghosts_of i p) c) = (a.ghosts i).count in
      let t : length (ghosts.live_of (ghosts_of i p) c) + length (ghosts.spare_of (ghosts_of i p) c) ≡ c = (a.ghosts i).all in
      omega arith

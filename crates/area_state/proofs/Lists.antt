-- What two parts that agree on a slot or a cell read there, and the lists that a resident leaves. Assumes nothing.
use mathlib.Core.Path.{◌≡◌, refl}
use mathlib.Core.List.{List, map}
use Prim.Native.Nat.{ℕ, ◌<◌}
use native.Mathlib.Omega.{arith}
use lib.Dec.{eqb}
use Rattle.rules.specs.State.{entry, list, ghosts, without as without_page}
use Rattle.rules.specs.declared.Side.{Side}
use Rattle.rules.specs.declared.Side.TheVariants.{First as first, Second as second}
use Rattle.rules.specs.Car.{clocked}
use Rattle.rings.specs.Members.{Mem, without}
use Rattle.residents.specs.Residents.{frame_of, bit_of}
use Rattle.lookup.specs.Part.{page_of}
use Rattle.area_state.specs.Parts.{Parts, number_of, ghost_place, resident_of, ghost_of, state_of}
use Rattle.area_state.proofs.Maps.{map_same, without_map}
use Rattle.area_state.proofs.Sides.{number_below}
use Rattle.area_state.proofs.HoldsAs.{HoldsAs, slots_of, live_in, residents_as, ghosts_as}
use Rattle.area_state.proofs.Pages.{slots_distinct, one_slot}

pub resident_same : (c : ℕ) (p q : Parts) (x : ℕ) → page_of q.lookup x ≡ page_of p.lookup x → frame_of q.residents x ≡ frame_of p.residents x → bit_of q.residents c x ≡ bit_of p.residents c x → resident_of c q x ≡ resident_of c p x
unfolding resident_of
resident_same c p q x a b d = rw (a, b, d) refl

pub resident_is : (c : ℕ) (q : Parts) (x page frame bit : ℕ) → page_of q.lookup x ≡ page → frame_of q.residents x ≡ frame → bit_of q.residents c x ≡ bit → resident_of c q x ≡ entry page frame (clocked x (eqb bit 1))
unfolding resident_of
resident_is c q x page frame bit a b d = rw (a, b, d) refl

pub ghost_same : (i : Side) (c : ℕ) (p q : Parts) (g : ℕ) → page_of q.lookup (ghost_place i c g) ≡ page_of p.lookup (ghost_place i c g) → ghost_of i c q g ≡ ghost_of i c p g
unfolding ghost_of
ghost_same i c p q g e = e

pub residents_same : (c : ℕ) (p q : Parts) (L : ℕ → List ℕ) → ((u x : ℕ) → u < 2 → Mem x (L u) → resident_of c q x ≡ resident_of c p x) → (j : Side) → residents_as c q L j ≡ residents_as c p L j
residents_same c p q L h j = map_same (resident_of c q) (resident_of c p) (L (number_of j)) (λ x k. h (number_of j) x (number_below j) k)

-- the ghosts of a side, as the state has them
pub ghosts_are : (i : Side) (c : ℕ) (p : Parts) → ghosts i (state_of c p).lists ≡ map (ghost_of i c p) (live_in c p i)
unfolding state_of
ghosts_are first c p = refl
ghosts_are second c p = refl

pub list_is : (i : Side) (c : ℕ) (p : Parts) → list i (state_of c p).lists ≡ map (resident_of c p) (slots_of c p (number_of i))
unfolding state_of
list_is first c p = refl
list_is second c p = refl

pub ghosts_same : (c : ℕ) (p q : Parts) (live : Side → List ℕ) → ((i : Side) (g : ℕ) → Mem g (live i) → page_of q.lookup (ghost_place i c g) ≡ page_of p.lookup (ghost_place i c g)) → (j : Side) → ghosts_as c q live j ≡ ghosts_as c p live j
ghosts_same c p q live h j = map_same (ghost_of j c q) (ghost_of j c p) (live j) (λ g k. ghost_same j c p q g (h j g k))

-- the resident of slot e leaves the lists by its page
module _ (c : ℕ) (p : Parts) (L : ℕ → List ℕ) (live spare : Side → List ℕ) (a : HoldsAs c p L live spare) (i e : ℕ) (hi : i < 2) (k : Mem e (L i)) where
  pub leaves_list : (j : Side) → without_page (resident_of c p e).page (residents_as c p L j) ≡ map (resident_of c p) (without e (L (number_of j)))
  leaves_list j =
      let hj : number_of j < 2 = number_below j in
      without_map (resident_of c p) (resident_of c p e).page e refl (L (number_of j)) (slots_distinct c p L live spare a (number_of j) (omega arith)) (λ x m q. one_slot c p L live spare a (number_of j) i x e hj hi m k q)

-- An updating insert: a new frame and then the bit, where the resident stands. Assumes nothing.
use mathlib.Core.Path.{◌≡◌, refl, ap, ◌∙◌}
use mathlib.Core.Bool.{Bool, true, false, cond}
use mathlib.Core.List.{List, [], ◌∷◌}
use Prim.Native.Nat.{ℕ}
use lib.Dec.{eqb}
use Rattle.rules.specs.State.{with_frame, changed, changed_in}
use Rattle.rules.specs.Car.{Car, car, Resident, with_bit, touched}
use Rattle.area_state.specs.States.{resident_at, framed_at, marked_at}

twice : (x f : ℕ) (l : List Resident) → changed x (with_bit true) (changed x (with_frame f) l) ≡ changed x (λ e. with_bit true (with_frame f e)) l
twice x f [] = refl
twice x f (e ∷ l) = go (eqb x e.page) refl (twice x f l)
  where
    go : (b : Bool) → eqb x e.page ≡ b → changed x (with_bit true) (changed x (with_frame f) l) ≡ changed x (λ r. with_bit true (with_frame f r)) l → changed x (with_bit true) (cond b (with_frame f e) e ∷ changed x (with_frame f) l) ≡ cond b (with_bit true (with_frame f e)) e ∷ changed x (λ r. with_bit true (with_frame f r)) l
    go true q h = rw (q, h) refl
    go false q h = rw (q, h) refl

pub marked_framed : (e f : ℕ) (s : Car) → resident_at e (framed_at e f s) ≡ with_frame f (resident_at e s) → marked_at e true (framed_at e f s) ≡ touched (resident_at e s).page (λ r. with_bit true (with_frame f r)) s
unfolding marked_at framed_at touched
marked_framed e f s q =
    let x = (resident_at e s).page in
    ap (λ (r : Resident). car (changed_in r.page (with_bit true) (changed_in x (with_frame f) s.lists)) s.free) q
    ∙ (rw (twice x f s.lists.T1, twice x f s.lists.T2) refl)

-- An updating insert: a new frame, and then the front of T2. Assumes nothing.
use mathlib.Core.Path.{◌≡◌, refl, sym, ap, ◌∙◌}
use mathlib.Core.Bool.{Bool, true, false, cond}
use mathlib.Core.List.{List, [], ◌∷◌, map}
use Prim.Native.Nat.{ℕ}
use lib.Dec.{eqb}
use Rattle.rules.specs.State.{Entry, with_frame, changed, without}
use Rattle.rules.specs.Arc.{Plain, to_front}
use Rattle.rules.specs.Car.{Car, Resident}
use Rattle.area_state.specs.States.{resident_at, framed_at, fronted_at}
use Rattle.area.specs.Stored.{plainly, arc_of}
use Rattle.arc.proofs.Plain.{without_plainly, fronted_plainly}

-- ---- lists in which a frame is changed
without_changed : (x f : ℕ) (l : List Resident) → without x (changed x (with_frame f) l) ≡ without x l
without_changed x f [] = refl
without_changed x f (e ∷ l) = go (eqb x e.page) refl (without_changed x f l)
  where
    go : (b : Bool) → eqb x e.page ≡ b → without x (changed x (with_frame f) l) ≡ without x l → without x (cond b (with_frame f e) e ∷ changed x (with_frame f) l) ≡ cond b (without x l) (e ∷ without x l)
    go true q h = rw q h
    go false q h = rw q (ap (λ (t : List Resident). e ∷ t) h)

view_changed : (x f : ℕ) (l : List Resident) → without x (map plainly (changed x (with_frame f) l)) ≡ without x (map plainly l)
view_changed x f l = without_plainly x (changed x (with_frame f) l) ∙ ap (map plainly) (without_changed x f l) ∙ sym (without_plainly x l)

-- ---- the state
front_framed : (r : Entry Plain) (e f : ℕ) (s : Car) → r.page ≡ (resident_at e s).page → to_front r (arc_of (framed_at e f s)) ≡ to_front r (arc_of s)
unfolding to_front arc_of framed_at
front_framed r e f s p =
    let x = (resident_at e s).page in
    rw (p, view_changed x f s.lists.T1, view_changed x f s.lists.T2) refl

pub fronted_framed : (e f : ℕ) (s : Car) → resident_at e (framed_at e f s) ≡ with_frame f (resident_at e s) → arc_of (fronted_at e (framed_at e f s)) ≡ to_front (with_frame f (plainly (resident_at e s))) (arc_of s)
fronted_framed e f s q =
    fronted_plainly e (framed_at e f s)
    ∙ ap (λ (r : Resident). to_front (plainly r) (arc_of (framed_at e f s))) q
    ∙ front_framed (with_frame f (plainly (resident_at e s))) e f s refl

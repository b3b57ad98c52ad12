-- What the state is that parts read as. In order: the resident of a slot; the pages and slots of the lists; the state obeys the rules. Assumes nothing.
use mathlib.Core.Path.{◌≡◌, refl, sym, ap, ◌∙◌}
use mathlib.Core.Bool.{Bool, true, false}
use mathlib.Core.Logic.{⊎_elim}
use mathlib.Core.List.{List, [], ◌∷◌, ◌++◌, map}
use Prim.Native.Nat.{ℕ, ◌+◌, ◌<◌, ◌≤◌}
use native.Mathlib.Omega.{arith}
use lib.ListN.{length, length-map}
use lib.Dec.{ltb}
use borrow.Author.Tests.{ltb-true, ltb-false}
use Rattle.rules.specs.Lists.{one, times}
use Rattle.rules.specs.State.{pages, Sound}
use Rattle.rules.specs.declared.Side.{Side}
use Rattle.rules.specs.declared.Side.TheVariants.{First as first, Second as second}
use Rattle.rules.specs.Car.{slots, taken, Obeys}
use Rattle.rules.proofs.ListLaws.{times_append}
use Rattle.rings.specs.Members.{Mem, Distinct}
use Rattle.rings.specs.Rings.{together}
use Rattle.rings.proofs.Members.{same_or_other, fresh, mem_append, mem_left, mem_right, distinct_append, below_fresh}
use Rattle.rings.proofs.Family.{mem_together, together_distinct, together_below}
use Rattle.residents.specs.Residents.{links_of, total}
use Rattle.lookup.specs.Part.{page_of}
use Rattle.area_state.specs.Parts.{Parts, ghost_place, HeldIn, Holds, resident_of, ghost_of, state_of}
use Rattle.area_state.specs.States.{at_slot, resident_at}
use Rattle.area_state.proofs.Counts.{times_once, times_fresh, times_member, mem_map, distinct_map}
use Rattle.area_state.proofs.Maps.{map_append, at_slot_map}
use Rattle.area_state.proofs.Sides.{place_one, place_apart}
use Rattle.area_state.proofs.HoldsAs.{HoldsAs, named, slots_of, live_in, spare_in}
use Rattle.area_state.proofs.Pages.{live_below, slots_apart, slots_distinct, live_distinct, slot_not_ghost, one_place, slot_somewhere}

-- ---- the resident of a slot
pub slot_is : (c : ℕ) (p : Parts) (e : ℕ) → (resident_of c p e).more.slot ≡ e
unfolding resident_of
slot_is c p e = refl

pub page_is : (c : ℕ) (p : Parts) (e : ℕ) → (resident_of c p e).page ≡ page_of p.lookup e
unfolding resident_of
page_is c p e = refl

-- a slot of T1 or T2 is one of both together
pub in_both : (L : ℕ → List ℕ) (i x : ℕ) → i < 2 → Mem x (L i) → Mem x (L 0 ++ L 1)
in_both L i x h k = ⊎_elim (λ q. mem_left x (L 0) (L 1) (rw q at k)) (λ n. let z : i ≡ 1 = omega arith in mem_right x (L 0) (L 1) (rw z at k)) (same_or_other i 0)

pub both_in : (L : ℕ → List ℕ) (x : ℕ) → Mem x (L 0 ++ L 1) → (i : ℕ) × (i < 2) × Mem x (L i)
both_in L x k = ⊎_elim (λ m. (0, omega arith, m)) (λ m. (1, omega arith, m)) (mem_append x (L 0) (L 1) k)

pub resident_at_lem : (c : ℕ) (p : Parts) (i e : ℕ) → i < 2 → Mem e (slots_of c p i) → resident_at e (state_of c p) ≡ resident_of c p e
unfolding resident_at state_of
resident_at_lem c p i e h k =
    ap (at_slot e) (sym (map_append (resident_of c p) (slots_of c p 0) (slots_of c p 1)))
    ∙ at_slot_map (resident_of c p) e (slots_of c p 0 ++ slots_of c p 1) (slot_is c p) (in_both (slots_of c p) i e h k)

-- ---- the pages and the slots of lists
pub pages_read : (c : ℕ) (p : Parts) (xs : List ℕ) → pages (map (resident_of c p) xs) ≡ map (page_of p.lookup) xs
pages_read c p [] = refl
pages_read c p (x ∷ xs) = rw (page_is c p x, pages_read c p xs) refl

pub slots_read : (c : ℕ) (p : Parts) (xs : List ℕ) → slots (map (resident_of c p) xs) ≡ xs
slots_read c p [] = refl
slots_read c p (x ∷ xs) = rw (slot_is c p x, slots_read c p xs) refl

pub ghosts_read : (i : Side) (c : ℕ) (p : Parts) (xs : List ℕ) → map (ghost_of i c p) xs ≡ map (page_of p.lookup) (map (ghost_place i c) xs)
unfolding ghost_of
ghosts_read i c p [] = refl
ghosts_read i c p (x ∷ xs) = ap (λ (l : List ℕ). page_of p.lookup (ghost_place i c x) ∷ l) (ghosts_read i c p xs)

-- ---- the rules
module _ (c : ℕ) (p : Parts) (L : ℕ → List ℕ) (live spare : Side → List ℕ) (a : HoldsAs c p L live spare) where
  -- every place that is held
  resident_places : List ℕ
  resident_places = L 0 ++ L 1

  places_at : Side → List ℕ
  places_at i = map (ghost_place i c) (live i)

  ghost_places : List ℕ
  ghost_places = places_at first ++ places_at second

  every : List ℕ
  every = resident_places ++ ghost_places

  every_held : (x : ℕ) → Mem x every → HeldIn c p x
  unfolding every resident_places ghost_places places_at
  every_held x k = ⊎_elim (λ m. let r = both_in L x m in a.listed r.0 x r.1 r.2) (λ m. ⊎_elim (ghost_held first x) (ghost_held second x) (mem_append x (places_at first) (places_at second) m)) (mem_append x resident_places ghost_places k)
    where
      ghost_held : (i : Side) (x : ℕ) → Mem x (map (ghost_place i c) (live i)) → HeldIn c p x
      ghost_held i x m = let r = mem_map (ghost_place i c) x (live i) m in rw r.2 (a.recorded i r.0 r.1)

  residents_distinct : Distinct resident_places
  unfolding resident_places
  residents_distinct = distinct_append (L 0) (L 1) (slots_distinct c p L live spare a 0 (omega arith)) (slots_distinct c p L live spare a 1 (omega arith)) (slots_apart c p L live spare a 0 1 (omega arith) (omega arith) (omega arith))

  side_distinct : (i : Side) → Distinct (places_at i)
  unfolding places_at
  side_distinct i = distinct_map (ghost_place i c) (live i) (live_distinct c p L live spare a i) (place_one i c)

  ghosts_distinct : Distinct ghost_places
  unfolding ghost_places places_at
  ghosts_distinct =
      distinct_append (places_at first) (places_at second) (side_distinct first) (side_distinct second)
      (λ x k. let r = mem_map (ghost_place first c) x (live first) k in fresh x (places_at second) (λ m. let s = mem_map (ghost_place second c) x (live second) m in place_apart first c r.0 s.0 (live_below c p L live spare a first r.0 r.1) (live_below c p L live spare a second s.0 s.1) (sym s.2 ∙ r.2)))

  every_distinct : Distinct every
  unfolding every resident_places ghost_places places_at
  every_distinct =
      distinct_append resident_places ghost_places residents_distinct ghosts_distinct
      (λ x k. let r = both_in L x k in let h : r.0 < 2 = r.1 in fresh x ghost_places (λ m. ⊎_elim (off r.0 x (omega arith) r.2 first) (off r.0 x (omega arith) r.2 second) (mem_append x (places_at first) (places_at second) m)))
    where
      off : (i x : ℕ) → i < 3 → Mem x (L i) → (s : Side) → Mem x (map (ghost_place s c) (live s)) → ⊥
      off i x h k s m = let r = mem_map (ghost_place s c) x (live s) m in slot_not_ghost c p L live spare a i x s r.0 h k r.2

  page : ℕ → ℕ
  page x = page_of p.lookup x

  -- no page stands twice
  pub pages_once : (x : ℕ) → times x (pages (map (resident_of c p) (L 0))) + times x (pages (map (resident_of c p) (L 1))) + times x (map (ghost_of first c p) (live first)) + times x (map (ghost_of second c p) (live second)) ≤ 1
  unfolding every resident_places ghost_places places_at page
  pages_once x =
      let once : times x (map page every) ≤ 1 = times_once page x every every_distinct (λ y z k j q. one_place c p L live spare a y z (every_held y k) (every_held z j) q) in
      let split : (xs ys : List ℕ) → times x (map page (xs ++ ys)) ≡ times x (map page xs) + times x (map page ys) = λ xs ys. ap (times x) (map_append page xs ys) ∙ times_append x (map page xs) (map page ys) in
      rw (pages_read c p (L 0), pages_read c p (L 1), ghosts_read first c p (live first), ghosts_read second c p (live second))
      (omega (arith, split resident_places ghost_places, split (L 0) (L 1), split (places_at first) (places_at second)))

  -- each slot once
  pub slots_once : (k : ℕ) → times k (L 0) + times k (L 1) + times k (L 2) ≡ one (ltb k c)
  slots_once k = go (ltb k c) refl
    where
      all : times k (together L 3) ≡ times k (L 0) + times k (L 1) + times k (L 2)
      all = omega (arith, times_append k (L 2) (L 1 ++ (L 0 ++ [])), times_append k (L 1) (L 0 ++ []), times_append k (L 0) [])

      go : (t : Bool) → ltb k c ≡ t → times k (L 0) + times k (L 1) + times k (L 2) ≡ one t
      go true q =
          let s = slot_somewhere c p L live spare a k (ltb-true k c q) in
          let z : times k (together L 3) ≡ 1 = times_member k (together L 3) (together_distinct (links_of c p.residents) c 3 L a.residents.rings) (mem_together L 3 s.0 k s.1 s.2) in
          omega (arith, all)
      go false q =
          let z : times k (together L 3) ≡ 0 = times_fresh k (together L 3) (below_fresh c k (together L 3) (ltb-false k c q) (together_below (links_of c p.residents) c 3 L a.residents.rings)) in
          omega (arith, all)

module _ (c : ℕ) (p : Parts) (h : Holds c p) where
  -- THE STATE OBEYS THE RULES of every policy, and CAR's
  pub state_sound : Sound (state_of c p).lists
  unfolding state_of
  state_sound =
      let t : total (slots_of c p) ≡ c = h.residents.all in
      let g1 : length (live_in c p first) + length (spare_in c p first) ≡ c = (h.ghosts first).all in
      let g2 : length (live_in c p second) + length (spare_in c p second) ≡ c = (h.ghosts second).all in
      record {
        distinct = pages_once c p (slots_of c p) (live_in c p) (spare_in c p) (named c p h);
        room = omega (arith, length-map (slots_of c p 0) (resident_of c p), length-map (slots_of c p 1) (resident_of c p));
        ghosts1 = omega (arith, length-map (live_in c p first) (ghost_of first c p));
        ghosts2 = omega (arith, length-map (live_in c p second) (ghost_of second c p));
        aim = h.target;
      }

  pub state_slotted : (k : ℕ) → taken k (state_of c p).lists + times k (state_of c p).free ≡ one (ltb k c)
  unfolding state_of
  state_slotted k = rw (slots_read c p (slots_of c p 0), slots_read c p (slots_of c p 1)) (slots_once c p (slots_of c p) (live_in c p) (spare_in c p) (named c p h) k)

  pub state_obeys : Obeys (state_of c p)
  unfolding state_of
  state_obeys = record { sound = state_sound; slotted = state_slotted }

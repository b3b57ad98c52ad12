-- A resident leaves, and its slot is the top free one. In order: the lists of slots; what the code asks; the resident is removed. Assumes nothing.
use mathlib.Core.Path.{◌≡◌, refl, sym, ap, ◌∙◌}
use mathlib.Core.Logic.{◌⊎◌, inl, inr, ⊎_elim}
use mathlib.Core.List.{List, ◌∷◌, map}
use Prim.Native.Nat.{ℕ, ◌<◌, ◌≤◌}
use native.Mathlib.Omega.{arith}
use Rattle.rules.specs.State.{leaves, without as without_page}
use Rattle.rules.specs.declared.Side.{Side}
use Rattle.rules.specs.declared.Side.TheVariants.{First as first, Second as second}
use Rattle.rules.specs.Car.{Car, car, Resident}
use Rattle.rings.specs.Members.{Mem, without}
use Rattle.rings.specs.Rings.{changed}
use Rattle.rings.proofs.Members.{mem_without}
use Rattle.residents.specs.Residents.{Residents}
use Rattle.residents.specs.Changes.{freed}
use Rattle.residents.proofs.Steps.{free_residents}
use Rattle.residents.proofs.Slots.{same_freed}
use Rattle.lookup.specs.Buckets.{buckets_of, places_of}
use Rattle.lookup.specs.Part.{page_of}
use Rattle.lookup.specs.Lookup.{bucket_in}
use Rattle.lookup.specs.Changes.{CanTake, Taken}
use Rattle.lookup.proofs.Taking.{can_take, take_does}
use Rattle.area_state.specs.Parts.{Parts, ghost_place, Holds, resident_of, state_of}
use Rattle.area_state.specs.Changes.{removed}
use Rattle.area_state.specs.States.{removed_at}
use Rattle.area_state.proofs.Maps.{map_same}
use Rattle.area_state.proofs.Sides.{place_high, place_below}
use Rattle.area_state.proofs.HoldsAs.{HoldsAs, named, slots_of, live_in, spare_in, state_as, residents_as, ghosts_as, Becomes, reads_as, becomes, states_same}
use Rattle.area_state.proofs.Pages.{slot_below, live_below, spare_below}
use Rattle.area_state.proofs.Reading.{resident_at_lem}
use Rattle.area_state.proofs.Lists.{resident_same, ghosts_same, leaves_list}
use Rattle.area_state.proofs.Slots.{less, mem_moved, fronted_lists, less_none, less_not}

-- a resident leaves slot e: of a state of named lists
left_as : (x e c t : ℕ) (T : Side → List Resident) (B : Side → List ℕ) (f : List ℕ) → car (leaves x (state_as c t T B f).lists) (e ∷ (state_as c t T B f).free) ≡ state_as c t (λ j. without_page x (T j)) B (e ∷ f)
unfolding state_as
left_as x e c t T B f = refl

-- the lists of slots once e has left
abbrev pub freed_lists : ℕ → (ℕ → List ℕ) → ℕ → List ℕ
freed_lists e L = changed (less e L) 2 (e ∷ without e (L 2))

-- x stands in one of them: in T1 or T2, not being e; or it is free
pub mem_left : (e : ℕ) (L : ℕ → List ℕ) (u x : ℕ) → u < 2 → Mem x (freed_lists e L u) → Mem x (without e (L u))
mem_left e L u x hu k = ⊎_elim (λ z. absurd (let q : u ≡ 2 = z.1 in let n : ⊥ = omega arith in n)) (λ m. m) (mem_moved e 2 L (e ∷ without e (L 2)) (λ y m. m) u x k)

pub mem_free : (e : ℕ) (L : ℕ → List ℕ) (x : ℕ) → Mem x (freed_lists e L 2) → (x ≡ e) ⊎ Mem x (without e (L 2))
mem_free e L x k = ⊎_elim (λ z. inl z.0) (λ m. inr m) (mem_moved e 2 L (e ∷ without e (L 2)) (λ y m. m) 2 x k)

module _ (c : ℕ) (p : Parts) (L : ℕ → List ℕ) (live spare : Side → List ℕ) (a : HoldsAs c p L live spare) (i e : ℕ) (hi : i < 2) (k : Mem e (L i)) where
  low : e < c
  low = slot_below c p L live spare a i e (omega arith) k

  pub left_residents : Residents (freed c e p.residents) c (freed_lists e L)
  left_residents = fronted_lists c p L live spare a i 2 e (omega arith) (omega arith) k (freed c e p.residents) (free_residents p.residents c L a.residents i e hi k)

  pub left_free : freed_lists e L 2 ≡ e ∷ L 2
  unfolding changed
  left_free = ap (λ (l : List ℕ). e ∷ l) (less_none c p L live spare a i e 2 (omega arith) (omega arith) (omega arith) k)

  -- q has these residents, and the pages of the slots that p has
  module _ (q : Parts) (is : q.residents ≡ freed c e p.residents) (pages : (z : ℕ) → z < c → page_of q.lookup z ≡ page_of p.lookup z) where
    stay : (u : ℕ) → u < 2 → map (resident_of c q) (without e (L u)) ≡ map (resident_of c p) (without e (L u))
    stay u hu =
        map_same (resident_of c q) (resident_of c p) (without e (L u))
        (λ y m. let ly : y < c = slot_below c p L live spare a u y (omega arith) (mem_without e y (L u) m) in let s = same_freed p.residents c e i a.residents.room low hi (a.residents.slots i e hi k).list y ly in resident_same c p q y (pages y ly) (rw is s.frame) (rw is s.bit))

    pub left_lists : (j : Side) → residents_as c q (freed_lists e L) j ≡ without_page (resident_of c p e).page (residents_as c p L j)
    unfolding changed
    left_lists first = stay 0 (omega arith) ∙ sym (leaves_list c p L live spare a i e hi k first)
    left_lists second = stay 1 (omega arith) ∙ sym (leaves_list c p L live spare a i e hi k second)

-- A RESIDENT IS REMOVED
module _ (c : ℕ) (p : Parts) (h : Holds c p) (i e : ℕ) (hi : i < 2) (k : Mem e (slots_of c p i)) where
  a : HoldsAs c p (slots_of c p) (live_in c p) (spare_in c p)
  a = named c p h

  below : e < c
  below = slot_below c p (slots_of c p) (live_in c p) (spare_in c p) a i e (omega arith) k

  pub may_take_slot : CanTake p.lookup (places_of c) e
  may_take_slot = can_take p.lookup (places_of c) (buckets_of c) (bucket_in p.lookup (places_of c)) h.table e (h.listed i e hi k)

  q : Parts
  q = removed c e p

  took : Taken p.lookup q.lookup (places_of c) (buckets_of c) e
  unfolding q removed
  took = take_does p.lookup (places_of c) (buckets_of c) (bucket_in p.lookup (places_of c)) h.table e (h.listed i e hi k)

  off : (s : Side) (g : ℕ) → ghost_place s c g ≡ e → ⊥
  off s g z = let l : e < c = below in let n : c ≤ ghost_place s c g = place_high s c g in omega arith

  holds_now : HoldsAs c q (freed_lists e (slots_of c p)) (live_in c p) (spare_in c p)
  unfolding q removed
  holds_now =
      record {
        small = h.small;
        target = h.target;
        residents = left_residents c p (slots_of c p) (live_in c p) (spare_in c p) a i e hi k;
        ghosts = h.ghosts;
        table = took.table;
        listed = λ u y hu m. let n : Mem y (without e (slots_of c p u)) = mem_left e (slots_of c p) u y hu m in took.stays y (less_not c p (slots_of c p) (live_in c p) (spare_in c p) a e u y (omega arith) n) (h.listed u y hu (mem_without e y (slots_of c p u) n));
        free = λ y m. ⊎_elim (λ z. rw z took.died) (λ n. let o : Mem y (slots_of c p 2) = mem_without e y (slots_of c p 2) n in let ly : y < c = slot_below c p (slots_of c p) (live_in c p) (spare_in c p) a 2 y (omega arith) o in took.dead y (omega arith) (h.free y o)) (mem_free e (slots_of c p) y m);
        recorded = λ s g m. took.stays (ghost_place s c g) (off s g) (h.recorded s g m);
        spared = λ s g m. took.dead (ghost_place s c g) (place_below s c g (spare_below c p (slots_of c p) (live_in c p) (spare_in c p) a s g m)) (h.spare s g m);
      }

  pub removed_becomes : Becomes c (removed c e p) (removed_at e (state_of c p))
  unfolding q removed removed_at
  removed_becomes =
      rw (resident_at_lem c p i e hi k)
      (becomes c q (freed_lists e (slots_of c p)) (live_in c p) (spare_in c p) holds_now (car (leaves (resident_of c p e).page (state_of c p).lists) (e ∷ (state_of c p).free))
      (states_same c p.target p.target (residents_as c q (freed_lists e (slots_of c p))) (λ j. without_page (resident_of c p e).page (residents_as c p (slots_of c p) j)) (ghosts_as c q (live_in c p)) (ghosts_as c p (live_in c p)) (freed_lists e (slots_of c p) 2) (e ∷ slots_of c p 2)
      refl
      (left_lists c p (slots_of c p) (live_in c p) (spare_in c p) a i e hi k q refl (λ z l. took.pages z (omega arith)))
      (ghosts_same c p q (live_in c p) (λ s g m. took.pages (ghost_place s c g) (place_below s c g (live_below c p (slots_of c p) (live_in c p) (spare_in c p) a s g m))))
      (left_free c p (slots_of c p) (live_in c p) (spare_in c p) a i e hi k)
      ∙ sym (ap (λ (s : Car). car (leaves (resident_of c p e).page s.lists) (e ∷ s.free)) (reads_as c p (slots_of c p) (live_in c p) (spare_in c p) a) ∙ left_as (resident_of c p e).page e c p.target (residents_as c p (slots_of c p)) (ghosts_as c p (live_in c p)) (slots_of c p 2))))

-- The places of parts whose lists have passed. In order: the dead places, by their test; every place that has to be held; the others are free slots and spare cells.
-- Assumes nothing.
use mathlib.Core.Path.{◌≡◌, refl, sym, ◌∙◌}
use mathlib.Core.Bool.{true}
use mathlib.Core.Logic.{◌⊎◌, inl, inr, ⊎_elim}
use mathlib.Core.List.{List, [], ◌∷◌, ◌++◌, map}
use Prim.Native.Nat.{ℕ, ◌+◌, ◌-◌, ◌*◌, ◌<◌}
use native.Mathlib.Omega.{arith}
use native.Mathlib.Nat.{zero-add}
use lib.ListN.{length, length-append, length-map}
use Rattle.rules.specs.declared.Side.{Side}
use Rattle.rules.specs.declared.Side.TheVariants.{First as first, Second as second}
use Rattle.rings.specs.Members.{Mem, Fresh, Distinct}
use Rattle.rings.specs.Rings.{together}
use Rattle.rings.proofs.Members.{same_or_other, low_or_high, not_mem, fresh, mem_append, mem_left, mem_right, distinct_append}
use Rattle.rings.proofs.Family.{together_covers}
use Rattle.residents.specs.Residents.{links_of, total}
use Rattle.ghosts.proofs.Laws.{live_or_spare}
use Rattle.lookup.specs.Lookup.{Dead}
use Rattle.lookup.specs.Buckets.{places_of}
use Rattle.lookup.proofs.Counts.{dead_told, tell_dead}
use Rattle.area_state.specs.Parts.{Parts, ghosts_of, ghost_place, HeldIn, DeadIn, Holds}
use Rattle.area_state.proofs.Counts.{mem_map, map_mem, distinct_map}
use Rattle.area_state.proofs.Sides.{place_one, place_apart}
use Rattle.area_state.proofs.HoldsAs.{named, slots_of, live_in, spare_in}
use Rattle.area_state.proofs.Pages.{live_below, slots_apart, slots_distinct, live_distinct, slot_not_ghost}
use Rattle.area_state.proofs.Reading.{in_both, both_in}
use Rattle.state_check.specs.Check.{dead_at, deads_test, live_count}
use Rattle.state_check.proofs.Lists.{both, AreLists}

-- ---- the dead places, by their test
pub deads_sound : (k : List ℕ) (m from : ℕ) (xs : List ℕ) → deads_test k m from xs ≡ true → (x : ℕ) → Mem x xs → Dead k m (from + x)
unfolding dead_at
deads_sound k m from (y ∷ xs) q x (inl z) = rw z (dead_told k m (from + y) (both (dead_at k m (from + y)) _ q).0)
deads_sound k m from (y ∷ xs) q x (inr j) = deads_sound k m from xs (both (dead_at k m (from + y)) _ q).1 x j
deads_sound k m from [] q x x4 = elim x4 [ ]

pub deads_complete : (k : List ℕ) (m from : ℕ) (xs : List ℕ) → ((x : ℕ) → Mem x xs → Dead k m (from + x)) → deads_test k m from xs ≡ true
unfolding dead_at
deads_complete k m from [] h = refl
deads_complete k m from (y ∷ xs) h = rw (tell_dead k m (from + y) (h y (inl refl))) (deads_complete k m from xs (λ x j. h x (inr j)))

pub from_zero : (k : List ℕ) (m x : ℕ) → Dead k m (0 + x) → Dead k m x
from_zero k m x d = rw (zero-add x) at d

pub to_zero : (k : List ℕ) (m x : ℕ) → Dead k m x → Dead k m (0 + x)
to_zero k m x d = rw (zero-add x) d

-- ---- every place that has to be held: the slots of T1 and T2, the cells of both ghost lists
abbrev pub places_at : ℕ → Parts → Side → List ℕ
places_at c p i = map (ghost_place i c) (live_in c p i)

abbrev pub every : ℕ → Parts → List ℕ
every c p = (slots_of c p 0 ++ slots_of c p 1) ++ (places_at c p first ++ places_at c p second)

pub slot_every : (c : ℕ) (p : Parts) (i x : ℕ) → i < 2 → Mem x (slots_of c p i) → Mem x (every c p)
slot_every c p i x h k = mem_left x (slots_of c p 0 ++ slots_of c p 1) (places_at c p first ++ places_at c p second) (in_both (slots_of c p) i x h k)

pub ghost_every : (c : ℕ) (p : Parts) (i : Side) (g : ℕ) → Mem g (live_in c p i) → Mem (ghost_place i c g) (every c p)
ghost_every c p first g k = mem_right (ghost_place first c g) (slots_of c p 0 ++ slots_of c p 1) (places_at c p first ++ places_at c p second) (mem_left (ghost_place first c g) (places_at c p first) (places_at c p second) (map_mem (ghost_place first c) g (live_in c p first) k))
ghost_every c p second g k = mem_right (ghost_place second c g) (slots_of c p 0 ++ slots_of c p 1) (places_at c p first ++ places_at c p second) (mem_right (ghost_place second c g) (places_at c p first) (places_at c p second) (map_mem (ghost_place second c) g (live_in c p second) k))

module _ (c : ℕ) (p : Parts) (a : AreLists c p) where
  -- as many as the counts say
  pub every_count : length (every c p) ≡ live_count p
  unfolding live_count
  every_count =
      omega (
        arith,
        length-append (slots_of c p 0 ++ slots_of c p 1) (places_at c p first ++ places_at c p second),
        length-append (slots_of c p 0) (slots_of c p 1),
        length-append (places_at c p first) (places_at c p second),
        length-map (live_in c p first) (ghost_place first c),
        length-map (live_in c p second) (ghost_place second c),
        a.residents.counts 0 (omega arith),
        a.residents.counts 1 (omega arith),
        (a.ghosts first).count,
        (a.ghosts second).count,
      )

  slots_all : length (together (slots_of c p) 3) ≡ c
  slots_all =
      let t : total (slots_of c p) ≡ c = a.residents.all in
      omega (arith, length-append (slots_of c p 0) [], length-append (slots_of c p 1) (slots_of c p 0 ++ []), length-append (slots_of c p 2) (slots_of c p 1 ++ (slots_of c p 0 ++ [])))

  somewhere : (x : ℕ) → x < c → (i : ℕ) × (i < 3) × Mem x (slots_of c p i)
  somewhere x h = together_covers (links_of c p.residents) c 3 (slots_of c p) a.residents.rings slots_all x h

  -- ---- any other place is a free slot or a spare cell, and so it is dead
  module _ (free : (x : ℕ) → Mem x (slots_of c p 2) → DeadIn c p x) (spare : (i : Side) (x : ℕ) → Mem x (spare_in c p i) → DeadIn c p (ghost_place i c x)) where
    other_slot : (z : ℕ) → z < c → Fresh z (every c p) → DeadIn c p z
    other_slot z h f = let s = somewhere z h in go s.0 s.1 s.2 (same_or_other s.0 2)
      where
        go : (i : ℕ) → i < 3 → Mem z (slots_of c p i) → (i ≡ 2) ⊎ (i ≡ 2 → ⊥) → DeadIn c p z
        go i hi m (inl q) = free z (rw q at m)
        go i hi m (inr n) = absurd (not_mem z (every c p) f (slot_every c p i z (omega arith) m))

    other_cell : (i : Side) (z g : ℕ) → g < c → z ≡ ghost_place i c g → Fresh z (every c p) → DeadIn c p z
    other_cell i z g h q f =
        ⊎_elim
        (λ m. absurd (not_mem (ghost_place i c g) (every c p) (rw q at f) (ghost_every c p i g m)))
        (λ m. rw q (spare i g m))
        (live_or_spare (ghosts_of i p) c (live_in c p i) (spare_in c p i) (a.ghosts i) g h)

    pub others_dead : (z : ℕ) → z < places_of c → Fresh z (every c p) → DeadIn c p z
    others_dead z h f =
        ⊎_elim
        (λ l. other_slot z l f)
        (λ l. ⊎_elim (λ m. other_cell first z (z - c) (omega arith) (omega arith) f) (λ m. other_cell second z (z - 2 * c) (omega arith) (omega arith) f) (low_or_high z (2 * c)))
        (low_or_high z c)

-- ---- of parts that hold a cache: each of them is held, and none stands twice
module _ (c : ℕ) (p : Parts) (h : Holds c p) where
  ghost_held : (i : Side) (x : ℕ) → Mem x (places_at c p i) → HeldIn c p x
  ghost_held i x m = let r = mem_map (ghost_place i c) x (live_in c p i) m in rw r.2 (h.recorded i r.0 r.1)

  pub every_held : (x : ℕ) → Mem x (every c p) → HeldIn c p x
  every_held x k =
      ⊎_elim
      (λ m. let r = both_in (slots_of c p) x m in h.listed r.0 x r.1 r.2)
      (λ m. ⊎_elim (ghost_held first x) (ghost_held second x) (mem_append x (places_at c p first) (places_at c p second) m))
      (mem_append x (slots_of c p 0 ++ slots_of c p 1) (places_at c p first ++ places_at c p second) k)

  side_distinct : (i : Side) → Distinct (places_at c p i)
  side_distinct i = distinct_map (ghost_place i c) (live_in c p i) (live_distinct c p (slots_of c p) (live_in c p) (spare_in c p) (named c p h) i) (place_one i c)

  low : (i : Side) (g : ℕ) → Mem g (live_in c p i) → g < c
  low i g k = live_below c p (slots_of c p) (live_in c p) (spare_in c p) (named c p h) i g k

  ghosts_distinct : Distinct (places_at c p first ++ places_at c p second)
  ghosts_distinct =
      distinct_append (places_at c p first) (places_at c p second) (side_distinct first) (side_distinct second)
      (λ x k. let r = mem_map (ghost_place first c) x (live_in c p first) k in fresh x (places_at c p second) (λ m. let s = mem_map (ghost_place second c) x (live_in c p second) m in place_apart first c r.0 s.0 (low first r.0 r.1) (low second s.0 s.1) (sym s.2 ∙ r.2)))

  residents_distinct : Distinct (slots_of c p 0 ++ slots_of c p 1)
  residents_distinct =
      distinct_append (slots_of c p 0) (slots_of c p 1) (slots_distinct c p (slots_of c p) (live_in c p) (spare_in c p) (named c p h) 0 (omega arith)) (slots_distinct c p (slots_of c p) (live_in c p) (spare_in c p) (named c p h) 1 (omega arith))
      (slots_apart c p (slots_of c p) (live_in c p) (spare_in c p) (named c p h) 0 1 (omega arith) (omega arith) (omega arith))

  off : (i x : ℕ) → i < 3 → Mem x (slots_of c p i) → (s : Side) → Mem x (places_at c p s) → ⊥
  off i x l k s m = let r = mem_map (ghost_place s c) x (live_in c p s) m in slot_not_ghost c p (slots_of c p) (live_in c p) (spare_in c p) (named c p h) i x s r.0 l k r.2

  pub every_distinct : Distinct (every c p)
  every_distinct =
      distinct_append (slots_of c p 0 ++ slots_of c p 1) (places_at c p first ++ places_at c p second) residents_distinct ghosts_distinct
      (λ x k. let r = both_in (slots_of c p) x k in let l : r.0 < 2 = r.1 in fresh x (places_at c p first ++ places_at c p second) (λ m. ⊎_elim (off r.0 x (omega arith) r.2 first) (off r.0 x (omega arith) r.2 second) (mem_append x (places_at c p first) (places_at c p second) m)))

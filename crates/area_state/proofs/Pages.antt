-- Slots, cells and places of parts that hold a cache. In order: bounds; no slot in two lists, no cell in two; a slot that leaves; places and their pages; what a held place is. Assumes nothing.
use mathlib.Core.Path.{◌≡◌, sym, ap, ◌∙◌}
use mathlib.Core.Logic.{◌⊎◌, inl, inr, ⊎_elim}
use mathlib.Core.List.{List, [], ◌++◌}
use Prim.Native.Nat.{ℕ, ◌+◌, ◌-◌, ◌*◌, ◌<◌, ◌≤◌}
use native.Mathlib.Omega.{arith}
use lib.ListN.{length, length-append}
use Rattle.rules.specs.declared.Side.{Side}
use Rattle.rules.specs.declared.Side.TheVariants.{First as first, Second as second}
use Rattle.rings.specs.Members.{Mem, Fresh, Distinct, without}
use Rattle.rings.specs.Rings.{out_of, together}
use Rattle.rings.proofs.Members.{same_or_other, low_or_high, below_mem}
use Rattle.rings.proofs.Ring.{ring_distinct}
use Rattle.rings.proofs.Family.{changed_here, changed_other, rings_apart, together_covers}
use Rattle.residents.specs.Residents.{links_of, total}
use Rattle.ghosts.specs.Ghosts.{links_of as ghost_links}
use Rattle.ghosts.proofs.Laws.{live_or_spare}
use Rattle.lookup.specs.Buckets.{buckets_of, places_of}
use Rattle.lookup.specs.Part.{page_of}
use Rattle.lookup.specs.Lookup.{bucket_in}
use Rattle.lookup.proofs.Table.{held_below, held_unique, dead_unheld}
use Rattle.area_state.specs.Parts.{Parts, ghosts_of, ghost_place, HeldIn, DeadIn, resident_of, ghost_of}
use Rattle.area_state.proofs.Counts.{without_absent}
use Rattle.area_state.proofs.Sides.{place_high, place_one}
use Rattle.area_state.proofs.HoldsAs.{HoldsAs}

-- what a held place is: a slot of T1 or T2, or a cell of a ghost list
pub data Place (c : ℕ) (L : ℕ → List ℕ) (live : Side → List ℕ) (x : ℕ) : Type 0 where
  slot : (i : ℕ) → i < 2 → Mem x (L i) → Place c L live x
  cell : (i : Side) (g : ℕ) → Mem g (live i) → x ≡ ghost_place i c g → Place c L live x

module _ (c : ℕ) (p : Parts) (L : ℕ → List ℕ) (live spare : Side → List ℕ) (a : HoldsAs c p L live spare) where
  -- bounds
  pub slot_below : (i x : ℕ) → i < 3 → Mem x (L i) → x < c
  slot_below i x h k = below_mem c (L i) x (a.residents.rings i h).below k

  pub live_below : (i : Side) (g : ℕ) → Mem g (live i) → g < c
  live_below i g k = below_mem c (live i) g (a.ghosts i).list.below k

  pub spare_below : (i : Side) (g : ℕ) → Mem g (spare i) → g < c
  spare_below i g k = below_mem c (spare i) g (a.ghosts i).spares.below k

  -- no slot in two lists, nor twice in one
  pub slots_apart : (i j : ℕ) → i < 3 → j < 3 → (i ≡ j → ⊥) → (x : ℕ) → Mem x (L i) → Fresh x (L j)
  slots_apart i j hi hj n x k = rings_apart (links_of c p.residents) c 3 L a.residents.rings i j hi hj n x k

  pub slots_distinct : (i : ℕ) → i < 3 → Distinct (L i)
  slots_distinct i h = ring_distinct (links_of c p.residents) c (c + i) (L i) (a.residents.rings i h)

  -- no cell in both lists of a side, nor twice in one
  pub live_distinct : (i : Side) → Distinct (live i)
  live_distinct i = ring_distinct (ghost_links (ghosts_of i p)) c c (live i) (a.ghosts i).list

  -- a slot that leaves list i leaves each list as it is without that slot
  pub out_of_lem : (i e u : ℕ) → i < 3 → u < 3 → Mem e (L i) → out_of i e L u ≡ without e (L u)
  out_of_lem i e u hi hu k =
      ⊎_elim
      (λ q. ap (λ (z : ℕ). out_of i e L z) q ∙ changed_here L i (without e (L i)) ∙ ap (λ (z : ℕ). without e (L z)) (sym q))
      (λ n. changed_other L i (without e (L i)) u n ∙ sym (without_absent e (L u) (slots_apart i u hi hu (λ q. n (sym q)) e k)))
      (same_or_other u i)

  -- places
  pub slot_not_ghost : (i x : ℕ) (s : Side) (g : ℕ) → i < 3 → Mem x (L i) → x ≡ ghost_place s c g → ⊥
  slot_not_ghost i x s g h k q = let l : x < c = slot_below i x h k in let z : c ≤ ghost_place s c g = place_high s c g in omega arith

  pub dead_not_held : (x : ℕ) → DeadIn c p x → HeldIn c p x → ⊥
  dead_not_held x d k = dead_unheld p.lookup (places_of c) (buckets_of c) (bucket_in p.lookup (places_of c)) a.table x d k

  pub free_not_held : (x : ℕ) → Mem x (L 2) → HeldIn c p x → ⊥
  free_not_held x k = dead_not_held x (a.free x k)

  -- two places that are held have two pages
  pub one_place : (x y : ℕ) → HeldIn c p x → HeldIn c p y → page_of p.lookup x ≡ page_of p.lookup y → x ≡ y
  one_place x y k j q = held_unique p.lookup (places_of c) (buckets_of c) (bucket_in p.lookup (places_of c)) a.table x y k j q

  pub one_slot : (i j x y : ℕ) → i < 2 → j < 2 → Mem x (L i) → Mem y (L j) → (resident_of c p x).page ≡ (resident_of c p y).page → x ≡ y
  unfolding resident_of
  one_slot i j x y hi hj k m q = one_place x y (a.listed i x hi k) (a.listed j y hj m) q

  pub one_ghost : (i : Side) (g h : ℕ) → Mem g (live i) → Mem h (live i) → ghost_of i c p g ≡ ghost_of i c p h → g ≡ h
  unfolding ghost_of
  one_ghost i g h k m q = place_one i c g h (one_place (ghost_place i c g) (ghost_place i c h) (a.recorded i g k) (a.recorded i h m) q)

  -- each slot stands in a list
  slots_all : length (together L 3) ≡ c
  slots_all =
      let t : total L ≡ c = a.residents.all in
      let x : length (L 0 ++ []) ≡ length (L 0) + 0 = length-append (L 0) [] in
      let y : length (L 1 ++ (L 0 ++ [])) ≡ length (L 1) + length (L 0 ++ []) = length-append (L 1) (L 0 ++ []) in
      let z : length (L 2 ++ (L 1 ++ (L 0 ++ []))) ≡ length (L 2) + length (L 1 ++ (L 0 ++ [])) = length-append (L 2) (L 1 ++ (L 0 ++ [])) in
      omega arith

  pub slot_somewhere : (x : ℕ) → x < c → (i : ℕ) × (i < 3) × Mem x (L i)
  slot_somewhere x h = together_covers (links_of c p.residents) c 3 L a.residents.rings slots_all x h

  -- WHAT A HELD PLACE IS
  in_range : (x : ℕ) → HeldIn c p x → x < 3 * c
  in_range x k = held_below p.lookup (places_of c) (buckets_of c) (bucket_in p.lookup (places_of c)) a.table x k

  held_cell : (i : Side) (x g : ℕ) → g < c → x ≡ ghost_place i c g → HeldIn c p x → Place c L live x
  held_cell i x g h q k = ⊎_elim (λ m. cell i g m q) (λ m. absurd (dead_not_held (ghost_place i c g) (a.spared i g m) (rw q at k))) (live_or_spare (ghosts_of i p) c (live i) (spare i) (a.ghosts i) g h)

  held_slot : (x : ℕ) → x < c → HeldIn c p x → Place c L live x
  held_slot x h k = let s = slot_somewhere x h in go s.0 s.1 s.2 (same_or_other s.0 2)
    where
      go : (i : ℕ) → i < 3 → Mem x (L i) → (i ≡ 2) ⊎ (i ≡ 2 → ⊥) → Place c L live x
      go i hi m (inl q) = absurd (free_not_held x (rw q at m) k)
      go i hi m (inr n) = slot i (omega arith) m

  pub place_of_lem : (x : ℕ) → HeldIn c p x → Place c L live x
  place_of_lem x k = ⊎_elim (λ h. held_slot x h k) (λ h. ⊎_elim (λ m. held_cell first x (x - c) (omega arith) (omega arith) k) (λ m. let r : x < 3 * c = in_range x k in held_cell second x (x - 2 * c) (omega arith) (omega arith) k) (low_or_high x (2 * c))) (low_or_high x c)

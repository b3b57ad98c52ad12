-- The laws of a slot that goes straight from list to list. In order: a shift after a shift; a slot that is freed is the top one; the exchange of a resident for a new one, in the shape in which
-- the code leaves it.
-- Assumes nothing.
use mathlib.Core.Path.{◌≡◌, refl, ap, ◌∙◌}
use mathlib.Core.List.{List}
use Prim.Native.Nat.{ℕ, ◌+◌, ◌-◌, ◌*◌, ◌<◌, ◌≤◌}
use native.Mathlib.Omega.{arith}
use lib.ListN.{length, get_or, set, length-set}
use lib.Seq.{get_or-set_same, set-get_or, set-set}
use Rattle.cells.specs.Cells.{next_of}
use Rattle.rings.specs.Rings.{fronted, ended, CanFront, CanEnd}
use Rattle.rings.proofs.Family.{front_first, front_through_rings, end_through_rings}
use Rattle.tails.specs.Tails.{tail_of, with_tail}
use Rattle.tails.proofs.Laws.{word_with_tail, set_with_tail, with_tail_with_tail}
use Rattle.residents.specs.Residents.{links_of, count_of, list_of, lists_of}
use Rattle.residents.specs.Changes.{recounted, shifted, shifted_front, shifted_end, CanShift, freed, top_of, with_slot, added_front, added_end, IsResident, CanExchange, HasSlot}
use Rattle.residents.proofs.Words as W
use Rattle.residents.proofs.Needs.{resident_slot, resident_front, resident_end, after_front, after_end}

-- the counts by way of list k
pub recounted_through : (i k j : ℕ) (w : List ℕ) → k < length w → recounted k j (recounted i k w) ≡ recounted i j w
unfolding recounted count_of
recounted_through i k j w h =
    let v : List ℕ = set w i (get_or w i 0 - 1) in
    let z : length v ≡ length w = length-set w i (get_or w i 0 - 1) in
    let n : get_or (set v k (get_or v k 0 + 1)) k 0 - 1 ≡ get_or v k 0 = ap (λ (m : ℕ). m - 1) (get_or-set_same v k (get_or v k 0 + 1) 0 (omega arith)) ∙ omega arith in
    let back : set (set v k (get_or v k 0 + 1)) k (get_or (set v k (get_or v k 0 + 1)) k 0 - 1) ≡ v = ap (set (set v k (get_or v k 0 + 1)) k) n ∙ set-set v k (get_or v k 0 + 1) (get_or v k 0) ∙ set-get_or v k 0 in
    ap (λ (u : List ℕ). set u j (get_or u j 0 + 1)) back

-- the counts lie before the links
recounted_with_tail : (a i j : ℕ) (l w : List ℕ) → a ≤ length w → i < a → j < a → recounted i j (with_tail a l w) ≡ with_tail a l (recounted i j w)
unfolding recounted count_of
recounted_with_tail a i j l w h hi hj =
    let v : List ℕ = set w i (get_or w i 0 - 1) in
    let z : length v ≡ length w = length-set w i (get_or w i 0 - 1) in
    let one : set (with_tail a l w) i (get_or (with_tail a l w) i 0 - 1) ≡ with_tail a l v = ap (λ (n : ℕ). set (with_tail a l w) i (n - 1)) (word_with_tail a l w h i hi) ∙ set_with_tail a l w h i (get_or w i 0 - 1) hi in
    ap (λ (u : List ℕ). set u j (get_or u j 0 + 1)) one ∙ ap (λ (n : ℕ). set (with_tail a l v) j (n + 1)) (word_with_tail a l v (omega arith) j hj) ∙ set_with_tail a l v (omega arith) j (get_or v j 0 + 1) hj

-- A SHIFT AFTER A SHIFT: the second links stay, and the counts are those of the whole way
pub shifted_through : (c i k j : ℕ) (l m w : List ℕ) → i < 3 → k < 3 → j < 3 → 3 + 3 * c ≤ length w → shifted c k j m (shifted c i k l w) ≡ shifted c i j m w
unfolding shifted
shifted_through c i k j l m w hi hk hj h =
    let a : ℕ = 3 + 3 * c in
    let z : length (recounted i k w) ≡ length w = W.length_recounted i k w in
    let y : length (recounted k j (recounted i k w)) ≡ length (recounted i k w) = W.length_recounted k j (recounted i k w) in
    ap (with_tail a m) (recounted_with_tail a k j l (recounted i k w) (omega arith) (omega arith) (omega arith)) ∙ with_tail_with_tail a l (recounted k j (recounted i k w)) (omega arith) m ∙ ap (with_tail a m) (recounted_through i k j w (omega arith))

module _ (w : List ℕ) (c e : ℕ) (h : IsResident w c e) where
  from : list_of w c e < 3
  from = let k : list_of w c e < 2 = h.side in omega arith

  links_freed : links_of c (freed c e w) ≡ fronted (c + 2) e (links_of c w)
  unfolding freed
  links_freed = W.links_shifted c (list_of w c e) 2 w from (omega arith) (fronted (c + 2) e (links_of c w)) h.residents.room.head

  -- A SLOT THAT IS FREED is the top one
  pub freed_top : top_of c (freed c e w) ≡ e
  unfolding top_of
  freed_top = ap (λ (l : List ℕ). next_of l (c + 2)) links_freed ∙ front_first (links_of c w) c 3 (lists_of w c) h.residents.rings (list_of w c e) e from h.member 2 (omega arith)

  -- and goes on from there: as if it had gone at once
  module _ (j : ℕ) (hj : j < 3) where
    front_freed : shifted_front c 2 j e (freed c e w) ≡ shifted_front c (list_of w c e) j e w
    unfolding freed
    front_freed =
        ap (λ (l : List ℕ). shifted c 2 j (fronted (c + j) e l) (freed c e w)) links_freed
        ∙ ap (λ (l : List ℕ). shifted c 2 j l (freed c e w)) (front_through_rings (links_of c w) c 3 (lists_of w c) h.residents.rings (list_of w c e) e from h.member 2 (omega arith) j hj)
        ∙ shifted_through c (list_of w c e) 2 j _ (fronted (c + j) e (links_of c w)) w from (omega arith) hj h.residents.room.head

    end_freed : shifted_end c 2 j e (freed c e w) ≡ shifted_end c (list_of w c e) j e w
    unfolding freed
    end_freed =
        ap (λ (l : List ℕ). shifted c 2 j (ended (c + j) e l) (freed c e w)) links_freed
        ∙ ap (λ (l : List ℕ). shifted c 2 j l (freed c e w)) (end_through_rings (links_of c w) c 3 (lists_of w c) h.residents.rings (list_of w c e) e from h.member 2 (omega arith) j hj)
        ∙ shifted_through c (list_of w c e) 2 j _ (ended (c + j) e (links_of c w)) w from (omega arith) hj h.residents.room.head

-- THE EXCHANGE, as the code makes it: v is what the shift leaves, u what is left at the end
module _ (w : List ℕ) (c e j : ℕ) (can : CanExchange w c e j) where
  to : j < 3
  to = let k : j < 2 = can.side in omega arith

  pub exchange_slot : HasSlot w c e
  exchange_slot = resident_slot w c e can.resident

  module _ (i : ℕ) (q : i ≡ list_of w c e) where
    pub exchange_asks_front : CanShift w c i j (CanFront (tail_of (3 + 3 * c) w) (c + j) e)
    exchange_asks_front = resident_front w c e can.resident i q j to

    pub exchange_asks_end : CanShift w c i j (CanEnd (tail_of (3 + 3 * c) w) (c + j) e)
    exchange_asks_end = resident_end w c e can.resident i q j to

    module _ (v : List ℕ) where
      pub exchange_has_front : v ≡ shifted_front c i j e w → HasSlot v c e
      exchange_has_front p = after_front w c e can.resident i q v j to p

      pub exchange_has_end : v ≡ shifted_end c i j e w → HasSlot v c e
      exchange_has_end p = after_end w c e can.resident i q v j to p

      pub exchange_gives_front : (f b : ℕ) (u : List ℕ) → v ≡ shifted_front c i j e w → u ≡ with_slot c e f j b v → u ≡ added_front c j f b (freed c e w)
      unfolding added_front
      exchange_gives_front f b u p z = z ∙ (rw (p, q, freed_top w c e can.resident, front_freed w c e can.resident j to) refl)

      pub exchange_gives_end : (f b : ℕ) (u : List ℕ) → v ≡ shifted_end c i j e w → u ≡ with_slot c e f j b v → u ≡ added_end c j f b (freed c e w)
      unfolding added_end
      exchange_gives_end f b u p z = z ∙ (rw (p, q, freed_top w c e can.resident, end_freed w c e can.resident j to) refl)

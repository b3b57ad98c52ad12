-- The laws that answer the needs of the changes, in the shape in which the code leaves them: w is the part at entry, v what it is after a call. Assumes nothing.
use mathlib.Core.Path.{◌≡◌, refl, sym, ap, ◌∙◌}
use mathlib.Core.Logic.{inl, ⊎_elim}
use mathlib.Core.List.{List}
use Prim.Native.Nat.{ℕ, ◌+◌, ◌-◌, ◌*◌, ◌<◌, ◌≤◌}
use native.Mathlib.Omega.{arith}
use lib.ListN.{length, get_or, set, length-set}
use lib.Seq.{get_or-set_same, get_or-set_other, set-get_or, set-set}
use mir.Syntax.{w64}
use mir.Val.{Fits}
use Rattle.cells.specs.Cells.{In, next_of}
use Rattle.cells.proofs.Laws.{in_below, in_length}
use Rattle.rings.specs.Members.{Mem}
use Rattle.rings.specs.Rings.{Ring, fronted, ended, CanFront, CanEnd}
use Rattle.rings.specs.Walks.{CanWalk}
use Rattle.rings.proofs.Members.{same_or_other}
use Rattle.rings.proofs.Ring.{ring_after}
use Rattle.rings.proofs.Moves.{length_fronted, length_ended}
use Rattle.rings.proofs.Words.{front_stays}
use Rattle.rings.proofs.Reading.{first_member}
use Rattle.tails.specs.Tails.{tail_of, with_tail, Tail}
use Rattle.tails.proofs.Laws.{with_tail_own}
use Rattle.residents.specs.Residents.{links_of, count_of, list_of, Room, lists_of}
use Rattle.residents.specs.Changes.{with_frame, with_list, recounted, shifted, shifted_front, shifted_end, CanRecount, CanShift, promoted, IsResident, CanAdd, HasSlot, HasList}
use Rattle.residents.proofs.Words as W
use Rattle.residents.proofs.Words.{Beside}
use Rattle.residents.proofs.Changes.{slot_below, front_asks, end_asks}

-- the sentinel of list i
pub sentinel_in : (w : List ℕ) (c i : ℕ) → HasList w c i → In (tail_of (3 + 3 * c) w) (c + i)
sentinel_in w c i h = let l : i < 3 = h.list in in_below (links_of c w) (c + 2) (c + i) h.room.links (omega arith)

pub asks_list : (w : List ℕ) (c i : ℕ) → HasList w c i → Tail w (3 + 3 * c) (In (tail_of (3 + 3 * c) w) (c + i))
asks_list w c i h = record { within = h.room.head; can = sentinel_in w c i h }

pub asks_slot : (w : List ℕ) (c e : ℕ) → HasSlot w c e → Tail w (3 + 3 * c) (In (tail_of (3 + 3 * c) w) e)
asks_slot w c e h = let l : e < c = h.slot in record { within = h.room.head; can = in_below (links_of c w) (c + 2) e h.room.links (omega arith) }

pub asks_walk : (w : List ℕ) (c i : ℕ) → HasList w c i → Tail w (3 + 3 * c) (CanWalk (tail_of (3 + 3 * c) w) c (c + i))
asks_walk w c i h = record { within = h.room.head; can = record { high = omega arith; root = sentinel_in w c i h } }

-- a slot stays where a word of a slot is written, and where a slot is shifted
has_beside : (w v : List ℕ) (c e : ℕ) → HasSlot w c e → Beside w v c → HasSlot v c e
has_beside w v c e h b =
    let z : length v ≡ length w = b.size in
    let l : 3 + 3 * c ≤ length w = h.room.head in
    record { room = record { small = h.room.small; head = omega arith; links = rw b.links h.room.links }; slot = h.slot }

pub has_frame : (w v : List ℕ) (c e f : ℕ) → HasSlot w c e → v ≡ with_frame e f w → HasSlot v c e
has_frame w v c e f h q = rw q (has_beside w (with_frame e f w) c e h (W.beside_frame w c e h.slot f))

pub has_list : (w v : List ℕ) (c e i : ℕ) → HasSlot w c e → v ≡ with_list c e i w → HasSlot v c e
has_list w v c e i h q = rw q (has_beside w (with_list c e i w) c e h (W.beside_list w c e h.slot i))

-- the counts
module _ (w : List ℕ) (c i j : ℕ) (can : CanRecount w c i j) where
  pub recount_some : 1 ≤ get_or w i 0
  unfolding count_of
  recount_some = can.some

  -- one less and one more
  pub recount_stays : i ≡ j → w ≡ recounted i j w
  unfolding recounted count_of
  recount_stays e =
      let h : 3 + 3 * c ≤ length w = can.room.head in
      let k : i < 3 = can.from in
      let o : 1 ≤ get_or w i 0 = can.some in
      let n : ℕ = get_or w i 0 - 1 in
      let a : get_or (set w i n) i 0 + 1 ≡ get_or w i 0 = ap (λ (m : ℕ). m + 1) (get_or-set_same w i n 0 (omega arith)) ∙ omega arith in
      let b : set (set w i n) i (get_or (set w i n) i 0 + 1) ≡ w = ap (set (set w i n) i) a ∙ set-set w i n (get_or w i 0) ∙ set-get_or w i 0 in
      sym (ap (λ (m : ℕ). set (set w i n) m (get_or (set w i n) m 0 + 1)) (sym e) ∙ b)

  pub recount_within : j < length (set w i (get_or w i 0 - 1))
  recount_within = let z : length (set w i (get_or w i 0 - 1)) ≡ length w = length-set w i (get_or w i 0 - 1) in let h : 3 + 3 * c ≤ length w = can.room.head in let l : j < 3 = can.to in omega arith

  pub recount_fits : Fits w64 (get_or (set w i (get_or w i 0 - 1)) j 0 + 1)
  unfolding count_of
  recount_fits =
      let s : c ≤ 1024 = can.room.small in
      let f : get_or w j 0 ≤ c = can.few in
      let h : 3 + 3 * c ≤ length w = can.room.head in
      let k : i < 3 = can.from in
      ⊎_elim (λ q. let a : get_or (set w i (get_or w i 0 - 1)) j 0 ≡ get_or w i 0 - 1 = ap (λ (y : ℕ). get_or (set w i (get_or w i 0 - 1)) y 0) q ∙ get_or-set_same w i (get_or w i 0 - 1) 0 (omega arith) in let b : get_or w j 0 ≡ get_or w i 0 = ap (λ (y : ℕ). get_or w y 0) q in record { fits = omega arith }) (λ d. let a : get_or (set w i (get_or w i 0 - 1)) j 0 ≡ get_or w j 0 = get_or-set_other w i j (get_or w i 0 - 1) 0 d in record { fits = omega arith }) (same_or_other j i)

-- a shift, once the counts are made
module _ (w v : List ℕ) (c i j e : ℕ) (q : v ≡ recounted i j w) where
  links : i < 3 → j < 3 → tail_of (3 + 3 * c) v ≡ tail_of (3 + 3 * c) w
  links hi hj = rw q (W.links_recounted c i j w hi hj)

  within : Room w c → 3 + 3 * c ≤ length v
  within r = let z : length v ≡ length w = rw q (W.length_recounted i j w) in let h : 3 + 3 * c ≤ length w = r.head in omega arith

  pub asks_front : CanShift w c i j (CanFront (tail_of (3 + 3 * c) w) (c + j) e) → Tail v (3 + 3 * c) (CanFront (tail_of (3 + 3 * c) v) (c + j) e)
  asks_front h = record { within = within h.counts.room; can = rw (links h.counts.from h.counts.to) h.can }

  pub asks_end : CanShift w c i j (CanEnd (tail_of (3 + 3 * c) w) (c + j) e) → Tail v (3 + 3 * c) (CanEnd (tail_of (3 + 3 * c) v) (c + j) e)
  asks_end h = record { within = within h.counts.room; can = rw (links h.counts.from h.counts.to) h.can }

  pub gives_front : (u : List ℕ) → CanShift w c i j (CanFront (tail_of (3 + 3 * c) w) (c + j) e) → u ≡ with_tail (3 + 3 * c) (fronted (c + j) e (tail_of (3 + 3 * c) v)) v → u ≡ shifted_front c i j e w
  unfolding shifted
  gives_front u h p = p ∙ ap (λ (l : List ℕ). with_tail (3 + 3 * c) (fronted (c + j) e l) v) (links h.counts.from h.counts.to) ∙ ap (with_tail (3 + 3 * c) (fronted (c + j) e (tail_of (3 + 3 * c) w))) q

  pub gives_end : (u : List ℕ) → CanShift w c i j (CanEnd (tail_of (3 + 3 * c) w) (c + j) e) → u ≡ with_tail (3 + 3 * c) (ended (c + j) e (tail_of (3 + 3 * c) v)) v → u ≡ shifted_end c i j e w
  unfolding shifted
  gives_end u h p = p ∙ ap (λ (l : List ℕ). with_tail (3 + 3 * c) (ended (c + j) e l) v) (links h.counts.from h.counts.to) ∙ ap (with_tail (3 + 3 * c) (ended (c + j) e (tail_of (3 + 3 * c) w))) q

-- a slot stays where a slot is shifted
has_shifted : (w : List ℕ) (c i j e : ℕ) (l : List ℕ) → i < 3 → j < 3 → length l ≡ length (links_of c w) → HasSlot w c e → HasSlot (shifted c i j l w) c e
has_shifted w c i j e l hi hj q h =
    let z : length (shifted c i j l w) ≡ length w = W.length_shifted c i j w hi hj l h.room.head q in
    let k : 3 + 3 * c ≤ length w = h.room.head in
    record { room = record { small = h.room.small; head = omega arith; links = rw (W.links_shifted c i j w hi hj l h.room.head) (in_length (links_of c w) l (c + 2) q h.room.links) }; slot = h.slot }

-- a resident moves
module _ (w : List ℕ) (c e : ℕ) (h : IsResident w c e) where
  pub resident_slot : HasSlot w c e
  resident_slot = let k : list_of w c e < 2 = h.side in record { room = h.residents.room; slot = slot_below w c (lists_of w c) h.residents (list_of w c e) e (omega arith) h.member }

  module _ (i : ℕ) (q : i ≡ list_of w c e) where
    pub resident_front : (j : ℕ) → j < 3 → CanShift w c i j (CanFront (tail_of (3 + 3 * c) w) (c + j) e)
    resident_front j hj = rw q (let k : list_of w c e < 2 = h.side in front_asks w c (lists_of w c) h.residents (list_of w c e) e (omega arith) h.member j hj)

    pub resident_end : (j : ℕ) → j < 3 → CanShift w c i j (CanEnd (tail_of (3 + 3 * c) w) (c + j) e)
    resident_end j hj = rw q (let k : list_of w c e < 2 = h.side in end_asks w c (lists_of w c) h.residents (list_of w c e) e (omega arith) h.member j hj)

    pub after_front : (v : List ℕ) (j : ℕ) → j < 3 → v ≡ shifted_front c i j e w → HasSlot v c e
    after_front v j hj p = rw p (let k : list_of w c e < 2 = h.side in has_shifted w c i j e _ (omega arith) hj (length_fronted (c + j) e (links_of c w)) resident_slot)

    pub after_end : (v : List ℕ) (j : ℕ) → j < 3 → v ≡ shifted_end c i j e w → HasSlot v c e
    after_end v j hj p = rw p (let k : list_of w c e < 2 = h.side in has_shifted w c i j e _ (omega arith) hj (length_ended (c + j) e (links_of c w)) resident_slot)

    pub after_end_listed : (v u : List ℕ) (j : ℕ) → j < 3 → v ≡ shifted_end c i j e w → u ≡ with_list c e j v → HasSlot u c e
    after_end_listed v u j hj p z = has_list v u c e j (after_end v j hj p) z

  pub resident_lists : (i : ℕ) → i < 3 → HasList w c i
  resident_lists i hi = record { room = h.residents.room; list = hi }

  -- the first of T2 comes to the front of T2: nothing changes
  module _ (x : ℕ) (p : x ≡ next_of (tail_of (3 + 3 * c) w) (c + 1)) (z : x ≡ e) where
    ring : Ring (links_of c w) c (c + 1) (lists_of w c 1)
    ring = h.residents.rings 1 (omega arith)

    is_first : next_of (links_of c w) (c + 1) ≡ e
    is_first = sym p ∙ z

    in_second : list_of w c e ≡ 1
    in_second =
        let k : e < c = resident_slot.slot in
        ⊎_elim (λ q. let a : next_of (links_of c w) (c + 1) ≡ e = is_first in absurd (let n : ⊥ = omega arith in n)) (λ m. (h.residents.slots 1 e (omega arith) (rw is_first at m)).list)
        (ring_after (links_of c w) c (c + 1) (lists_of w c 1) ring (c + 1) (inl refl))

    shift_stays : shifted_front c 1 1 e w ≡ w
    unfolding shifted
    shift_stays =
        ap (λ (l : List ℕ). with_tail (3 + 3 * c) l (recounted 1 1 w)) (front_stays (links_of c w) c (c + 1) e (lists_of w c 1) ring resident_slot.slot is_first)
        ∙ ap (with_tail (3 + 3 * c) (links_of c w)) (sym (recount_stays w c 1 1 (resident_front 1 (sym in_second) 1 (omega arith)).counts refl))
        ∙ with_tail_own (3 + 3 * c) w

    pub promote_stays : w ≡ promoted c e w
    unfolding promoted
    promote_stays = sym (ap (λ (i : ℕ). with_list c e 1 (shifted_front c i 1 e w)) in_second ∙ ap (with_list c e 1) shift_stays ∙ W.with_list_own w c e 1 in_second)

-- a free slot is taken
module _ (w : List ℕ) (c j e : ℕ) (h : CanAdd w c j) (q : e ≡ next_of (tail_of (3 + 3 * c) w) (c + 2)) where
  is_free : Mem e (lists_of w c 2)
  is_free = rw q (first_member (links_of c w) c (c + 2) (lists_of w c 2) (h.residents.rings 2 (omega arith)) h.room)

  to : j < 3
  to = let k : j < 2 = h.side in omega arith

  slot : HasSlot w c e
  slot = record { room = h.residents.room; slot = slot_below w c (lists_of w c) h.residents 2 e (omega arith) is_free }

  pub free_front : CanShift w c 2 j (CanFront (tail_of (3 + 3 * c) w) (c + j) e)
  free_front = front_asks w c (lists_of w c) h.residents 2 e (omega arith) is_free j to

  pub free_end : CanShift w c 2 j (CanEnd (tail_of (3 + 3 * c) w) (c + j) e)
  free_end = end_asks w c (lists_of w c) h.residents 2 e (omega arith) is_free j to

  pub taken_front : (v : List ℕ) → v ≡ shifted_front c 2 j e w → HasSlot v c e
  taken_front v p = rw p (has_shifted w c 2 j e _ (omega arith) to (length_fronted (c + j) e (links_of c w)) slot)

  pub taken_end : (v : List ℕ) → v ≡ shifted_end c 2 j e w → HasSlot v c e
  taken_end v p = rw p (has_shifted w c 2 j e _ (omega arith) to (length_ended (c + j) e (links_of c w)) slot)

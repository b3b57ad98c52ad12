-- The laws of the changes: what each does to the three lists and to the words of the slots. In order: the reading; to the front of T2; to the end of T2; to the free slots; a new resident; a word of a slot.
-- Assumes nothing.
use mathlib.Core.Path.{◌≡◌, sym, ap, ◌∙◌}
use mathlib.Core.List.{List}
use Prim.Native.Nat.{ℕ, suc, ◌+◌, ◌*◌, ◌<◌, ◌≤◌}
use native.Mathlib.Omega.{arith}
use lib.ListN.{length}
use Rattle.rings.specs.Members.{Mem, without}
use Rattle.rings.specs.Rings.{fronted, ended, fronted_in, ended_in, CanFront, CanEnd}
use Rattle.rings.proofs.Members.{below_mem, length_without}
use Rattle.rings.proofs.Ring.{ring_short}
use Rattle.rings.proofs.Moves.{length_fronted, length_ended}
use Rattle.rings.proofs.Family.{rings_same, front_rings, end_rings, can_front_rings, can_end_rings}
use Rattle.rings.proofs.Reading.{ring_members}
use Rattle.residents.specs.Residents.{links_of, count_of, Slot, Residents, lists_of, IsResidents}
use Rattle.residents.specs.Changes.{shifted, shifted_front, shifted_end, CanRecount, CanShift}
use Rattle.residents.proofs.Words as W
use Rattle.residents.proofs.Words.{Same, Beside}
use Rattle.residents.proofs.Moves.{moved_front, moved_end, Over, moved_residents}

-- THE READING IS THE ONLY ONE
pub lists_are : (w : List ℕ) (c : ℕ) (P : ℕ → List ℕ) → Residents w c P → (i : ℕ) → i < 3 → lists_of w c i ≡ P i
unfolding lists_of
lists_are w c P r i h = ring_members (links_of c w) c (c + i) (P i) (r.rings i h)

-- a family that agrees on the three lists
pub residents_same : (w : List ℕ) (c : ℕ) (P Q : ℕ → List ℕ) → ((i : ℕ) → i < 3 → P i ≡ Q i) → Residents w c P → Residents w c Q
residents_same w c P Q same r =
    record {
      room = r.room;
      counts = λ i h. r.counts i h ∙ ap length (same i h);
      rings = rings_same (links_of c w) c 3 P Q same r.rings;
      all = rw (sym (same 0 (omega arith)), sym (same 1 (omega arith)), sym (same 2 (omega arith))) r.all;
      slots = λ i e h k. r.slots i e h (rw (same i (omega arith)) k);
    }

pub residents_read : (w : List ℕ) (c : ℕ) (P : ℕ → List ℕ) → Residents w c P → IsResidents w c
residents_read w c P r = residents_same w c P (lists_of w c) (λ i h. sym (lists_are w c P r i h)) r

-- a slot of a list is below c
pub slot_below : (w : List ℕ) (c : ℕ) (P : ℕ → List ℕ) → Residents w c P → (i e : ℕ) → i < 3 → Mem e (P i) → e < c
slot_below w c P r i e h k = below_mem c (P i) e (r.rings i h).below k

-- a word of a slot is changed
pub beside_residents : (w v : List ℕ) (c : ℕ) (P : ℕ → List ℕ) → Residents w c P → Beside w v c → ((i e : ℕ) → i < 2 → Mem e (P i) → Slot v c i e) → Residents v c P
beside_residents w v c P r b slots =
    let z : length v ≡ length w = b.size in
    let h : 3 + 3 * c ≤ length w = r.room.head in
    record {
      room = record { small = r.room.small; head = omega arith; links = rw b.links r.room.links };
      counts = λ i k. b.counts i k ∙ r.counts i k;
      rings = rw b.links r.rings;
      all = r.all;
      slots = slots;
    }

-- a shift, with what is then written beside the links
over_shifted : (w v : List ℕ) (c i j : ℕ) (l : List ℕ) → i < 3 → j < 3 → 3 + 3 * c ≤ length w → length l ≡ length (links_of c w) → Beside (shifted c i j l w) v c → Over w v c i j l
over_shifted w v c i j l hi hj h q b =
    record {
      size = b.size ∙ W.length_shifted c i j w hi hj l h q;
      links = b.links ∙ W.links_shifted c i j w hi hj l h;
      counts = λ u k. b.counts u k ∙ W.counts_shifted c i j w hi hj l h u k;
    }

module _ (w : List ℕ) (c : ℕ) (P : ℕ → List ℕ) (r : Residents w c P) (i e : ℕ) (hi : i < 3) (k : Mem e (P i)) where
  low : e < c
  low = slot_below w c P r i e hi k

  -- what a shift asks
  module _ (j : ℕ) (hj : j < 3) where
    recount_asks : CanRecount w c i j
    recount_asks =
        let one : suc (length (without e (P i))) ≡ length (P i) = length_without e (P i) k in
        let n : count_of w i ≡ length (P i) = r.counts i hi in
        record { room = r.room; from = hi; to = hj; some = omega arith; few = few j hj }
      where
        few : (u : ℕ) → u < 3 → count_of w u ≤ c
        few u h = let n : count_of w u ≡ length (P u) = r.counts u h in let l : length (P u) ≤ c = ring_short (links_of c w) c (c + u) (P u) (r.rings u h) in omega arith

    pub front_asks : CanShift w c i j (CanFront (links_of c w) (c + j) e)
    front_asks = record { counts = recount_asks; can = can_front_rings (links_of c w) c 3 P r.rings i e hi k j hj }

    pub end_asks : CanShift w c i j (CanEnd (links_of c w) (c + j) e)
    end_asks = record { counts = recount_asks; can = can_end_rings (links_of c w) c 3 P r.rings i e hi k j hj }

    -- THE TWO SHIFTS, with what is then written to slot e
    module _ (v : List ℕ) (mine : j < 2 → Slot v c j e) where
      pub front_residents : Beside (shifted_front c i j e w) v c → ((x : ℕ) → x < c → (x ≡ e → ⊥) → Same (shifted_front c i j e w) v c x) → Residents v c (fronted_in i j e P)
      front_residents b others =
          let q : length (fronted (c + j) e (links_of c w)) ≡ length (links_of c w) = length_fronted (c + j) e (links_of c w) in
          moved_residents w c P r i j e hi hj k v (fronted (c + j) e (links_of c w)) (fronted_in i j e P) (moved_front P i j e) (front_rings (links_of c w) c 3 P r.rings i e hi k j hj) q
          (over_shifted w v c i j (fronted (c + j) e (links_of c w)) hi hj r.room.head q b)
          (λ x h d. W.same_then w (shifted_front c i j e w) v c x (W.same_shifted c i j w hi hj (fronted (c + j) e (links_of c w)) r.room.head x h) (others x h d))
          mine

      pub end_residents : Beside (shifted_end c i j e w) v c → ((x : ℕ) → x < c → (x ≡ e → ⊥) → Same (shifted_end c i j e w) v c x) → Residents v c (ended_in i j e P)
      end_residents b others =
          let q : length (ended (c + j) e (links_of c w)) ≡ length (links_of c w) = length_ended (c + j) e (links_of c w) in
          moved_residents w c P r i j e hi hj k v (ended (c + j) e (links_of c w)) (ended_in i j e P) (moved_end P i j e) (end_rings (links_of c w) c 3 P r.rings i e hi k j hj) q
          (over_shifted w v c i j (ended (c + j) e (links_of c w)) hi hj r.room.head q b)
          (λ x h d. W.same_then w (shifted_end c i j e w) v c x (W.same_shifted c i j w hi hj (ended (c + j) e (links_of c w)) r.room.head x h) (others x h d))
          mine

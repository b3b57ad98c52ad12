-- The laws of each change of the residents, for the lists and for the words of the slots. Assumes nothing.
use mathlib.Core.Path.{◌≡◌, refl, ◌∙◌}
use mathlib.Core.List.{List}
use Prim.Native.Nat.{ℕ, ◌+◌, ◌*◌, ◌^◌, ◌<◌, ◌≤◌}
use native.Mathlib.Omega.{arith}
use lib.ListN.{length}
use Rattle.rings.specs.Members.{Mem}
use Rattle.rings.specs.Rings.{fronted, ended, fronted_in, ended_in}
use Rattle.rings.proofs.Moves.{length_fronted, length_ended}
use Rattle.rings.proofs.Reading.{first_member}
use Rattle.residents.specs.Residents.{links_of, frame_of, list_of, bit_of, Slot, Residents}
use Rattle.residents.specs.Changes.{with_frame, with_list, with_bit, with_slot, shifted, shifted_front, shifted_end, promoted, sent_back, freed, top_of, added_front, added_end}
use Rattle.residents.proofs.Words as W
use Rattle.residents.proofs.Words.{Same, Beside}
use Rattle.residents.proofs.Changes.{slot_below, front_residents, end_residents}

same_all : (w : List ℕ) (c x : ℕ) → Same w w c x
same_all w c x = record { frame = refl; list = refl; bit = refl }

beside_all : (w : List ℕ) (c : ℕ) → Beside w w c
beside_all w c = record { size = refl; links = refl; counts = λ u h. refl }

-- what is written into a slot that is taken
module _ (w : List ℕ) (c e f i b : ℕ) (h : e < c) where
  v1 : List ℕ
  v1 = with_frame e f w

  v2 : List ℕ
  v2 = with_list c e i v1

  pub beside_slot : Beside w (with_slot c e f i b w) c
  unfolding with_slot v1 v2
  beside_slot = W.beside_then w v1 (with_slot c e f i b w) c (W.beside_frame w c e h f) (W.beside_then v1 v2 (with_slot c e f i b w) c (W.beside_list v1 c e h i) (W.beside_bit v2 c e h b))

  pub same_other_slot : (x : ℕ) → x < c → (x ≡ e → ⊥) → Same w (with_slot c e f i b w) c x
  unfolding with_slot v1 v2
  same_other_slot x k d = W.same_then w v1 (with_slot c e f i b w) c x (W.same_frame w c e h x k d f) (W.same_then v1 v2 (with_slot c e f i b w) c x (W.same_list v1 c e h x k d i) (W.same_bit v2 c e h x k d b))

  module _ (l : 3 + 3 * c ≤ length w) where
    long1 : 3 + 3 * c ≤ length v1
    unfolding v1
    long1 = let z : length (with_frame e f w) ≡ length w = (W.beside_frame w c e h f).size in omega arith

    long2 : 3 + 3 * c ≤ length v2
    unfolding v2
    long2 = let z : length (with_list c e i v1) ≡ length v1 = (W.beside_list v1 c e h i).size in let y : 3 + 3 * c ≤ length v1 = long1 in omega arith

    pub frame_written : frame_of (with_slot c e f i b w) e ≡ f
    unfolding with_slot v1 v2
    frame_written = W.frame_with_bit v2 c e h b ∙ W.frame_with_list v1 c e h i ∙ W.frame_here w c e h l f

    pub list_written : list_of (with_slot c e f i b w) c e ≡ i
    unfolding with_slot v1 v2
    list_written = W.list_with_bit v2 c e h b ∙ W.list_here v1 c e h long1 i

    pub bit_written : bit_of (with_slot c e f i b w) c e ≡ b
    unfolding with_slot v1 v2
    bit_written = W.bit_here v2 c e h long2 b

    pub slot_written : f < 2 ^ 32 → b < 2 → Slot (with_slot c e f i b w) c i e
    slot_written hf hb = record { list = list_written; frame = rw frame_written hf; bit = rw bit_written hb }

module _ (w : List ℕ) (c : ℕ) (P : ℕ → List ℕ) (r : Residents w c P) where
  -- a resident of list i, one of T1 and T2
  module _ (i e : ℕ) (hi : i < 2) (k : Mem e (P i)) where
    h3 : i < 3
    h3 = omega arith

    low : e < c
    low = slot_below w c P r i e h3 k

    mine : Slot w c i e
    mine = r.slots i e hi k

    module _ (j : ℕ) (hj : j < 3) (l : List ℕ) (q : length l ≡ length (links_of c w)) where
      S : List ℕ
      S = shifted c i j l w

      long : 3 + 3 * c ≤ length S
      unfolding S
      long = let z : length (shifted c i j l w) ≡ length w = W.length_shifted c i j w h3 hj l r.room.head q in let h : 3 + 3 * c ≤ length w = r.room.head in omega arith

      here : Same w S c e
      unfolding S
      here = W.same_shifted c i j w h3 hj l r.room.head e low

      -- with the list number written
      listed : Slot (with_list c e j S) c j e
      listed =
          record {
            list = W.list_here S c e low long j;
            frame = rw (W.frame_with_list S c e low j ∙ here.frame) mine.frame;
            bit = rw (W.bit_with_list S c e low j ∙ here.bit) mine.bit;
          }

      -- and the bit cleared
      cleared : Slot (with_bit c e 0 (with_list c e j S)) c j e
      cleared =
          let z : length (with_list c e j S) ≡ length S = (W.beside_list S c e low j).size in
          let y : 3 + 3 * c ≤ length S = long in
          record {
            list = W.list_with_bit (with_list c e j S) c e low 0 ∙ listed.list;
            frame = rw (W.frame_with_bit (with_list c e j S) c e low 0) listed.frame;
            bit = rw (W.bit_here (with_list c e j S) c e low (omega arith) 0) (omega arith);
          }

    F : List ℕ
    F = shifted_front c i 1 e w

    B : List ℕ
    B = shifted_end c i 1 e w

    -- TO THE FRONT OF T2
    pub promote_residents : Residents (promoted c e w) c (fronted_in i 1 e P)
    unfolding promoted S F
    promote_residents =
        rw mine.list
        (front_residents w c P r i e h3 k 1 (omega arith) (with_list c e 1 F) (λ z. listed 1 (omega arith) (fronted (c + 1) e (links_of c w)) (length_fronted (c + 1) e (links_of c w)))
        (W.beside_list F c e low 1)
        (λ x h d. W.same_list F c e low x h d 1))

    -- TO THE END OF T2, the bit cleared
    pub send_back_residents : Residents (sent_back c e w) c (ended_in i 1 e P)
    unfolding sent_back S B
    send_back_residents =
        rw mine.list
        (end_residents w c P r i e h3 k 1 (omega arith) (with_bit c e 0 (with_list c e 1 B)) (λ z. cleared 1 (omega arith) (ended (c + 1) e (links_of c w)) (length_ended (c + 1) e (links_of c w)))
        (W.beside_then B (with_list c e 1 B) (with_bit c e 0 (with_list c e 1 B)) c (W.beside_list B c e low 1) (W.beside_bit (with_list c e 1 B) c e low 0))
        (λ x h d. W.same_then B (with_list c e 1 B) (with_bit c e 0 (with_list c e 1 B)) c x (W.same_list B c e low x h d 1) (W.same_bit (with_list c e 1 B) c e low x h d 0)))

    -- TO THE TOP OF THE FREE SLOTS
    pub free_residents : Residents (freed c e w) c (fronted_in i 2 e P)
    unfolding freed
    free_residents =
        rw mine.list
        (front_residents w c P r i e h3 k 2 (omega arith) (shifted_front c i 2 e w) (λ z. absurd (let n : ⊥ = omega arith in n)) (beside_all (shifted_front c i 2 e w) c) (λ x h d. same_all (shifted_front c i 2 e w) c x))

  -- A NEW RESIDENT in the top free slot
  module _ (j f b : ℕ) (hj : j < 2) (some : 0 < length (P 2)) (hf : f < 2 ^ 32) (hb : b < 2) where
    top : ℕ
    top = top_of c w

    is_free : Mem top (P 2)
    unfolding top top_of
    is_free = first_member (links_of c w) c (c + 2) (P 2) (r.rings 2 (omega arith)) some

    top_low : top < c
    top_low = slot_below w c P r 2 top (omega arith) is_free

    top_long : (l : List ℕ) → length l ≡ length (links_of c w) → 3 + 3 * c ≤ length (shifted c 2 j l w)
    top_long l q = let z : length (shifted c 2 j l w) ≡ length w = W.length_shifted c 2 j w (omega arith) (omega arith) l r.room.head q in let h : 3 + 3 * c ≤ length w = r.room.head in omega arith

    pub add_front_residents : Residents (added_front c j f b w) c (fronted_in 2 j (top_of c w) P)
    unfolding added_front top
    add_front_residents =
        let F : List ℕ = shifted_front c 2 j top w in
        front_residents w c P r 2 top (omega arith) is_free j (omega arith) (with_slot c top f j b F) (λ z. slot_written F c top f j b top_low (top_long (fronted (c + j) top (links_of c w)) (length_fronted (c + j) top (links_of c w))) hf hb)
        (beside_slot F c top f j b top_low)
        (same_other_slot F c top f j b top_low)

    pub add_end_residents : Residents (added_end c j f b w) c (ended_in 2 j (top_of c w) P)
    unfolding added_end top
    add_end_residents =
        let B : List ℕ = shifted_end c 2 j top w in
        end_residents w c P r 2 top (omega arith) is_free j (omega arith) (with_slot c top f j b B) (λ z. slot_written B c top f j b top_low (top_long (ended (c + j) top (links_of c w)) (length_ended (c + j) top (links_of c w))) hf hb)
        (beside_slot B c top f j b top_low)
        (same_other_slot B c top f j b top_low)

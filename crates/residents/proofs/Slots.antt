-- What each change leaves of the words of the slots, and the change of one such word. Assumes nothing.
use mathlib.Core.Path.{◌≡◌, ◌∙◌}
use mathlib.Core.Logic.{⊎_elim}
use mathlib.Core.List.{List}
use Prim.Native.Nat.{ℕ, ◌+◌, ◌*◌, ◌^◌, ◌<◌, ◌≤◌}
use native.Mathlib.Omega.{arith}
use lib.ListN.{length}
use Rattle.rings.specs.Rings.{fronted, ended}
use Rattle.rings.proofs.Members.{same_or_other}
use Rattle.rings.proofs.Moves.{length_fronted, length_ended}
use Rattle.residents.specs.Residents.{links_of, frame_of, list_of, bit_of, Room, Residents}
use Rattle.residents.specs.Changes.{with_frame, with_list, with_bit, with_slot, shifted, shifted_front, shifted_end, promoted, sent_back, freed, top_of, added_front, added_end}
use Rattle.residents.proofs.Words as W
use Rattle.residents.proofs.Words.{Same}
use Rattle.residents.proofs.Moves.{same_slot}
use Rattle.residents.proofs.Changes.{slot_below, beside_residents}
use Rattle.residents.proofs.Steps.{same_other_slot, frame_written, bit_written}

module _ (w : List ℕ) (c e : ℕ) (h : e < c) where
  -- a frame, and a bit, are as they were where the list number or another slot's word is written
  pub frame_list : (i x : ℕ) → x < c → frame_of (with_list c e i w) x ≡ frame_of w x
  frame_list i x k = ⊎_elim (λ q. rw q (W.frame_with_list w c e h i)) (λ d. (W.same_list w c e h x k d i).frame) (same_or_other x e)

  pub bit_list : (i x : ℕ) → x < c → bit_of (with_list c e i w) c x ≡ bit_of w c x
  bit_list i x k = ⊎_elim (λ q. rw q (W.bit_with_list w c e h i)) (λ d. (W.same_list w c e h x k d i).bit) (same_or_other x e)

  pub frame_bit : (b x : ℕ) → x < c → frame_of (with_bit c e b w) x ≡ frame_of w x
  frame_bit b x k = ⊎_elim (λ q. rw q (W.frame_with_bit w c e h b)) (λ d. (W.same_bit w c e h x k d b).frame) (same_or_other x e)

-- a resident moves: its list number i is known
module _ (w : List ℕ) (c e i : ℕ) (room : Room w c) (h : e < c) (hi : i < 2) (q : list_of w c e ≡ i) where
  pub frame_promoted : (x : ℕ) → x < c → frame_of (promoted c e w) x ≡ frame_of w x
  unfolding promoted
  frame_promoted x k = rw q (frame_list (shifted_front c i 1 e w) c e h 1 x k ∙ (W.same_shifted c i 1 w (omega arith) (omega arith) _ room.head x k).frame)

  pub bit_promoted : (x : ℕ) → x < c → bit_of (promoted c e w) c x ≡ bit_of w c x
  unfolding promoted
  bit_promoted x k = rw q (bit_list (shifted_front c i 1 e w) c e h 1 x k ∙ (W.same_shifted c i 1 w (omega arith) (omega arith) _ room.head x k).bit)

  pub frame_sent_back : (x : ℕ) → x < c → frame_of (sent_back c e w) x ≡ frame_of w x
  unfolding sent_back
  frame_sent_back x k = rw q (frame_bit (with_list c e 1 (shifted_end c i 1 e w)) c e h 0 x k ∙ frame_list (shifted_end c i 1 e w) c e h 1 x k ∙ (W.same_shifted c i 1 w (omega arith) (omega arith) _ room.head x k).frame)

  pub bit_sent_back : (x : ℕ) → x < c → (x ≡ e → ⊥) → bit_of (sent_back c e w) c x ≡ bit_of w c x
  unfolding sent_back
  bit_sent_back x k d = rw q ((W.same_bit (with_list c e 1 (shifted_end c i 1 e w)) c e h x k d 0).bit ∙ bit_list (shifted_end c i 1 e w) c e h 1 x k ∙ (W.same_shifted c i 1 w (omega arith) (omega arith) _ room.head x k).bit)

  pub bit_cleared : bit_of (sent_back c e w) c e ≡ 0
  unfolding sent_back
  bit_cleared =
      rw q
      (let y : length (shifted_end c i 1 e w) ≡ length w = W.length_shifted c i 1 w (omega arith) (omega arith) _ room.head (length_ended (c + 1) e (links_of c w)) in
      let z : length (with_list c e 1 (shifted_end c i 1 e w)) ≡ length (shifted_end c i 1 e w) = (W.beside_list (shifted_end c i 1 e w) c e h 1).size in
      let l : 3 + 3 * c ≤ length w = room.head in
      W.bit_here (with_list c e 1 (shifted_end c i 1 e w)) c e h (omega arith) 0)

  pub same_freed : (x : ℕ) → x < c → Same w (freed c e w) c x
  unfolding freed
  same_freed x k = rw q (W.same_shifted c i 2 w (omega arith) (omega arith) _ room.head x k)

-- a new resident, with the links l of the move
module _ (w : List ℕ) (c j f b : ℕ) (l : List ℕ) (room : Room w c) (hj : j < 2) (low : top_of c w < c) (q : length l ≡ length (links_of c w)) where
  S : List ℕ
  S = shifted c 2 j l w

  new : List ℕ
  new = with_slot c (top_of c w) f j b S

  long : 3 + 3 * c ≤ length S
  unfolding S
  long = let y : length (shifted c 2 j l w) ≡ length w = W.length_shifted c 2 j w (omega arith) (omega arith) l room.head q in let h : 3 + 3 * c ≤ length w = room.head in omega arith

  frame_new : frame_of new (top_of c w) ≡ f
  unfolding new
  frame_new = frame_written S c (top_of c w) f j b low long

  bit_new : bit_of new c (top_of c w) ≡ b
  unfolding new
  bit_new = bit_written S c (top_of c w) f j b low long

  same_new : (x : ℕ) → x < c → (x ≡ top_of c w → ⊥) → Same w new c x
  unfolding new S
  same_new x k d = W.same_then w S new c x (W.same_shifted c 2 j w (omega arith) (omega arith) l room.head x k) (same_other_slot S c (top_of c w) f j b low x k d)

module _ (w : List ℕ) (c j f b : ℕ) (room : Room w c) (hj : j < 2) (low : top_of c w < c) where
  F : List ℕ
  F = fronted (c + j) (top_of c w) (links_of c w)

  E : List ℕ
  E = ended (c + j) (top_of c w) (links_of c w)

  pub frame_added_front : frame_of (added_front c j f b w) (top_of c w) ≡ f
  unfolding added_front S new F
  frame_added_front = frame_new w c j f b F room hj low (length_fronted (c + j) (top_of c w) (links_of c w))

  pub bit_added_front : bit_of (added_front c j f b w) c (top_of c w) ≡ b
  unfolding added_front S new F
  bit_added_front = bit_new w c j f b F room hj low (length_fronted (c + j) (top_of c w) (links_of c w))

  pub same_added_front : (x : ℕ) → x < c → (x ≡ top_of c w → ⊥) → Same w (added_front c j f b w) c x
  unfolding added_front S new F
  same_added_front = same_new w c j f b F room hj low (length_fronted (c + j) (top_of c w) (links_of c w))

  pub frame_added_end : frame_of (added_end c j f b w) (top_of c w) ≡ f
  unfolding added_end S new E
  frame_added_end = frame_new w c j f b E room hj low (length_ended (c + j) (top_of c w) (links_of c w))

  pub bit_added_end : bit_of (added_end c j f b w) c (top_of c w) ≡ b
  unfolding added_end S new E
  bit_added_end = bit_new w c j f b E room hj low (length_ended (c + j) (top_of c w) (links_of c w))

  pub same_added_end : (x : ℕ) → x < c → (x ≡ top_of c w → ⊥) → Same w (added_end c j f b w) c x
  unfolding added_end S new E
  same_added_end = same_new w c j f b E room hj low (length_ended (c + j) (top_of c w) (links_of c w))

-- A WORD OF A SLOT
module _ (w : List ℕ) (c : ℕ) (P : ℕ → List ℕ) (r : Residents w c P) (e : ℕ) (h : e < c) where
  pub set_frame_residents : (f : ℕ) → f < 2 ^ 32 → Residents (with_frame e f w) c P
  set_frame_residents f hf =
      beside_residents w (with_frame e f w) c P r (W.beside_frame w c e h f)
      (λ i x hi k. let s = r.slots i x hi k in let b : x < c = slot_below w c P r i x (omega arith) k in
      ⊎_elim (λ q. rw q (record { list = W.list_with_frame w c e h f ∙ (rw q at s.list); frame = rw (W.frame_here w c e h r.room.head f) hf; bit = rw (W.bit_with_frame w c e h f) (rw q at s.bit) })) (λ d. same_slot w (with_frame e f w) c i x (W.same_frame w c e h x b d f) s) (same_or_other x e))

  pub set_bit_residents : (b : ℕ) → b < 2 → Residents (with_bit c e b w) c P
  set_bit_residents b hb =
      beside_residents w (with_bit c e b w) c P r (W.beside_bit w c e h b)
      (λ i x hi k. let s = r.slots i x hi k in let l : x < c = slot_below w c P r i x (omega arith) k in
      ⊎_elim (λ q. rw q (record { list = W.list_with_bit w c e h b ∙ (rw q at s.list); frame = rw (W.frame_with_bit w c e h b) (rw q at s.frame); bit = rw (W.bit_here w c e h r.room.head b) hb })) (λ d. same_slot w (with_bit c e b w) c i x (W.same_bit w c e h x l d b) s) (same_or_other x e))

-- The laws of a move from list to list. In order: the lists; the counts; the slots; all of it. Assumes nothing.
use mathlib.Core.Path.{◌≡◌, refl, sym, ap, ◌∙◌}
use mathlib.Core.Logic.{◌⊎◌, inl, inr, ⊎_elim}
use mathlib.Core.List.{List, [], ◌∷◌, ◌++◌}
use Prim.Native.Nat.{ℕ, suc, ◌+◌, ◌-◌, ◌*◌, ◌<◌, ◌≤◌}
use native.Mathlib.Omega.{arith}
use lib.ListN.{length, get_or, set, length-set, length-append}
use lib.Seq.{get_or-set_same, get_or-set_other}
use Rattle.cells.proofs.Laws.{in_length}
use Rattle.rings.specs.Members.{Mem, without}
use Rattle.rings.specs.Rings.{Rings, changed, out_of, fronted_in, ended_in}
use Rattle.rings.proofs.Members.{same_or_other, not_mem, mem_without, mem_append, length_without, below_mem}
use Rattle.rings.proofs.Family.{changed_here, changed_other, detach_fresh}
use Rattle.residents.specs.Residents.{links_of, count_of, Room, Slot, total, Residents}
use Rattle.residents.specs.Changes.{recounted}
use Rattle.residents.proofs.Words.{Same}

-- the total, where one list is changed
pub three : (i : ℕ) → i < 3 → (i ≡ 0) ⊎ ((i ≡ 1) ⊎ (i ≡ 2))
three i h = ⊎_elim (λ a. inl a) (λ a. inr (⊎_elim (λ b. inl b) (λ b. inr (omega arith)) (same_or_other i 1))) (same_or_other i 0)

pub total_changed : (P : ℕ → List ℕ) (i : ℕ) (xs : List ℕ) → i < 3 → total (changed P i xs) + length (P i) ≡ total P + length xs
unfolding changed
total_changed P i xs h = ⊎_elim (λ q. rw q (omega arith)) (λ o. ⊎_elim (λ q. rw q (omega arith)) (λ q. rw q (omega arith)) o) (three i h)

-- a count stored for a list that is changed
count_set : (w : List ℕ) (i n : ℕ) (P : ℕ → List ℕ) (xs : List ℕ) → i < length w → n ≡ length xs → ((u : ℕ) → u < 3 → count_of w u ≡ length (P u)) → (u : ℕ) → u < 3 → count_of (set w i n) u ≡ length (changed P i xs u)
unfolding count_of
count_set w i n P xs h q all u k =
    ⊎_elim
    (λ z. ap (λ (y : ℕ). get_or (set w i n) y 0) z ∙ get_or-set_same w i n 0 h ∙ q ∙ ap length (sym (changed_here P i xs)) ∙ ap (λ (y : ℕ). length (changed P i xs y)) (sym z))
    (λ d. get_or-set_other w i u n 0 d ∙ all u k ∙ ap length (sym (changed_other P i xs u d)))
    (same_or_other u i)

-- Q is P once e has gone from list i to list j, to whatever place of it
pub record Moved (P Q : ℕ → List ℕ) (i j e : ℕ) : Type 0 where
  pub sizes : (u : ℕ) → length (Q u) ≡ length (fronted_in i j e P u)
  pub members : (u x : ℕ) → Mem x (Q u) → ((x ≡ e) × (u ≡ j)) ⊎ Mem x (out_of i e P u)

pub moved_front : (P : ℕ → List ℕ) (i j e : ℕ) → Moved P (fronted_in i j e P) i j e
moved_front P i j e = record { sizes = λ u. refl; members = λ u x. go u x (same_or_other u j) }
  where
    go : (u x : ℕ) → (u ≡ j) ⊎ (u ≡ j → ⊥) → Mem x (fronted_in i j e P u) → ((x ≡ e) × (u ≡ j)) ⊎ Mem x (out_of i e P u)
    go u x (inl q) k = ⊎_elim (λ z. inl (z, q)) (λ l. inr (rw q l)) (rw (q, changed_here (out_of i e P) j (e ∷ out_of i e P j)) at k)
    go u x (inr d) k = inr (rw (changed_other (out_of i e P) j (e ∷ out_of i e P j) u d) at k)

pub moved_end : (P : ℕ → List ℕ) (i j e : ℕ) → Moved P (ended_in i j e P) i j e
moved_end P i j e = record { sizes = λ u. size u (same_or_other u j); members = λ u x. go u x (same_or_other u j) }
  where
    xs : List ℕ
    xs = out_of i e P j

    size : (u : ℕ) → (u ≡ j) ⊎ (u ≡ j → ⊥) → length (ended_in i j e P u) ≡ length (fronted_in i j e P u)
    size u (inl q) = rw (q, changed_here (out_of i e P) j (xs ++ (e ∷ [])), changed_here (out_of i e P) j (e ∷ xs)) (let z : length (xs ++ (e ∷ [])) ≡ length xs + 1 = length-append xs (e ∷ []) in omega arith)
    size u (inr d) = rw (changed_other (out_of i e P) j (xs ++ (e ∷ [])) u d, changed_other (out_of i e P) j (e ∷ xs) u d) refl

    one : (u x : ℕ) → (u ≡ j) → Mem x (e ∷ []) → ((x ≡ e) × (u ≡ j)) ⊎ Mem x (out_of i e P u)
    one u x q (inl z) = inl (z, q)
    one u x q (inr l) = absurd l

    go : (u x : ℕ) → (u ≡ j) ⊎ (u ≡ j → ⊥) → Mem x (ended_in i j e P u) → ((x ≡ e) × (u ≡ j)) ⊎ Mem x (out_of i e P u)
    go u x (inl q) k = ⊎_elim (λ l. inr (rw q l)) (λ l. one u x q l) (mem_append x xs (e ∷ []) (rw (q, changed_here (out_of i e P) j (xs ++ (e ∷ []))) at k))
    go u x (inr d) k = inr (rw (changed_other (out_of i e P) j (xs ++ (e ∷ [])) u d) at k)

pub mem_out : (P : ℕ → List ℕ) (i e u x : ℕ) → Mem x (out_of i e P u) → Mem x (P u)
mem_out P i e u x k = ⊎_elim (λ q. rw q (mem_without e x (P i) (rw (q, changed_here P i (without e (P i))) at k))) (λ d. rw (changed_other P i (without e (P i)) u d) at k) (same_or_other u i)

-- v is w with the counts of the move, the links l, and what slots there may be
pub record Over (w v : List ℕ) (c i j : ℕ) (l : List ℕ) : Type 0 where
  pub size : length v ≡ length w
  pub links : links_of c v ≡ l
  pub counts : (u : ℕ) → u < 3 → count_of v u ≡ count_of (recounted i j w) u

pub same_slot : (w v : List ℕ) (c u x : ℕ) → Same w v c x → Slot w c u x → Slot v c u x
same_slot w v c u x s h = record { list = s.list ∙ h.list; frame = rw s.frame h.frame; bit = rw s.bit h.bit }

module _ (w : List ℕ) (c : ℕ) (P : ℕ → List ℕ) (r : Residents w c P) (i j e : ℕ) (hi : i < 3) (hj : j < 3) (k : Mem e (P i)) where
  one : suc (length (without e (P i))) ≡ length (P i)
  one = length_without e (P i) k

  out : (u : ℕ) → u < 3 → count_of (set w i (count_of w i - 1)) u ≡ length (out_of i e P u)
  out = let n : count_of w i ≡ length (P i) = r.counts i hi in let z : suc (length (without e (P i))) ≡ length (P i) = one in let l : 3 + 3 * c ≤ length w = r.room.head in count_set w i (count_of w i - 1) P (without e (P i)) (omega arith) (omega arith) r.counts

  counts : (u : ℕ) → u < 3 → count_of (recounted i j w) u ≡ length (fronted_in i j e P u)
  unfolding recounted
  counts =
      let n : count_of (set w i (count_of w i - 1)) j ≡ length (out_of i e P j) = out j hj in
      let z : length (set w i (count_of w i - 1)) ≡ length w = length-set w i (count_of w i - 1) in
      let l : 3 + 3 * c ≤ length w = r.room.head in
      count_set (set w i (count_of w i - 1)) j (count_of (set w i (count_of w i - 1)) j + 1) (out_of i e P) (e ∷ out_of i e P j) (omega arith) (omega arith) out

  sum : total (fronted_in i j e P) ≡ c
  sum =
      let a : total (out_of i e P) + length (P i) ≡ total P + length (without e (P i)) = total_changed P i (without e (P i)) hi in
      let b : total (fronted_in i j e P) + length (out_of i e P j) ≡ total (out_of i e P) + suc (length (out_of i e P j)) = total_changed (out_of i e P) j (e ∷ out_of i e P j) hj in
      let z : suc (length (without e (P i))) ≡ length (P i) = one in
      let t : total P ≡ c = r.all in
      omega arith

  pub room_over : (v l : List ℕ) → length l ≡ length (links_of c w) → Over w v c i j l → Room v c
  room_over v l q o =
      let z : length v ≡ length w = o.size in
      let h : 3 + 3 * c ≤ length w = r.room.head in
      record { small = r.room.small; head = omega arith; links = in_length (links_of c w) (links_of c v) (c + 2) (ap length o.links ∙ q) r.room.links }

  -- THE LAW OF A MOVE
  pub moved_residents : (v l : List ℕ) (Q : ℕ → List ℕ) → Moved P Q i j e → Rings l c 3 Q → length l ≡ length (links_of c w) → Over w v c i j l → ((x : ℕ) → x < c → (x ≡ e → ⊥) → Same w v c x) → (j < 2 → Slot v c j e) → Residents v c Q
  moved_residents v l Q m rs q o same mine =
      record {
        room = room_over v l q o;
        counts = λ u h. o.counts u h ∙ counts u h ∙ sym (m.sizes u);
        rings = rw o.links rs;
        all = let a : length (Q 0) ≡ length (fronted_in i j e P 0) = m.sizes 0 in let b : length (Q 1) ≡ length (fronted_in i j e P 1) = m.sizes 1 in let d : length (Q 2) ≡ length (fronted_in i j e P 2) = m.sizes 2 in let z : total (fronted_in i j e P) ≡ c = sum in omega arith;
        slots = λ u x h n. ⊎_elim (λ z. mine_at u x h z) (λ y. old u x h y) (m.members u x n);
      }
    where
      mine_at : (u x : ℕ) → u < 2 → (x ≡ e) × (u ≡ j) → Slot v c u x
      mine_at u x h z = rw (z.0, z.1) (mine (rw z.1 at h))

      old : (u x : ℕ) → u < 2 → Mem x (out_of i e P u) → Slot v c u x
      old u x h y =
          let p : Mem x (P u) = mem_out P i e u x y in
          let b : x < c = below_mem c (P u) x (r.rings u (omega arith)).below p in
          same_slot w v c u x (same x b (λ z. not_mem e (out_of i e P u) (detach_fresh (links_of c w) c 3 P r.rings i e hi k u (omega arith)) (rw z at y))) (r.slots u x h p)

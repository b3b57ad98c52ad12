-- The test of the residents decides: it is true where the words are those of residents, and only there. In order: a slot; the slots of a list; the counts; all. Assumes nothing.
use mathlib.Core.Path.{◌≡◌, refl, sym}
use mathlib.Core.Bool.{Bool, true, false, cond, false≢true}
use mathlib.Core.Logic.{inl, inr, ⊎_elim}
use mathlib.Core.List.{List, [], ◌∷◌}
use Prim.Native.Nat.{ℕ, ◌+◌, ◌^◌, ◌<◌}
use native.Mathlib.Omega.{arith}
use lib.ListN.{length}
use lib.Dec.{eqb, ltb}
use borrow.Author.Tests.{eqb-true, ltb-true, eq-eqb, lt-ltb, le-ltb}
use Rattle.cells.proofs.Laws.{in_below}
use Rattle.rings.specs.Members.{Mem}
use Rattle.rings.specs.Rings.{Ring}
use Rattle.rings.proofs.Walks.{test_sound, test_complete}
use Rattle.residents.specs.Residents.{links_of, count_of, frame_of, list_of, bit_of, Room, Slot, total, Residents, lists_of, IsResidents}
use Rattle.residents.specs.Tests.{counts_test, ring_at, slot_test, slots_test, side_test, residents_test}
use Rattle.residents.proofs.Moves.{three}
use Rattle.residents.proofs.Changes.{lists_are}

-- both of two tests
pub both : (t u : Bool) → cond t u false ≡ true → (t ≡ true) × (u ≡ true)
both true u q = (refl, q)
both false u q = absurd (false≢true q)

-- a slot
pub slot_sound : (w : List ℕ) (c i e : ℕ) → slot_test w c i e ≡ true → Slot w c i e
unfolding slot_test
slot_sound w c i e q =
    let a = both (eqb (list_of w c e) i) _ q in
    let b = both (ltb (frame_of w e) (2 ^ 32)) _ a.1 in
    record { list = eqb-true (list_of w c e) i a.0; frame = ltb-true (frame_of w e) (2 ^ 32) b.0; bit = ltb-true (bit_of w c e) 2 b.1 }

pub slot_complete : (w : List ℕ) (c i e : ℕ) → Slot w c i e → slot_test w c i e ≡ true
unfolding slot_test
slot_complete w c i e s = rw (eq-eqb (list_of w c e) i s.list, lt-ltb (frame_of w e) (2 ^ 32) s.frame) (lt-ltb (bit_of w c e) 2 s.bit)

-- the slots of a list
pub slots_sound : (w : List ℕ) (c i : ℕ) (xs : List ℕ) → slots_test w c i xs ≡ true → (e : ℕ) → Mem e xs → Slot w c i e
slots_sound w c i (x ∷ xs) q e (inl z) = rw z (slot_sound w c i x (both (slot_test w c i x) _ q).0)
slots_sound w c i (x ∷ xs) q e (inr k) = slots_sound w c i xs (both (slot_test w c i x) _ q).1 e k
slots_sound w c i [] q e x'' = elim x'' [ ]

pub slots_complete : (w : List ℕ) (c i : ℕ) (xs : List ℕ) → ((e : ℕ) → Mem e xs → Slot w c i e) → slots_test w c i xs ≡ true
slots_complete w c i [] h = refl
slots_complete w c i (x ∷ xs) h = rw (slot_complete w c i x (h x (inl refl))) (slots_complete w c i xs (λ e k. h e (inr k)))

-- the counts
pub counts_sound : (w : List ℕ) (c : ℕ) → counts_test w c ≡ true → count_of w 0 + count_of w 1 + count_of w 2 ≡ c
unfolding counts_test
counts_sound w c = go (ltb c (count_of w 0)) (ltb c (count_of w 1)) (ltb c (count_of w 2))
  where
    go : (t u v : Bool) → cond t false (cond u false (cond v false (eqb (count_of w 0 + count_of w 1 + count_of w 2) c))) ≡ true → count_of w 0 + count_of w 1 + count_of w 2 ≡ c
    go true u v q = absurd (false≢true q)
    go false true v q = absurd (false≢true q)
    go false false true q = absurd (false≢true q)
    go false false false q = eqb-true _ c q

pub counts_complete : (w : List ℕ) (c : ℕ) → count_of w 0 + count_of w 1 + count_of w 2 ≡ c → counts_test w c ≡ true
unfolding counts_test
counts_complete w c q = rw (le-ltb c (count_of w 0) (omega arith), le-ltb c (count_of w 1) (omega arith), le-ltb c (count_of w 2) (omega arith)) (eq-eqb _ c q)

-- a list is a ring with as many slots as counted
pub ring_sound : (w : List ℕ) (c i : ℕ) → Room w c → i < 3 → ring_at w c i ≡ true → Ring (links_of c w) c (c + i) (lists_of w c i) × (count_of w i ≡ length (lists_of w c i))
unfolding ring_at lists_of
ring_sound w c i r h q = let a = test_sound (links_of c w) c (c + i) (count_of w i) (omega arith) (in_below (links_of c w) (c + 2) (c + i) r.links (omega arith)) q in (a.ring, sym a.size)

pub ring_complete : (w : List ℕ) (c i : ℕ) (xs : List ℕ) → Ring (links_of c w) c (c + i) xs → count_of w i ≡ length xs → ring_at w c i ≡ true
unfolding ring_at
ring_complete w c i xs r q = rw q (test_complete (links_of c w) c (c + i) xs r)

-- THE TEST IS SOUND
pub residents_sound : (w : List ℕ) (c : ℕ) → Room w c → residents_test w c ≡ true → IsResidents w c
unfolding residents_test side_test
residents_sound w c r q =
    let a = both (counts_test w c) _ q in
    let b = both (side_test w c 0) _ a.1 in
    let d = both (side_test w c 1) _ b.1 in
    let s0 = both (ring_at w c 0) _ b.0 in
    let s1 = both (ring_at w c 1) _ d.0 in
    let r0 = ring_sound w c 0 r (omega arith) s0.0 in
    let r1 = ring_sound w c 1 r (omega arith) s1.0 in
    let r2 = ring_sound w c 2 r (omega arith) d.1 in
    let sum : count_of w 0 + count_of w 1 + count_of w 2 ≡ c = counts_sound w c a.0 in
    let n0 : count_of w 0 ≡ length (lists_of w c 0) = r0.1 in
    let n1 : count_of w 1 ≡ length (lists_of w c 1) = r1.1 in
    let n2 : count_of w 2 ≡ length (lists_of w c 2) = r2.1 in
    record {
      room = r;
      counts = λ i h. ⊎_elim (λ z. rw z n0) (λ o. ⊎_elim (λ z. rw z n1) (λ z. rw z n2) o) (three i h);
      rings = λ i h. ⊎_elim (λ z. rw z r0.0) (λ o. ⊎_elim (λ z. rw z r1.0) (λ z. rw z r2.0) o) (three i h);
      all = omega arith;
      slots = λ i e h k. ⊎_elim (λ z. rw z (slots_sound w c 0 (lists_of w c 0) s0.1 e (rw z at k))) (λ o. ⊎_elim (λ z. rw z (slots_sound w c 1 (lists_of w c 1) s1.1 e (rw z at k))) (λ z. absurd (let f : ⊥ = omega arith in f)) o) (three i (omega arith));
    }

-- AND COMPLETE
pub residents_complete : (w : List ℕ) (c : ℕ) (P : ℕ → List ℕ) → Residents w c P → residents_test w c ≡ true
unfolding residents_test side_test
residents_complete w c P r =
    let n0 : count_of w 0 ≡ length (P 0) = r.counts 0 (omega arith) in
    let n1 : count_of w 1 ≡ length (P 1) = r.counts 1 (omega arith) in
    let n2 : count_of w 2 ≡ length (P 2) = r.counts 2 (omega arith) in
    let t : total P ≡ c = r.all in
    rw (counts_complete w c (omega arith), ring_complete w c 0 (P 0) (r.rings 0 (omega arith)) n0, side 0 (omega arith), ring_complete w c 1 (P 1) (r.rings 1 (omega arith)) n1, side 1 (omega arith)) (ring_complete w c 2 (P 2) (r.rings 2 (omega arith)) n2)
  where
    side : (i : ℕ) → i < 2 → slots_test w c i (lists_of w c i) ≡ true
    side i h = rw (lists_are w c P r i (omega arith)) (slots_complete w c i (P i) (λ e k. r.slots i e h k))

-- The laws of a part that is made: no residents, and all slots free in rising order. Assumes nothing.
use mathlib.Core.Path.{◌≡◌, refl, sym, ap, ◌∙◌}
use mathlib.Core.Logic.{⊎_elim}
use mathlib.Core.List.{List, []}
use Prim.Native.Nat.{ℕ, ◌+◌, ◌*◌, ◌<◌, ◌≤◌}
use native.Mathlib.Omega.{arith}
use lib.ListN.{length, set, length-set}
use lib.Seq.{get_or-set_same, get_or-set_other}
use Rattle.cells.specs.Cells.{In}
use Rattle.cells.proofs.Laws.{in_below, in_length}
use Rattle.rings.specs.Members.{Mem, up_from}
use Rattle.rings.specs.Rings.{Ring, Rings, emptied, filled, CanFill}
use Rattle.rings.proofs.Pigeons.{length_up_from}
use Rattle.rings.proofs.Ring.{length_emptied, empty_ring, empty_other}
use Rattle.rings.proofs.Filling.{length_filled, fill_ring, fill_other}
use Rattle.tails.specs.Tails.{tail_of, with_tail, Tail}
use Rattle.tails.proofs.Laws.{tail_with_tail, tail_set, same_length_with_tail, with_tail_step}
use Rattle.residents.specs.Residents.{links_of, count_of, Room, Residents, lists, total}
use Rattle.residents.specs.Changes.{fresh_links, made}
use Rattle.residents.proofs.Moves.{three}

-- the calls, one after the other
module _ (w : List ℕ) (c : ℕ) (r : Room w c) where
  after : (v l : List ℕ) (x : ℕ) → length l ≡ length (links_of c w) → v ≡ with_tail (3 + 3 * c) l w → x ≤ c + 2 → Tail v (3 + 3 * c) (In (tail_of (3 + 3 * c) v) x)
  after v l x q p h =
      let z : length (with_tail (3 + 3 * c) l w) ≡ length w = same_length_with_tail (3 + 3 * c) l w r.head q in
      let y : length v ≡ length w = ap length p ∙ z in
      let k : 3 + 3 * c ≤ length w = r.head in
      let t : tail_of (3 + 3 * c) v ≡ l = ap (tail_of (3 + 3 * c)) p ∙ tail_with_tail (3 + 3 * c) l w r.head in
      record { within = omega arith; can = rw t (in_length (links_of c w) l x q (in_below (links_of c w) (c + 2) x r.links h)) }

  pub asks_first : Tail w (3 + 3 * c) (In (tail_of (3 + 3 * c) w) c)
  asks_first = record { within = r.head; can = in_below (links_of c w) (c + 2) c r.links (omega arith) }

  module _ (v : List ℕ) (p : v ≡ with_tail (3 + 3 * c) (emptied c (tail_of (3 + 3 * c) w)) w) where
    pub asks_second : Tail v (3 + 3 * c) (In (tail_of (3 + 3 * c) v) (c + 1))
    asks_second = after v (emptied c (links_of c w)) (c + 1) (length_emptied c (links_of c w)) p (omega arith)

    module _ (u : List ℕ) (q : u ≡ with_tail (3 + 3 * c) (emptied (c + 1) (tail_of (3 + 3 * c) v)) v) where
      two : u ≡ with_tail (3 + 3 * c) (emptied (c + 1) (emptied c (links_of c w))) w
      two = with_tail_step (3 + 3 * c) (emptied (c + 1)) w v u (emptied c (links_of c w)) r.head p q

      pub asks_third : Tail u (3 + 3 * c) (CanFill (tail_of (3 + 3 * c) u) c (c + 2))
      asks_third =
          let t = after u (emptied (c + 1) (emptied c (links_of c w))) (c + 2) (length_emptied (c + 1) (emptied c (links_of c w)) ∙ length_emptied c (links_of c w)) two (omega arith) in
          record { within = t.within; can = record { high = omega arith; root = t.can } }

      pub gives_links : (t : List ℕ) → t ≡ with_tail (3 + 3 * c) (filled (c + 2) c (tail_of (3 + 3 * c) u)) u → t ≡ with_tail (3 + 3 * c) (fresh_links c (tail_of (3 + 3 * c) w)) w
      unfolding fresh_links
      gives_links t z = with_tail_step (3 + 3 * c) (filled (c + 2) c) w u t (emptied (c + 1) (emptied c (links_of c w))) r.head two z

  pub gives_made : (v : List ℕ) → v ≡ with_tail (3 + 3 * c) (fresh_links c (tail_of (3 + 3 * c) w)) w → set (set (set v 0 0) 1 0) 2 c ≡ made c w
  unfolding made
  gives_made v p = rw p refl

  -- NO RESIDENTS
  l0 : List ℕ
  l0 = links_of c w

  l1 : List ℕ
  l1 = emptied c l0

  l2 : List ℕ
  l2 = emptied (c + 1) l1

  same1 : length l1 ≡ length l0
  unfolding l1
  same1 = length_emptied c l0

  same2 : length l2 ≡ length l0
  unfolding l2
  same2 = length_emptied (c + 1) l1 ∙ same1

  there : (x : ℕ) → x ≤ c + 2 → In l0 x
  unfolding l0
  there x h = in_below (links_of c w) (c + 2) x r.links h

  there1 : In l1 (c + 1)
  there1 = in_length l0 l1 (c + 1) same1 (there (c + 1) (omega arith))

  there2 : In l2 (c + 2)
  there2 = in_length l0 l2 (c + 2) same2 (there (c + 2) (omega arith))

  none : ℕ → List ℕ
  none = lists [] [] (up_from 0 c)

  fresh_rings : Rings (fresh_links c l0) c 3 none
  unfolding fresh_links none lists l1 l2
  fresh_rings i h = ⊎_elim (λ q. rw q ring0) (λ o. ⊎_elim (λ q. rw q ring1) (λ q. rw q ring2) o) (three i h)
    where
      ring0 : Ring (filled (c + 2) c l2) c (c + 0) []
      ring0 =
          let z : c + 0 ≡ c = omega arith in
          rw z (fill_other l2 c (c + 2) c (omega arith) there2 (omega arith) (empty_other l1 c (c + 1) c [] (omega arith) (omega arith) (empty_ring l0 c c (omega arith) (there c (omega arith)))))

      ring1 : Ring (filled (c + 2) c l2) c (c + 1) []
      ring1 = fill_other l2 c (c + 2) (c + 1) (omega arith) there2 (omega arith) (empty_ring l1 c (c + 1) (omega arith) there1)

      ring2 : Ring (filled (c + 2) c l2) c (c + 2) (up_from 0 c)
      ring2 = fill_ring l2 c (c + 2) (omega arith) there2

  size : length (fresh_links c l0) ≡ length l0
  unfolding fresh_links l1 l2
  size = length_filled (c + 2) c l2 ∙ same2

  v0 : List ℕ
  v0 = with_tail (3 + 3 * c) (fresh_links c l0) w

  long : length v0 ≡ length w
  unfolding v0 l0
  long = same_length_with_tail (3 + 3 * c) (fresh_links c l0) w r.head size

  made_links : links_of c (made c w) ≡ fresh_links c l0
  unfolding made v0 l0
  made_links = tail_set (3 + 3 * c) 2 c _ (omega arith) ∙ tail_set (3 + 3 * c) 1 0 _ (omega arith) ∙ tail_set (3 + 3 * c) 0 0 _ (omega arith) ∙ tail_with_tail (3 + 3 * c) _ w r.head

  made_size : length (made c w) ≡ length w
  unfolding made v0 l0
  made_size = simp length-set long

  made_count : (i : ℕ) → i < 3 → count_of (made c w) i ≡ length (none i)
  unfolding made v0 l0 count_of none lists
  made_count i h =
      let n : length v0 ≡ length w = long in
      let k : 3 + 3 * c ≤ length w = r.head in
      let n1 : length (set v0 0 0) ≡ length v0 = length-set v0 0 0 in
      let n2 : length (set (set v0 0 0) 1 0) ≡ length (set v0 0 0) = length-set (set v0 0 0) 1 0 in
      ⊎_elim (λ q. rw q (get_or-set_other (set (set v0 0 0) 1 0) 2 0 c 0 (omega arith) ∙ get_or-set_other (set v0 0 0) 1 0 0 0 (omega arith) ∙ get_or-set_same v0 0 0 0 (omega arith)))
      (λ o. ⊎_elim (λ q. rw q (get_or-set_other (set (set v0 0 0) 1 0) 2 1 c 0 (omega arith) ∙ get_or-set_same (set v0 0 0) 1 0 0 (omega arith))) (λ q. rw q (get_or-set_same (set (set v0 0 0) 1 0) 2 c 0 (omega arith) ∙ sym (length_up_from 0 c))) o) (three i h)

  pub make_residents : Residents (made c w) c (lists [] [] (up_from 0 c))
  unfolding l0 none lists
  make_residents =
      let z : length (made c w) ≡ length w = made_size in
      let k : 3 + 3 * c ≤ length w = r.head in
      record {
        room = record { small = r.small; head = omega arith; links = in_length (links_of c w) (links_of c (made c w)) (c + 2) (ap length made_links ∙ size) r.links };
        counts = made_count;
        rings = rw made_links fresh_rings;
        all = all;
        slots = λ i e h m. absurd (empty i e h m);
      }
    where
      all : total (lists [] [] (up_from 0 c)) ≡ c
      all = let n : length (up_from 0 c) ≡ c = length_up_from 0 c in omega arith

      empty : (i e : ℕ) → i < 2 → Mem e (lists [] [] (up_from 0 c) i) → ⊥
      empty i e h m = ⊎_elim (λ q. rw q at m) (λ o. ⊎_elim (λ q. rw q at m) (λ q. let f : ⊥ = omega arith in f) o) (three i (omega arith))

-- The laws that answer the needs of the functions, in the shape in which the code leaves them: w is the part at entry, u and v what it is after a call. Assumes nothing.
use mathlib.Core.Path.{◌≡◌, refl, sym, ap, ◌∙◌}
use mathlib.Core.Bool.{Bool, true, false}
use mathlib.Core.List.{List}
use Prim.Native.Nat.{ℕ, suc, ◌+◌, ◌-◌, ◌<◌, ◌≤◌}
use native.Mathlib.Omega.{arith}
use lib.ListN.{length, get_or, set}
use lib.Seq.{set-get_or}
use lib.Dec.{ltb}
use borrow.Author.Rules.{rules}
use borrow.Author.Tests.{lt-ltb, le-ltb}
use Rattle.cells.specs.Cells.{In, next_of, prev_of}
use Rattle.cells.proofs.Laws.{in_length}
use Rattle.rings.specs.Members.{without}
use Rattle.rings.specs.Rings.{fronted, emptied, filled, CanFront, CanFill}
use Rattle.rings.specs.Walks.{ring_test, CanWalk}
use Rattle.rings.proofs.Members.{length_without}
use Rattle.rings.proofs.Ring.{length_emptied}
use Rattle.tails.specs.Tails.{tail_of, with_tail, Tail}
use Rattle.tails.proofs.Laws.{tail_with_tail, with_tail_with_tail, word_with_tail, same_length_with_tail}
use Rattle.ghosts.specs.Ghosts.{count_of, ghost_words, Room, live_of, spare_of, Counted, CanRecord, CanForget, Recorded, count_for, record_cell, recorded, forgotten, made, ghosts_test}
use Rattle.ghosts.proofs.Parts.{list_in}
use Rattle.ghosts.proofs.Laws.{can_forget}
use Rattle.ghosts.proofs.Recording.{Records, is_spare, records}

pub asks_list : (w : List ℕ) (c : ℕ) → Room w c → Tail w 1 (In (tail_of 1 w) c)
asks_list w c r = record { within = r.head; can = list_in w c r }

-- the cell that is given next
module _ (w : List ℕ) (c n : ℕ) (k : Counted w c n) where
  pub asks_cells : Tail w 1 (In (tail_of 1 w) c)
  asks_cells = asks_list w c k.room

  pub picks_spare : (r : ℕ) → n < c → r ≡ next_of (tail_of 1 w) (c + 1) → r ≡ record_cell c w
  unfolding record_cell
  picks_spare r h z = rw (lt-ltb (count_of w) c (rw k.count at h)) z

  pub picks_oldest : (r : ℕ) → c ≤ n → r ≡ prev_of (tail_of 1 w) c → r ≡ record_cell c w
  unfolding record_cell
  picks_oldest r h z = rw (le-ltb (count_of w) c (rw k.count at h)) z

-- a page is recorded
module _ (w : List ℕ) (c : ℕ) (can : CanRecord w c) where
  pub asks_pick : Counted w c (get_or w 0 0)
  unfolding count_of
  asks_pick = record { room = can.ghosts.room; count = refl }

  module _ (e : ℕ) (z : e ≡ record_cell c w) where
    pub asks_front : Tail w 1 (CanFront (tail_of 1 w) c e)
    unfolding record_cell
    asks_front =
        let all : Records w c (live_of w c) (spare_of w c) (is_spare (spare_of w c)) = records w c (live_of w c) (spare_of w c) can.some can.ghosts in
        record { within = can.ghosts.room.head; can = rw (z, all.spared) all.asks }

    module _ (v : List ℕ) (p : v ≡ with_tail 1 (fronted c e (tail_of 1 w)) w) where
      gives_as : (t : Bool) → ltb (count_of w) c ≡ t → Recorded w (set v 0 (count_for t (count_of w))) c e
      unfolding recorded ghost_words
      gives_as t q = record { cell = z; words = rw (q, p, z) refl }

      pub gives_spare : get_or w 0 0 < c → Recorded w (set v 0 (get_or w 0 0 + 1)) c e
      unfolding count_of
      gives_spare h = gives_as true (lt-ltb (get_or w 0 0) c h)

      -- the count is as it was
      pub gives_oldest : c ≤ get_or w 0 0 → Recorded w v c e
      unfolding count_of
      gives_oldest h =
          let n : get_or v 0 0 ≡ get_or w 0 0 = rw p (word_with_tail 1 _ w can.ghosts.room.head 0 (omega arith)) in
          let same : set v 0 (get_or w 0 0) ≡ v = rw n at (set-get_or v 0 0) in
          rw same at (gives_as false (le-ltb (get_or w 0 0) c h))

-- a cell is forgotten
module _ (w : List ℕ) (c e : ℕ) (can : CanForget w c e) where
  pub asks_forget : Tail w 1 (CanFront (tail_of 1 w) (c + 1) e)
  asks_forget = record { within = can.ghosts.room.head; can = can_forget w c (live_of w c) (spare_of w c) can.ghosts e can.member }

  pub one_at_least : 1 ≤ get_or w 0 0
  unfolding count_of
  one_at_least =
      let one : suc (length (without e (live_of w c))) ≡ length (live_of w c) = length_without e (live_of w c) can.member in
      let n : get_or w 0 0 ≡ length (live_of w c) = can.ghosts.count in
      omega arith

  pub gives_forget : (v : List ℕ) → v ≡ with_tail 1 (fronted (c + 1) e (tail_of 1 w)) w → set v 0 (get_or w 0 0 - 1) ≡ forgotten c e w
  unfolding forgotten ghost_words count_of
  gives_forget v p = rw p refl

-- an empty list
module _ (w u : List ℕ) (c : ℕ) (r : Room w c) (p : u ≡ with_tail 1 (emptied c (tail_of 1 w)) w) where
  links : tail_of 1 u ≡ emptied c (tail_of 1 w)
  links = rw p (tail_with_tail 1 _ w r.head)

  pub asks_fill : Tail u 1 (CanFill (tail_of 1 u) c (c + 1))
  asks_fill =
      let z : length (with_tail 1 (emptied c (tail_of 1 w)) w) ≡ length w = same_length_with_tail 1 _ w r.head (length_emptied c (tail_of 1 w)) in
      let y : length u ≡ length w = ap length p ∙ z in
      let h : 1 ≤ length w = r.head in
      record { within = omega arith; can = record { high = omega arith; root = rw links (in_length (tail_of 1 w) _ (c + 1) (length_emptied c (tail_of 1 w)) r.links) } }

  pub gives_made : (v : List ℕ) → v ≡ with_tail 1 (filled (c + 1) c (tail_of 1 u)) u → set v 0 0 ≡ made c w
  unfolding made ghost_words
  gives_made v q = ap (λ (t : List ℕ). set t 0 0) (q ∙ ap (λ (l : List ℕ). with_tail 1 (filled (c + 1) c l) u) links ∙ ap (with_tail 1 (filled (c + 1) c (emptied c (tail_of 1 w)))) p ∙ with_tail_with_tail 1 _ w r.head _)

-- the test
module _ (w : List ℕ) (c : ℕ) where
  pub asks_test : Room w c → Tail w 1 (CanWalk (tail_of 1 w) c c)
  asks_test r = record { within = r.head; can = record { high = omega arith; root = list_in w c r } }

  pub test_long : c < get_or w 0 0 → false ≡ ghosts_test w c
  unfolding ghosts_test count_of
  test_long h = rw (lt-ltb c (get_or w 0 0) h) refl

  pub test_list : (t : Bool) → get_or w 0 0 ≤ c → t ≡ ring_test (tail_of 1 w) c c (get_or w 0 0) → t ≡ false → false ≡ ghosts_test w c
  unfolding ghosts_test count_of
  test_list t h q e = rw (le-ltb c (get_or w 0 0) h, sym q ∙ e) refl

  pub test_spares : (t u : Bool) → get_or w 0 0 ≤ c → t ≡ ring_test (tail_of 1 w) c c (get_or w 0 0) → t ≡ true → u ≡ ring_test (tail_of 1 w) c (c + 1) (c - get_or w 0 0) → u ≡ ghosts_test w c
  unfolding ghosts_test count_of
  test_spares t u h q e p = rw (le-ltb c (get_or w 0 0) h, sym q ∙ e) p

pub ruleset tests = (asks_test, test_long, test_list, test_spares, rules)

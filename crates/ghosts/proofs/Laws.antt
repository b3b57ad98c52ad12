-- The laws of ghost lists: what each change does to the two lists, and that the test decides. In order: the reading; what the list and the spares have;
-- a page recorded; a cell forgotten; an empty list; the test.
-- Assumes nothing.
use mathlib.Core.Path.{◌≡◌, refl, ◌∙◌}
use mathlib.Core.Logic.{◌⊎◌}
use mathlib.Core.List.{List, [], ◌∷◌, ◌++◌}
use Prim.Native.Nat.{ℕ, suc, ◌+◌, ◌-◌, ◌<◌}
use native.Mathlib.Omega.{arith}
use native.Mathlib.Nat.{not-suc-le-zero}
use lib.ListN.{length, length-append}
use Rattle.cells.specs.Cells.{In, prev_of}
use Rattle.cells.proofs.Laws.{in_length}
use Rattle.rings.specs.Members.{Mem, Fresh, without, last_of, up_from}
use Rattle.rings.specs.Rings.{Ring, detached, fronted, emptied, filled, CanFront}
use Rattle.rings.proofs.Members.{length_without, fresh_without, mem_append, distinct_append, below_append}
use Rattle.rings.proofs.Pigeons.{covers, length_up_from}
use Rattle.rings.proofs.Ring.{ring_distinct, detach_ring, detach_other, apart, empty_ring, length_emptied}
use Rattle.rings.proofs.Moves.{can_front, front_to, front_other, length_fronted}
use Rattle.rings.proofs.Reading.{ring_members, last_is}
use Rattle.rings.proofs.Filling.{fill_ring, fill_other, length_filled}
use Rattle.ghosts.specs.Ghosts.{count_of, links_of, ghost_words, Room, Ghosts, live_of, spare_of, IsGhosts, forgotten, made}
use Rattle.ghosts.proofs.Parts.{count_words, links_words, room_words, list_in}

-- THE READING IS THE ONLY ONE
pub live_is : (w : List ℕ) (c : ℕ) (live spare : List ℕ) → Ghosts w c live spare → live_of w c ≡ live
unfolding live_of
live_is w c live spare g = ring_members (links_of w) c c live g.list

pub spare_is : (w : List ℕ) (c : ℕ) (live spare : List ℕ) → Ghosts w c live spare → spare_of w c ≡ spare
unfolding spare_of
spare_is w c live spare g = ring_members (links_of w) c (c + 1) spare g.spares

pub ghosts_read : (w : List ℕ) (c : ℕ) (live spare : List ℕ) → Ghosts w c live spare → IsGhosts w c
ghosts_read w c live spare g = rw (live_is w c live spare g, spare_is w c live spare g) g

-- a part of which the count and the two rings are known
pub ghosts_of_lem : (n : ℕ) (l w : List ℕ) (c : ℕ) (live spare : List ℕ) → Room w c → length l ≡ length (links_of w) → n ≡ length live → Ring l c c live → Ring l c (c + 1) spare → length live + length spare ≡ c → Ghosts (ghost_words n l w) c live spare
ghosts_of_lem n l w c live spare r q k a b h =
    record {
      room = room_words n l w r.head c q r;
      count = count_words n l w r.head ∙ k;
      list = rw (links_words n l w r.head) a;
      spares = rw (links_words n l w r.head) b;
      all = h;
    }

-- WHAT THE TWO LISTS HAVE: each cell below c is in one of them, and in one only
module _ (w : List ℕ) (c : ℕ) (live spare : List ℕ) (g : Ghosts w c live spare) where
  pub apart_lists : (x : ℕ) → Mem x live → Fresh x spare
  apart_lists x k = apart (links_of w) c c (c + 1) live spare g.list g.spares (omega arith) x k

  pub live_or_spare : (x : ℕ) → x < c → Mem x live ⊎ Mem x spare
  live_or_spare x h =
      let q : length (live ++ spare) ≡ length live + length spare = length-append live spare in
      let z : length live + length spare ≡ c = g.all in
      mem_append x live spare (covers c (live ++ spare) (distinct_append live spare (ring_distinct (links_of w) c c live g.list) (ring_distinct (links_of w) c (c + 1) spare g.spares) apart_lists) (below_append c live spare g.list.below g.spares.below) (omega arith) x h)

  pub oldest_is : 0 < length live → prev_of (links_of w) c ≡ last_of 0 live
  oldest_is h = last_is (links_of w) c c live g.list ∙ same live h
    where
      same : (xs : List ℕ) → 0 < length xs → last_of c xs ≡ last_of 0 xs
      same [] k = absurd (not-suc-le-zero k)
      same (x ∷ xs) k = refl

  -- A CELL FORGOTTEN
  module _ (e : ℕ) (k : Mem e live) where
    out : Ring (detached e (links_of w)) c c (without e live)
    out = detach_ring (links_of w) c c live g.list e k

    stays : Ring (detached e (links_of w)) c (c + 1) spare
    stays = detach_other (links_of w) c c (c + 1) live spare g.list g.spares (omega arith) e k

    pub can_forget : CanFront (links_of w) (c + 1) e
    can_forget = can_front (links_of w) c c live g.list e k (c + 1) spare stays

    pub forget_ghosts : Ghosts (forgotten c e w) c (without e live) (e ∷ spare)
    unfolding forgotten
    forget_ghosts =
        let one : suc (length (without e live)) ≡ length live = length_without e live k in
        let n : count_of w ≡ length live = g.count in
        let z : length live + length spare ≡ c = g.all in
        ghosts_of_lem (count_of w - 1) (fronted (c + 1) e (links_of w)) w c (without e live) (e ∷ spare) g.room (length_fronted (c + 1) e (links_of w)) (omega arith)
        (front_other (links_of w) c c live g.list e k (c + 1) spare stays c (without e live) out (omega arith) (fresh_without e live (ring_distinct (links_of w) c c live g.list)))
        (front_to (links_of w) c c live g.list e k (c + 1) spare stays (apart_lists e k))
        (omega arith)

-- AN EMPTY LIST
pub make_ghosts : (w : List ℕ) (c : ℕ) → Room w c → Ghosts (made c w) c [] (up_from 0 c)
unfolding made
make_ghosts w c r =
    let l : List ℕ = emptied c (links_of w) in
    let len : length l ≡ length (links_of w) = length_emptied c (links_of w) in
    let i : In l (c + 1) = in_length (links_of w) l (c + 1) len r.links in
    let none : Ring l c c [] = empty_ring (links_of w) c c (omega arith) (list_in w c r) in
    ghosts_of_lem 0 (filled (c + 1) c l) w c [] (up_from 0 c) r (length_filled (c + 1) c l ∙ len) refl
    (fill_other l c (c + 1) c (omega arith) i (omega arith) none)
    (fill_ring l c (c + 1) (omega arith) i)
    (let z : length (up_from 0 c) ≡ c = length_up_from 0 c in omega arith)

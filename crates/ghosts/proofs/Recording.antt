-- The laws of a page recorded in a ghost list: a spare cell comes to the front, or the oldest where none is spare. Assumes nothing.
use mathlib.Core.Path.{◌≡◌, refl, ap, ◌∙◌}
use mathlib.Core.Bool.{Bool, true, false}
use mathlib.Core.Logic.{inl}
use mathlib.Core.List.{List, [], ◌∷◌}
use Prim.Native.Nat.{ℕ, suc, ◌+◌, ◌<◌}
use native.Mathlib.Omega.{arith}
use lib.ListN.{length}
use lib.Dec.{ltb}
use borrow.Author.Tests.{lt-ltb, le-ltb}
use Rattle.cells.specs.Cells.{next_of, prev_of}
use Rattle.rings.specs.Members.{Mem, Fresh, without, last_of, without_last}
use Rattle.rings.specs.Rings.{Ring, detached, fronted, CanFront}
use Rattle.rings.proofs.Members.{length_without, without_first, fresh_without}
use Rattle.rings.proofs.Ring.{ring_distinct, detach_ring, detach_other, apart}
use Rattle.rings.proofs.Moves.{can_front, front_to, front_other, length_fronted}
use Rattle.rings.proofs.Reading.{first_is, last_member, last_out}
use Rattle.ghosts.specs.Ghosts.{count_of, links_of, Ghosts, cell_for, record_cell, recorded, cell_of, live_after, spare_after}
use Rattle.ghosts.proofs.Laws.{ghosts_of_lem, oldest_is}

-- what recording does, and what it asks, where e is the cell and t tells whether it is spare
pub record Records (w : List ℕ) (c : ℕ) (live spare : List ℕ) (t : Bool) : Type 0 where
  pub spared : ltb (count_of w) c ≡ t
  pub cell : cell_for t c (links_of w) ≡ cell_of live spare
  pub asks : CanFront (links_of w) c (cell_for t c (links_of w))
  pub after : Ghosts (recorded c w) c (live_after live spare) (spare_after spare)

module _ (w : List ℕ) (c : ℕ) (live : List ℕ) where
  with_spare : (x : ℕ) (spare : List ℕ) → Ghosts w c live (x ∷ spare) → Records w c live (x ∷ spare) true
  unfolding recorded record_cell
  with_spare x spare g =
      let n : count_of w ≡ length live = g.count in
      let z : length live + suc (length spare) ≡ c = g.all in
      let t : ltb (count_of w) c ≡ true = lt-ltb (count_of w) c (omega arith) in
      let q : next_of (links_of w) (c + 1) ≡ x = first_is (links_of w) c (c + 1) x spare g.spares in
      let d : Ring (detached x (links_of w)) c c live = detach_other (links_of w) c (c + 1) c (x ∷ spare) live g.spares g.list (omega arith) x (inl refl) in
      let o : Ring (detached x (links_of w)) c (c + 1) (without x (x ∷ spare)) = detach_ring (links_of w) c (c + 1) (x ∷ spare) g.spares x (inl refl) in
      let f : Fresh x live = apart (links_of w) c (c + 1) c (x ∷ spare) live g.spares g.list (omega arith) x (inl refl) in
      record {
        spared = t;
        cell = q;
        asks = rw q (can_front (links_of w) c (c + 1) (x ∷ spare) g.spares x (inl refl) c live d);
        after = rw (t, q) (ghosts_of_lem (count_of w + 1) (fronted c x (links_of w)) w c (x ∷ live) spare g.room (length_fronted c x (links_of w)) (omega arith)
            (front_to (links_of w) c (c + 1) (x ∷ spare) g.spares x (inl refl) c live d f)
            (rw (without_first x spare) at (front_other (links_of w) c (c + 1) (x ∷ spare) g.spares x (inl refl) c live d (c + 1) (without x (x ∷ spare)) o (omega arith) (fresh_without x (x ∷ spare) (ring_distinct (links_of w) c (c + 1) (x ∷ spare) g.spares))))
            (omega arith));
      }

  no_spare : 0 < c → Ghosts w c live [] → Records w c live [] false
  unfolding recorded record_cell
  no_spare h g =
      let n : count_of w ≡ length live = g.count in
      let z : length live + 0 ≡ c = g.all in
      let some : 0 < length live = omega arith in
      let t : ltb (count_of w) c ≡ false = le-ltb (count_of w) c (omega arith) in
      let e : ℕ = prev_of (links_of w) c in
      let q : e ≡ last_of 0 live = oldest_is w c live [] g some in
      let k : Mem e live = last_member (links_of w) c c live g.list some in
      let d : Ring (detached e (links_of w)) c c (without e live) = detach_ring (links_of w) c c live g.list e k in
      let o : Ring (detached e (links_of w)) c (c + 1) [] = detach_other (links_of w) c c (c + 1) live [] g.list g.spares (omega arith) e k in
      let one : suc (length (without e live)) ≡ length live = length_without e live k in
      let list : Ring (fronted c e (links_of w)) c c (e ∷ without e live) = front_to (links_of w) c c live g.list e k c (without e live) d (fresh_without e live (ring_distinct (links_of w) c c live g.list)) in
      let same : e ∷ without e live ≡ last_of 0 live ∷ without_last live = ap (λ (l : List ℕ). e ∷ l) (last_out (links_of w) c c live g.list some) ∙ ap (λ (x : ℕ). x ∷ without_last live) q in
      record {
        spared = t;
        cell = q;
        asks = can_front (links_of w) c c live g.list e k c (without e live) d;
        after = rw (t, ← same) (ghosts_of_lem (count_of w) (fronted c e (links_of w)) w c (e ∷ without e live) [] g.room (length_fronted c e (links_of w)) (omega arith)
            list
            (front_other (links_of w) c c live g.list e k c (without e live) d (c + 1) [] o (omega arith) tt)
            (omega arith));
      }

-- whether a cell is spare
abbrev pub is_spare : List ℕ → Bool
is_spare [] = false
is_spare (x ∷ xs) = true

pub records : (w : List ℕ) (c : ℕ) (live spare : List ℕ) → 0 < c → Ghosts w c live spare → Records w c live spare (is_spare spare)
records w c live [] h g = no_spare w c live h g
records w c live (x ∷ xs) h g = with_spare w c live x xs g

-- A PAGE RECORDED
pub record_cell_lem : (w : List ℕ) (c : ℕ) (live spare : List ℕ) → 0 < c → Ghosts w c live spare → record_cell c w ≡ cell_of live spare
unfolding record_cell
record_cell_lem w c live spare h g = let r = records w c live spare h g in rw r.spared r.cell

pub record_ghosts : (w : List ℕ) (c : ℕ) (live spare : List ℕ) → 0 < c → Ghosts w c live spare → Ghosts (recorded c w) c (live_after live spare) (spare_after spare)
record_ghosts w c live spare h g = (records w c live spare h g).after

-- A place that leaves, and is dead. Assumes nothing.
use Rattle.std.proofs.Common.{◌≡◌, ℕ, ◌+◌, ◌<◌, List, length, ap, ◌∙◌, inr, ⊎_elim}
use Rattle.cells.specs.Cells.{In, next_of, prev_of, with_prev}
use Rattle.cells.proofs.Laws.{prev_same, prev_other, length_with_prev, in_length}
use Rattle.rings.specs.Members.{Mem, without}
use Rattle.rings.specs.Rings.{Ring, out_of, detached}
use Rattle.rings.proofs.Members.{not_mem, mem_without, mem_stays}
use Rattle.rings.proofs.Ring.{length_detached, prev_detached, member_below, ring_after, can_detach}
use Rattle.rings.proofs.Family.{detach_rings, detach_fresh}
use Rattle.lookup.specs.Buckets.{bucket_of}
use Rattle.lookup.specs.Part.{page_of, links_of}
use Rattle.lookup.specs.Lookup.{Table, Held, Dead}
use Rattle.lookup.specs.Changes.{unlinked, taken, CanTake, Taken}
use Rattle.lookup.proofs.Part.{links_in_links, page_in_links, length_in_links}
use Rattle.lookup.proofs.Rising.{rising_same, rising_without}
use Rattle.lookup.proofs.Table.{table_read, home, bucket_held, held_somewhere, held_home, held_below, dead_unheld, dead_none, mark_rings, changed_table, changed_stays, changed_only}

pub length_unlinked : (x : ℕ) (l : List ℕ) → length (unlinked x l) ≡ length l
unfolding unlinked
length_unlinked x l = length_with_prev (detached x l) x x ∙ length_detached x l

module _ (w : List ℕ) (m k : ℕ) (P : ℕ → List ℕ) (t : Table w m k P) (x : ℕ) (has : Held w m k x) where
  b : ℕ
  b = bucket_of k (page_of w x)

  hb : b < k
  unfolding b
  hb = home w m k P t (page_of w x)

  in_b : Mem x (P b)
  unfolding b
  in_b = held_home w m k P t x has

  ring : Ring (links_of m w) m (m + b) (P b)
  ring = t.rings b hb

  small : x < m
  small = held_below w m k P t x has

  v : List ℕ
  v = taken m x w

  links : links_of m v ≡ with_prev (detached x (links_of m w)) x x
  unfolding v taken unlinked
  links = links_in_links m (unlinked x) w t.room.pages

  page : (z : ℕ) → z < m → page_of v z ≡ page_of w z
  unfolding v taken
  page z h = page_in_links m (unlinked x) w t.room.pages z h

  size : length v ≡ length w
  unfolding v taken
  size = length_in_links m (unlinked x) w t.room.pages (length_unlinked x (links_of m w))

  kept : (i z : ℕ) → i < k → Mem z (P i) → page_of v z ≡ page_of w z
  kept i z hi j = page z (member_below (links_of m w) m (m + i) (P i) (t.rings i hi) z j)

  after : Table v m k (out_of b x P)
  after =
      changed_table w v m k b P (without x (P b)) t hb size
      (rw links (mark_rings (detached x (links_of m w)) m k x x (out_of b x P) (detach_rings (links_of m w) m k P t.rings b x hb in_b) small (detach_fresh (links_of m w) m k P t.rings b x hb in_b)))
      (λ i z hi n j. kept i z hi j)
      (λ z j. ap (bucket_of k) (kept b z hb (mem_without x z (P b) j)) ∙ t.homes b z hb (mem_without x z (P b) j))
      (rising_same w v 0 (without x (P b)) (λ z j. kept b z hb (mem_without x z (P b) j)) (rising_without w 0 x (P b) (t.rising b hb)))

  pub can_take : CanTake w m x
  can_take = record { pages = t.room.pages; links = can_detach (links_of m w) m (m + b) (P b) ring x in_b }

  pub take_does : Taken w (taken m x w) m k x
  unfolding v Dead
  take_does =
      record {
        table = table_read v m k (out_of b x P) after;
        gone = λ j. let s = held_somewhere v m k (out_of b x P) after x j in not_mem x (out_of b x P s.0) (detach_fresh (links_of m w) m k P t.rings b x hb in_b s.0 s.1) s.2;
        stays = λ z n j. changed_stays w v m k b P (without x (P b)) t hb after z (λ i. mem_stays x z (P b) n i) j;
        only = λ z j. ⊎_elim (λ i. bucket_held w m k P t b z hb (mem_without x z (P b) i)) (λ o. o) (changed_only w v m k b P (without x (P b)) t hb after z j);
        pages = page;
        died = ap (λ (s : List ℕ). prev_of s x) links ∙ prev_same (detached x (links_of m w)) x x here here;
        dead = λ z lz d. ap (λ (s : List ℕ). prev_of s z) links ∙ prev_other (detached x (links_of m w)) x x z (λ q. dead_unheld w m k P t z d (rw q has)) ∙ prev_detached x (links_of m w) z (λ q. dead_none w m k P t b z (next_of (links_of m w) x) hb lz d (ring_after (links_of m w) m (m + b) (P b) ring x (inr in_b)) q) ∙ d;
        size = size;
      }
    where
      here : In (detached x (links_of m w)) x
      here = in_length (links_of m w) (detached x (links_of m w)) x (length_detached x (links_of m w)) can_take.links.self

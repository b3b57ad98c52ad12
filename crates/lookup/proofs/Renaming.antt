-- The page of one place comes to another, which is dead; the first is then dead. Assumes nothing.
use Rattle.std.proofs.Common.{◌≡◌, ℕ, ◌+◌, ◌<◌, ◌≤◌, ◌⊎◌, List, length, set, sym, ap, ◌∙◌, inl, inr, ⊎_elim, arith, length-set, get_or-set_other, get_or-set_same}
use Rattle.cells.specs.Cells.{In, next_of, prev_of, with_prev}
use Rattle.cells.proofs.Laws.{prev_same, prev_other, length_with_prev, in_length}
use Rattle.rings.specs.Members.{Mem, Fresh, in_place_of}
use Rattle.rings.specs.Rings.{Ring, Rings, changed, detached, replaced}
use Rattle.rings.proofs.Members.{same_or_other, not_mem}
use Rattle.rings.proofs.Ring.{prev_inserted, prev_detached, member_below, ring_after, ring_distinct}
use Rattle.rings.proofs.Moves.{length_replaced, can_replace}
use Rattle.rings.proofs.Family.{changed_here, changed_other, rings_apart, replace_rings}
use Rattle.lookup.specs.Buckets.{bucket_of}
use Rattle.lookup.specs.Part.{page_of, with_page, links_of}
use Rattle.lookup.specs.Lookup.{Table, Held, Dead}
use Rattle.lookup.specs.Changes.{handed_over, renamed, CanRename, Renamed}
use Rattle.lookup.proofs.Part.{links_with_page, links_in_links, page_in_links, length_in_links}
use Rattle.lookup.proofs.Rising.{rising_in_place, mem_in_place, in_place_stays, in_place_here, fresh_in_place}
use Rattle.lookup.proofs.Table.{table_read, home, bucket_held, held_somewhere, held_home, held_below, unheld, dead_unheld, dead_none, mark_rings, changed_table, changed_into, changed_stays, changed_only}

pub length_handed_over : (x y : ℕ) (l : List ℕ) → length (handed_over x y l) ≡ length l
unfolding handed_over
length_handed_over x y l = length_with_prev (replaced x y l) x x ∙ length_replaced x y l

module _ (w : List ℕ) (m k : ℕ) (P : ℕ → List ℕ) (t : Table w m k P) (x y : ℕ) (has : Held w m k x) (ly : y < m) where
  b : ℕ
  b = bucket_of k (page_of w x)

  hb : b < k
  unfolding b
  hb = home w m k P t (page_of w x)

  in_b : Mem x (P b)
  unfolding b
  in_b = held_home w m k P t x has

  ring : Ring (links_of m w) m (m + b) (P b)
  ring = t.rings b hb

  small : x < m
  small = held_below w m k P t x has

  v : List ℕ
  v = renamed m x y w

  room : m ≤ length (with_page w y (page_of w x))
  room = let q : length (set w y (page_of w x)) ≡ length w = length-set w y (page_of w x) in let h : m ≤ length w = t.room.pages in omega arith

  links : links_of m v ≡ with_prev (replaced x y (links_of m w)) x x
  unfolding v renamed handed_over
  links = links_in_links m (handed_over x y) (with_page w y (page_of w x)) room ∙ ap (handed_over x y) (links_with_page m w y (page_of w x) ly)

  page_here : page_of v y ≡ page_of w x
  unfolding v renamed
  page_here = page_in_links m (handed_over x y) (with_page w y (page_of w x)) room y ly ∙ get_or-set_same w y (page_of w x) 0 (let h : m ≤ length w = t.room.pages in omega arith)

  page : (z : ℕ) → z < m → (z ≡ y → ⊥) → page_of v z ≡ page_of w z
  unfolding v renamed
  page z h n = page_in_links m (handed_over x y) (with_page w y (page_of w x)) room z h ∙ get_or-set_other w y z (page_of w x) 0 n

  size : length v ≡ length w
  unfolding v renamed
  size = length_in_links m (handed_over x y) (with_page w y (page_of w x)) room (length_handed_over x y (links_of m (with_page w y (page_of w x)))) ∙ length-set w y (page_of w x)

  pub can_rename : CanRename w m x y
  can_rename = record { pages = t.room.pages; from = small; to = ly; links = can_replace (links_of m w) m (m + b) (P b) ring x y in_b ly }

  module _ (ny : Held w m k y → ⊥) where
    ys : List ℕ
    ys = in_place_of x y (P b)

    xy : x ≡ y → ⊥
    xy q = ny (rw q at has)

    kept : (i z : ℕ) → i < k → Mem z (P i) → page_of v z ≡ page_of w z
    kept i z hi j = page z (member_below (links_of m w) m (m + i) (P i) (t.rings i hi) z j) (λ q. ny (bucket_held w m k P t i y hi (rw q at j)))

    -- x is then in no bucket
    gone : (i : ℕ) → i < k → Fresh x (changed P b ys i)
    unfolding ys
    gone i hi = go (same_or_other i b)
      where
        go : (i ≡ b) ⊎ (i ≡ b → ⊥) → Fresh x (changed P b (in_place_of x y (P b)) i)
        go (inl q) = rw (q, changed_here P b (in_place_of x y (P b))) (fresh_in_place x y (P b) xy (ring_distinct (links_of m w) m (m + b) (P b) ring))
        go (inr n) = rw (changed_other P b (in_place_of x y (P b)) i n) (rings_apart (links_of m w) m k P t.rings b i hb hi (λ q. n (sym q)) x in_b)

    rings : Rings (links_of m v) m k (changed P b ys)
    unfolding ys
    rings = rw links (mark_rings (replaced x y (links_of m w)) m k x x (changed P b (in_place_of x y (P b))) (replace_rings (links_of m w) m k P t.rings b x y hb in_b ly (unheld w m k P t y ny)) small gone)

    homes : (z : ℕ) → (z ≡ y) ⊎ Mem z (P b) → bucket_of k (page_of v z) ≡ b
    homes z (inl q) = ap (λ (n : ℕ). bucket_of k (page_of v n)) q ∙ ap (bucket_of k) page_here ∙ t.homes b x hb in_b
    homes z (inr i) = ap (bucket_of k) (kept b z hb i) ∙ t.homes b z hb i

    after : Table v m k (changed P b ys)
    unfolding ys
    after =
        changed_table w v m k b P (in_place_of x y (P b)) t hb size rings (λ i z hi n j. kept i z hi j)
        (λ z j. homes z (mem_in_place x y z (P b) j))
        (rising_in_place w v 0 x y (P b) (t.rising b hb) (ring_distinct (links_of m w) m (m + b) (P b) ring) (λ z j n. kept b z hb j) page_here)

    here : In (replaced x y (links_of m w)) x
    here = in_length (links_of m w) (replaced x y (links_of m w)) x (length_replaced x y (links_of m w)) can_rename.links.out.self

    dead : (z : ℕ) → z < m → (z ≡ y → ⊥) → Dead w m z → Dead v m z
    unfolding Dead replaced
    dead z lz n d =
        let off : z ≡ next_of (links_of m w) x → ⊥ = (λ q. dead_none w m k P t b z (next_of (links_of m w) x) hb lz d (ring_after (links_of m w) m (m + b) (P b) ring x (inr in_b)) q) in
        ap (λ (s : List ℕ). prev_of s z) links
        ∙ prev_other (replaced x y (links_of m w)) x x z (λ q. dead_unheld w m k P t z d (rw q has))
        ∙ prev_inserted (next_of (links_of m w) x) y (detached x (links_of m w)) z n off
        ∙ prev_detached x (links_of m w) z off
        ∙ d

    pub rename_does : Renamed w (renamed m x y w) m k x y
    unfolding v ys Dead
    rename_does =
        record {
          table = table_read v m k (changed P b ys) after;
          here = changed_into w v m k b P ys t hb after y (in_place_here x y (P b) in_b);
          gone = λ j. let s = held_somewhere v m k (changed P b ys) after x j in not_mem x (changed P b ys s.0) (gone s.0 s.1) s.2;
          stays = λ z n j. changed_stays w v m k b P ys t hb after z (λ i. in_place_stays x y z (P b) n i) j;
          only = λ z j. ⊎_elim (λ i. ⊎_elim (λ q. inl q) (λ o. inr (bucket_held w m k P t b z hb o)) (mem_in_place x y z (P b) i)) (λ o. inr o) (changed_only w v m k b P ys t hb after z j);
          page = page_here;
          pages = page;
          died = ap (λ (s : List ℕ). prev_of s x) links ∙ prev_same (replaced x y (links_of m w)) x x here here;
          dead = dead;
          size = size;
        }

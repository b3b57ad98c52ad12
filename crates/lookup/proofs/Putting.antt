-- A page that comes: the dead place y gets the page p, before f, where p belongs. Assumes nothing.
use Rattle.std.proofs.Common.{◌≡◌, ℕ, ◌+◌, ◌<◌, ◌≤◌, ◌⊎◌, List, length, set, sym, refl, ap, ◌∙◌, subst, inl, inr, ⊎_elim, arith, length-set, get_or-set_other, get_or-set_same}
use Rattle.cells.specs.Cells.{prev_of}
use Rattle.rings.specs.Members.{Mem, insert_before}
use Rattle.rings.specs.Rings.{changed, inserted}
use Rattle.rings.proofs.Members.{not_mem, mem_insert, insert_mem}
use Rattle.rings.proofs.Ring.{length_inserted, prev_inserted, ring_fresh, member_below, can_insert}
use Rattle.rings.proofs.Family.{insert_rings}
use Rattle.lookup.specs.Buckets.{bucket_of}
use Rattle.lookup.specs.Part.{page_of, with_page, links_of}
use Rattle.lookup.specs.Lookup.{Rising, Table, Held, Dead, find_of}
use Rattle.lookup.specs.Changes.{put_in, CanPut, Put}
use Rattle.lookup.proofs.Part.{links_with_page, links_in_links, page_in_links, length_in_links}
use Rattle.lookup.proofs.Rising.{rising_put}
use Rattle.lookup.proofs.Table.{table_read, home, bucket_held, unheld, dead_none, find_is, find_range, changed_table, changed_into, changed_stays, changed_only}

-- the words: links, pages, length
module _ (w : List ℕ) (m f y p : ℕ) (h : m ≤ length w) (l : y < m) where
  room : m ≤ length (with_page w y p)
  room = let q : length (set w y p) ≡ length w = length-set w y p in omega arith

  pub links_put : links_of m (put_in m f y p w) ≡ inserted f y (links_of m w)
  unfolding put_in
  links_put = links_in_links m (inserted f y) (with_page w y p) room ∙ ap (inserted f y) (links_with_page m w y p l)

  pub page_put_here : page_of (put_in m f y p w) y ≡ p
  unfolding put_in
  page_put_here = page_in_links m (inserted f y) (with_page w y p) room y l ∙ get_or-set_same w y p 0 (omega arith)

  pub page_put : (z : ℕ) → z < m → (z ≡ y → ⊥) → page_of (put_in m f y p w) z ≡ page_of w z
  unfolding put_in
  page_put z lz n = page_in_links m (inserted f y) (with_page w y p) room z lz ∙ get_or-set_other w y z p 0 n

  pub length_put : length (put_in m f y p w) ≡ length w
  unfolding put_in
  length_put = length_in_links m (inserted f y) (with_page w y p) room (length_inserted f y (links_of m (with_page w y p))) ∙ length-set w y p

-- the table
module _ (w : List ℕ) (m k : ℕ) (P : ℕ → List ℕ) (t : Table w m k P) (f y p : ℕ) (at : f ≡ find_of w m k p) (l : y < m) where
  b : ℕ
  b = bucket_of k p

  hb : b < k
  unfolding b
  hb = home w m k P t p

  place : (f ≡ m + b) ⊎ Mem f (P b)
  unfolding b
  place = find_range w m k P t p f at

  v : List ℕ
  v = put_in m f y p w

  here : page_of v y ≡ p
  unfolding v
  here = page_put_here w m f y p t.room.pages l

  pub can_put : CanPut w m f y
  can_put = record { pages = t.room.pages; place = l; links = can_insert (links_of m w) m (m + b) (P b) (t.rings b hb) f y place l }

  module _ (ny : Held w m k y → ⊥) (np : (x : ℕ) → Held w m k x → page_of w x ≡ p → ⊥) where
    kept : (i z : ℕ) → i < k → Mem z (P i) → page_of v z ≡ page_of w z
    unfolding v
    kept i z hi j = page_put w m f y p t.room.pages l z (member_below (links_of m w) m (m + i) (P i) (t.rings i hi) z j) (λ q. not_mem y (P i) (unheld w m k P t y ny i hi) (rw q at j))

    rises : Rising v 0 (insert_before f y (P b))
    unfolding b
    rises =
        subst (λ (g : ℕ). Rising v 0 (insert_before g y (P b))) (sym (at ∙ find_is w m k P t p))
        (rising_put w v 0 p (m + b) y (P b) (t.rising b hb) (omega arith) (λ x j. np x (bucket_held w m k P t b x hb j)) (ring_fresh (links_of m w) m (m + b) (P b) (t.rings b hb)) (λ x j. kept b x hb j) here)

    homes : (z : ℕ) → (z ≡ y) ⊎ Mem z (P b) → bucket_of k (page_of v z) ≡ b
    unfolding b
    homes z (inl q) = ap (λ (n : ℕ). bucket_of k (page_of v n)) q ∙ ap (bucket_of k) here
    homes z (inr i) = ap (bucket_of k) (kept b z hb i) ∙ t.homes b z hb i

    after : Table v m k (changed P b (insert_before f y (P b)))
    unfolding v
    after =
        changed_table w v m k b P (insert_before f y (P b)) t hb (length_put w m f y p t.room.pages l)
        (rw (links_put w m f y p t.room.pages l) (insert_rings (links_of m w) m k P t.rings b f y hb place l (unheld w m k P t y ny)))
        (λ i x hi n j. kept i x hi j) (λ x j. homes x (mem_insert f y x (P b) j)) rises

    pub put_does : Put w (put_in m f y p w) m k y p
    unfolding v Dead
    put_does =
        let ys = insert_before f y (P b) in
        record {
          table = table_read v m k (changed P b ys) after;
          here = changed_into w v m k b P ys t hb after y (insert_mem f y y (P b) (inl refl));
          stays = λ z j. changed_stays w v m k b P ys t hb after z (λ i. insert_mem f y z (P b) (inr i)) j;
          only = λ z j. ⊎_elim (λ i. ⊎_elim (λ q. inl q) (λ o. inr (bucket_held w m k P t b z hb o)) (mem_insert f y z (P b) i)) (λ o. inr o) (changed_only w v m k b P ys t hb after z j);
          page = here;
          pages = page_put w m f y p t.room.pages l;
          dead = λ z lz n d. ap (λ (s : List ℕ). prev_of s z) (links_put w m f y p t.room.pages l) ∙ prev_inserted f y (links_of m w) z n (λ q. dead_none w m k P t b z f hb lz d place q) ∙ d;
          size = length_put w m f y p t.room.pages l;
        }

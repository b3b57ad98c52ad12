-- The laws of the table. In order: the reading; the places held; dead places; a table changed at one bucket. Assumes nothing.
use Rattle.std.proofs.Common.{◌≡◌, ℕ, ◌+◌, ◌-◌, ◌*◌, ◌<◌, ◌≤◌, ◌⊎◌, List, length, drop, sym, ap, ◌∙◌, inl, inr, ⊎_elim, arith, length-drop}
use Rattle.cells.specs.Cells.{with_prev}
use Rattle.cells.proofs.Laws.{in_cells, cells_length, cells_words, in_length, length_with_prev}
use Rattle.rings.specs.Members.{Mem, Fresh, Distinct}
use Rattle.rings.specs.Rings.{Rings, changed, together}
use Rattle.rings.proofs.Members.{same_or_other, fresh}
use Rattle.rings.proofs.Links.{links_with_prev}
use Rattle.rings.proofs.Ring.{member_below, member_held}
use Rattle.rings.proofs.Reading.{ring_members}
use Rattle.rings.proofs.Family.{changed_here, changed_other, rings_read, mem_together, together_mem, together_same, together_distinct}
use Rattle.lookup.specs.Buckets.{bucket_of, buckets_of, places_of, words_needed}
use Rattle.lookup.specs.Part.{page_of, links_of, Room}
use Rattle.lookup.specs.Lookup.{Rising, seek, Table, bucket_in, Lookup, places_in, Held, Dead, find_of, CanFind}
use Rattle.lookup.specs.Changes.{CanReach}
use Rattle.lookup.proofs.Buckets.{bucket_below, buckets_some, buckets_count}
use Rattle.lookup.proofs.Rising.{rising_same, rising_unique, seek_range, seek_is}

pub room_length : (w v : List ℕ) (m k : ℕ) → length v ≡ length w → Room w m k → Room v m k
unfolding links_of
room_length w v m k q r =
    let h : m ≤ length w = r.pages in
    record { some = r.some; pages = omega arith; links = cells_length (drop m w) (drop m v) (m + k) (length-drop m v ∙ ap (λ (n : ℕ). n - m) q ∙ sym (length-drop m w)) r.links; fits = r.fits }

-- the words that a capacity needs are room enough
pub room_for : (w : List ℕ) (c : ℕ) → c ≤ 1024 → words_needed c ≤ length w → Room w (places_of c) (buckets_of c)
unfolding links_of words_needed
room_for w c h s =
    let b : buckets_of c ≡ 3 * c + 1 = buckets_count c in
    let d : length (drop (3 * c) w) ≡ length w - 3 * c = length-drop (3 * c) w in
    record { some = buckets_some c; pages = omega arith; links = cells_words (drop (3 * c) w) (3 * c + buckets_of c) (omega arith); fits = omega arith }

-- each of its cells may be read
pub room_reach : (w : List ℕ) (m k e : ℕ) → Room w m k → e < m + k → CanReach w m e
room_reach w m k e room h = record { pages = room.pages; cell = in_cells (links_of m w) (m + k) e room.links h }

module _ (w : List ℕ) (m k : ℕ) (P : ℕ → List ℕ) (t : Table w m k P) where
  -- the reading
  pub bucket_is : (b : ℕ) → b < k → bucket_in w m b ≡ P b
  unfolding bucket_in
  bucket_is b h = ring_members (links_of m w) m (m + b) (P b) (t.rings b h)

  pub table_read : Lookup w m k
  unfolding bucket_in
  table_read =
      record {
        room = t.room;
        rings = rings_read (links_of m w) m k P t.rings;
        homes = λ b x h j. t.homes b x h (rw (ring_members (links_of m w) m (m + b) (P b) (t.rings b h)) at j);
        rising = λ b h. rw (ring_members (links_of m w) m (m + b) (P b) (t.rings b h)) (t.rising b h);
      }

  pub places_are : places_in w m k ≡ together P k
  unfolding places_in
  places_are = together_same (bucket_in w m) P k bucket_is

  pub home : (p : ℕ) → bucket_of k p < k
  home p = bucket_below k p t.room.some

  -- the places held
  pub bucket_held : (b x : ℕ) → b < k → Mem x (P b) → Held w m k x
  bucket_held b x h j = rw places_are (mem_together P k b x h j)

  pub held_somewhere : (x : ℕ) → Held w m k x → (b : ℕ) × (b < k) × Mem x (P b)
  held_somewhere x j = together_mem P k x (rw places_are at j)

  pub held_home : (x : ℕ) → Held w m k x → Mem x (P (bucket_of k (page_of w x)))
  held_home x j = let s = held_somewhere x j in rw (t.homes s.0 x s.1 s.2) s.2

  pub held_below : (x : ℕ) → Held w m k x → x < m
  held_below x j = let s = held_somewhere x j in member_below (links_of m w) m (m + s.0) (P s.0) (t.rings s.0 s.1) x s.2

  pub unheld : (y : ℕ) → (Held w m k y → ⊥) → (b : ℕ) → b < k → Fresh y (P b)
  unheld y n b h = fresh y (P b) (λ j. n (bucket_held b y h j))

  pub places_distinct : Distinct (places_in w m k)
  places_distinct = rw places_are (together_distinct (links_of m w) m k P t.rings)

  -- of two places that are held the pages differ
  pub held_unique : (x y : ℕ) → Held w m k x → Held w m k y → page_of w x ≡ page_of w y → x ≡ y
  held_unique x y i j q = rising_unique w 0 (P (bucket_of k (page_of w x))) (t.rising (bucket_of k (page_of w x)) (home (page_of w x))) x y (held_home x i) (rw (sym q) at (held_home y j)) q

  -- a place that is held is not dead
  pub dead_unheld : (z : ℕ) → Dead w m z → Held w m k z → ⊥
  unfolding Dead
  dead_unheld z q j = let s = held_somewhere z j in member_held (links_of m w) m (m + s.0) (P s.0) (t.rings s.0 s.1) z s.2 q

  -- so it is none of the cells of a bucket
  pub dead_none : (b z f : ℕ) → b < k → z < m → Dead w m z → (f ≡ m + b) ⊎ Mem f (P b) → z ≡ f → ⊥
  dead_none b z f h l d (inl q) e = omega arith
  dead_none b z f h l d (inr j) e = dead_unheld z d (bucket_held b z h (rw e j))

  -- where a page is or belongs
  pub find_is : (p : ℕ) → find_of w m k p ≡ seek w p (m + bucket_of k p) (P (bucket_of k p))
  unfolding find_of
  find_is p = ap (seek w p (m + bucket_of k p)) (bucket_is (bucket_of k p) (home p))

  pub find_range : (p f : ℕ) → f ≡ find_of w m k p → (f ≡ m + bucket_of k p) ⊎ Mem f (P (bucket_of k p))
  find_range p f q = let e : f ≡ seek w p (m + bucket_of k p) (P (bucket_of k p)) = q ∙ find_is p in ⊎_elim (λ z. inl (e ∙ z)) (λ j. inr (rw (sym e) at j)) (seek_range w p (m + bucket_of k p) (P (bucket_of k p)))

  pub find_held : (p x : ℕ) → Held w m k x → page_of w x ≡ p → find_of w m k p ≡ x
  find_held p x j q = find_is p ∙ seek_is w 0 p (m + bucket_of k p) (P (bucket_of k p)) (t.rising (bucket_of k p) (home p)) x (rw q at (held_home x j)) q

-- a search may be made
pub can_find : (w : List ℕ) (m k p : ℕ) → Lookup w m k → CanFind w m k p
can_find w m k p t = record { room = t.room; ring = t.rings (bucket_of k p) (home w m k (bucket_in w m) t p) }

-- A CELL OF NO RING may be marked
pub mark_rings : (l : List ℕ) (m k y v : ℕ) (P : ℕ → List ℕ) → Rings l m k P → y < m → ((i : ℕ) → i < k → Fresh y (P i)) → Rings (with_prev l y v) m k P
mark_rings l m k y v P r h f i hi =
    let o = r i hi in
    record {
      high = o.high;
      root = in_length l (with_prev l y v) (m + i) (length_with_prev l y v) o.root;
      links = links_with_prev l y v (m + i) (P i) (m + i) (omega arith) (f i hi) o.links;
      below = o.below;
    }

-- A TABLE CHANGED AT BUCKET j, which then has the places ys; v are the words after
module _ (w v : List ℕ) (m k j : ℕ) (P : ℕ → List ℕ) (ys : List ℕ) (t : Table w m k P) (hj : j < k) where
  pub changed_table : length v ≡ length w
      → Rings (links_of m v) m k (changed P j ys)
      → ((i x : ℕ) → i < k → (i ≡ j → ⊥) → Mem x (P i) → page_of v x ≡ page_of w x)
      → ((x : ℕ) → Mem x ys → bucket_of k (page_of v x) ≡ j)
      → Rising v 0 ys
      → Table v m k (changed P j ys)
  changed_table q rings same homes rising = record { room = room_length w v m k q t.room; rings = rings; homes = λ i x hi l. home_of i x hi l (same_or_other i j); rising = λ i hi. rise i hi (same_or_other i j) }
    where
      home_of : (i x : ℕ) → i < k → Mem x (changed P j ys i) → (i ≡ j) ⊎ (i ≡ j → ⊥) → bucket_of k (page_of v x) ≡ i
      home_of i x hi l (inl e) = homes x (rw (e, changed_here P j ys) at l) ∙ sym e
      home_of i x hi l (inr n) = let o : Mem x (P i) = rw (changed_other P j ys i n) at l in ap (bucket_of k) (same i x hi n o) ∙ t.homes i x hi o

      rise : (i : ℕ) → i < k → (i ≡ j) ⊎ (i ≡ j → ⊥) → Rising v 0 (changed P j ys i)
      rise i hi (inl e) = rw (e, changed_here P j ys) rising
      rise i hi (inr n) = rw (changed_other P j ys i n) (rising_same w v 0 (P i) (λ x l. same i x hi n l) (t.rising i hi))

  module _ (u : Table v m k (changed P j ys)) where
    pub changed_into : (z : ℕ) → Mem z ys → Held v m k z
    changed_into z l = bucket_held v m k (changed P j ys) u j z hj (rw (changed_here P j ys) l)

    pub changed_stays : (z : ℕ) → (Mem z (P j) → Mem z ys) → Held w m k z → Held v m k z
    changed_stays z f l = let s = held_somewhere w m k P t z l in go s.0 s.1 s.2 (same_or_other s.0 j)
      where
        go : (i : ℕ) → i < k → Mem z (P i) → (i ≡ j) ⊎ (i ≡ j → ⊥) → Held v m k z
        go i hi o (inl e) = changed_into z (f (rw e at o))
        go i hi o (inr n) = bucket_held v m k (changed P j ys) u i z hi (rw (changed_other P j ys i n) o)

    pub changed_only : (z : ℕ) → Held v m k z → Mem z ys ⊎ Held w m k z
    changed_only z l = let s = held_somewhere v m k (changed P j ys) u z l in go s.0 s.1 s.2 (same_or_other s.0 j)
      where
        go : (i : ℕ) → i < k → Mem z (changed P j ys i) → (i ≡ j) ⊎ (i ≡ j → ⊥) → Mem z ys ⊎ Held w m k z
        go i hi o (inl e) = inl (rw (e, changed_here P j ys) at o)
        go i hi o (inr n) = inr (bucket_held w m k P t i z hi (rw (changed_other P j ys i n) at o))

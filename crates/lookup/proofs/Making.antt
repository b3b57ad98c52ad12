-- A lookup made anew, whatever the words were: every place is dead, every bucket empty. Assumes nothing.
use Rattle.std.proofs.Common.{◌≡◌, ℕ, zero, suc, ◌+◌, ◌<◌, ◌≤◌, ◌⊎◌, List, [], length, refl, ap, ◌∙◌, inl, inr, not-suc-le-zero, arith}
use Rattle.cells.specs.Cells.{Cells, In, prev_of, with_prev}
use Rattle.cells.proofs.Laws.{in_cells, in_below, in_length, cells_length, prev_same, prev_other, prev_with_next}
use Rattle.rings.specs.Rings.{Ring, Rings, together, emptied}
use Rattle.rings.proofs.Members.{same_or_other}
use Rattle.rings.proofs.Ring.{empty_ring, empty_other}
use Rattle.lookup.specs.Part.{links_of, Room}
use Rattle.lookup.specs.Lookup.{Table, Dead}
use Rattle.lookup.specs.Changes.{deadened, cleared, blank, made, Made}
use Rattle.lookup.proofs.Part.{links_in_links, page_in_links, length_in_links}
use Rattle.lookup.proofs.Needs.{length_deadened, length_cleared}
use Rattle.lookup.proofs.Table.{room_length, table_read, places_are}

-- the links
dead_here : (n : ℕ) (l : List ℕ) → In l n → (z : ℕ) → z < n → prev_of (deadened n l) z ≡ z
unfolding deadened
dead_here zero l i z h = absurd (not-suc-le-zero h)
dead_here (suc n) l i z h = go (λ q. dead_here n l (in_below l (suc n) n i (omega arith)) z q) (same_or_other z n)
  where
    there : In (deadened n l) n
    there = in_length l (deadened n l) n (length_deadened n l) (in_below l (suc n) n i (omega arith))

    go : (z < n → prev_of (deadened n l) z ≡ z) → (z ≡ n) ⊎ (z ≡ n → ⊥) → prev_of (with_prev (deadened n l) n n) z ≡ z
    go ih (inl q) = rw q (prev_same (deadened n l) n n there there)
    go ih (inr d) = prev_other (deadened n l) n n z d ∙ ih (omega arith)

prev_cleared : (m n : ℕ) (l : List ℕ) (z : ℕ) → z < m → prev_of (cleared m n l) z ≡ prev_of l z
unfolding cleared emptied
prev_cleared m zero l z h = refl
prev_cleared m (suc n) l z h = prev_other _ _ _ _ (λ q. omega arith) ∙ prev_with_next _ _ _ _ ∙ prev_cleared m n l z h

none : ℕ → List ℕ
none i = []

clear_rings : (m k n : ℕ) (l : List ℕ) → Cells l (m + k) → n ≤ k → Rings (cleared m n l) m n none
unfolding cleared none
clear_rings m k zero l c h i hi = absurd (not-suc-le-zero hi)
clear_rings m k (suc n) l c h i hi = go (λ q. clear_rings m k n l c (omega arith) i q) (same_or_other i n)
  where
    root : In (cleared m n l) (m + n)
    root = in_length l (cleared m n l) (m + n) (length_cleared m n l) (in_cells l (m + k) (m + n) c (omega arith))

    go : (i < n → Ring (cleared m n l) m (m + i) []) → (i ≡ n) ⊎ (i ≡ n → ⊥) → Ring (emptied (m + n) (cleared m n l)) m (m + i) []
    go ih (inl q) = rw q (empty_ring (cleared m n l) m (m + n) (omega arith) root)
    go ih (inr d) = empty_other (cleared m n l) m (m + n) (m + i) [] (omega arith) (omega arith) (ih (omega arith))

none_together : (n : ℕ) → together none n ≡ []
unfolding none
none_together zero = refl
none_together (suc n) = none_together n

length_blank : (m k : ℕ) (l : List ℕ) → length (blank m k l) ≡ length l
unfolding blank
length_blank m k l = length_cleared m k (deadened m l) ∙ length_deadened m l

-- the lookup
module _ (w : List ℕ) (m k : ℕ) (room : Room w m k) where
  v : List ℕ
  v = made m k w

  links : links_of m v ≡ cleared m k (deadened m (links_of m w))
  unfolding v made blank
  links = links_in_links m (blank m k) w room.pages

  size : length v ≡ length w
  unfolding v made
  size = length_in_links m (blank m k) w room.pages (length_blank m k (links_of m w))

  table : Table v m k none
  unfolding none
  table =
      record {
        room = room_length w v m k size room;
        rings = rw links (clear_rings m k k (deadened m (links_of m w)) (cells_length (links_of m w) (deadened m (links_of m w)) (m + k) (length_deadened m (links_of m w)) room.links) (omega arith));
        homes = λ b x h j. absurd j;
        rising = λ b h. tt;
      }

  pub make_does : Made w (made m k w) m k
  unfolding v made Dead
  make_does =
      record {
        table = table_read v m k none table;
        empty = places_are v m k none table ∙ none_together k;
        pages = λ z h. page_in_links m (blank m k) w room.pages z h;
        dead = λ z h. ap (λ (s : List ℕ). prev_of s z) links ∙ prev_cleared m k (deadened m (links_of m w)) z h ∙ dead_here m (links_of m w) (in_cells (links_of m w) (m + k) m room.links (let s : 0 < k = room.some in omega arith)) z h;
        size = size;
      }

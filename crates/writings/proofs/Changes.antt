-- What the changes of a part leave are words of 64 bits again, as many as before. In order: cells and rings; the
-- lookup; a ghost list; the residents. Assumes nothing.
use mathlib.Core.Path.{◌≡◌}
use mathlib.Core.Bool.{Bool, true, false}
use mathlib.Core.List.{List}
use Prim.Native.Nat.{ℕ, zero, suc, ◌+◌, ◌-◌, ◌*◌, ◌<◌, ◌≤◌}
use native.Mathlib.Omega.{arith}
use lib.ListN.{get_or}
use lib.Seq.{get_or-set_other}
use lib.Dec.{ltb}
use Rattle.cells.specs.Cells.{next_of, prev_of, with_next, with_prev}
use Rattle.rings.specs.Rings.{inserted, detached, fronted, replaced, emptied, linked, before, chained, filled}
use Rattle.tails.specs.Tails.{tail_of, with_tail}
use Rattle.lookup.specs.Part.{in_links}
use Rattle.lookup.specs.Changes.{unlinked, handed_over, deadened, cleared, blank, put_in, taken, renamed}
use Rattle.lookup.specs.Changes.{made as made_lookup}
use Rattle.ghosts.specs.Ghosts as ghosts
use Rattle.residents.specs.Residents as residents
use Rattle.residents.specs.Changes as changes
use Rattle.writings.specs.Writings.{IsWord, Words}
use Rattle.writings.proofs.Words.{word_at, words_set, words_drop, words_tail}

-- ---- cells
module _ {n : ℕ} {w : List ℕ} (h : Words n w) where
  next_word : (e : ℕ) → IsWord (next_of w e)
  unfolding next_of
  next_word e = word_at h (2 * e)

  prev_word : (e : ℕ) → IsWord (prev_of w e)
  unfolding prev_of
  prev_word e = word_at h (2 * e + 1)

  words_next : (e x : ℕ) → IsWord x → Words n (with_next w e x)
  unfolding with_next
  words_next e x k = words_set h (2 * e) x k

  words_prev : (e x : ℕ) → IsWord x → Words n (with_prev w e x)
  unfolding with_prev
  words_prev e x k = words_set h (2 * e + 1) x k

-- ---- rings
module _ {n : ℕ} {w : List ℕ} (h : Words n w) where
  words_inserted : (f e : ℕ) → IsWord f → IsWord e → Words n (inserted f e w)
  unfolding inserted
  words_inserted f e hf he =
      let p = prev_of w f in
      words_next (words_prev (words_prev (words_next h e f hf) e p (prev_word h f)) f e he) p e he

  words_detached : (e : ℕ) → Words n (detached e w)
  unfolding detached
  words_detached e =
      let p = prev_of w e in
      let f = next_of w e in
      words_prev (words_next h p f (next_word h e)) f p (prev_word h e)

  words_linked : (a b : ℕ) → IsWord a → IsWord b → Words n (linked a b w)
  unfolding linked
  words_linked a b ha hb = words_prev (words_next h a b hb) b a ha

  words_emptied : (s : ℕ) → IsWord s → Words n (emptied s w)
  unfolding emptied
  words_emptied s hs = words_prev (words_next h s s hs) s s hs

module _ {n : ℕ} {w : List ℕ} (h : Words n w) where
  words_fronted : (s e : ℕ) → IsWord e → Words n (fronted s e w)
  unfolding fronted
  words_fronted s e he = let d = words_detached h e in words_inserted d (next_of (detached e w) s) e (next_word d s) he

  words_replaced : (x y : ℕ) → IsWord y → Words n (replaced x y w)
  unfolding replaced
  words_replaced x y hy = words_inserted (words_detached h x) (next_of w x) y (next_word h x) hy

  before_word : (s m : ℕ) → IsWord s → IsWord m → IsWord (before s m)
  before_word s zero hs hm = hs
  before_word s (suc m) hs hm = omega arith

  words_chained : (s m : ℕ) → IsWord s → IsWord m → Words n (chained s m w)
  unfolding chained
  words_chained s zero hs hm = h
  words_chained s (suc m) hs hm =
      words_linked (words_chained s m hs (omega arith)) (before s m) m (before_word s m hs (omega arith)) (omega arith)

  words_filled : (s m : ℕ) → IsWord s → IsWord m → Words n (filled s m w)
  unfolding filled
  words_filled s m hs hm = words_linked (words_chained s m hs hm) (before s m) s (before_word s m hs hm) hs

-- ---- the lookup
module _ {n : ℕ} {w : List ℕ} (h : Words n w) where
  words_unlinked : (x : ℕ) → IsWord x → Words n (unlinked x w)
  unfolding unlinked
  words_unlinked x hx = words_prev (words_detached h x) x x hx

  words_handed_over : (x y : ℕ) → IsWord x → IsWord y → Words n (handed_over x y w)
  unfolding handed_over
  words_handed_over x y hx hy = words_prev (words_replaced h x y hy) x x hx

  words_deadened : (m : ℕ) → IsWord m → Words n (deadened m w)
  unfolding deadened
  words_deadened zero hm = h
  words_deadened (suc m) hm = words_prev (words_deadened m (omega arith)) m m (omega arith)

words_cleared : {n : ℕ} {w : List ℕ} (h : Words n w) (m k : ℕ) → IsWord (m + k) → Words n (cleared m k w)
unfolding cleared
words_cleared h m zero hm = h
words_cleared h m (suc k) hm = words_emptied (words_cleared h m k (omega arith)) (m + k) (omega arith)

module _ {n : ℕ} {w : List ℕ} (h : Words n w) (m : ℕ) (low : m ≤ n) where
  pub words_put : (f y p : ℕ) → IsWord f → IsWord y → IsWord p → Words n (put_in m f y p w)
  unfolding put_in in_links
  words_put f y p hf hy hp =
      let v = words_set h y p hp in
      words_tail v m _ low (words_inserted (words_drop v m) f y hf hy)

  pub words_taken : (x : ℕ) → IsWord x → Words n (taken m x w)
  unfolding taken in_links
  words_taken x hx = words_tail h m _ low (words_unlinked (words_drop h m) x hx)

  pub words_renamed : (x y : ℕ) → IsWord x → IsWord y → Words n (renamed m x y w)
  unfolding renamed in_links
  words_renamed x y hx hy =
      let v = words_set h y (get_or w x 0) (word_at h x) in
      words_tail v m _ low (words_handed_over (words_drop v m) x y hx hy)

  pub words_made_lookup : (k : ℕ) → IsWord (m + k) → Words n (made_lookup m k w)
  unfolding made_lookup in_links blank
  words_made_lookup k hk =
      words_tail h m _ low (words_cleared (words_deadened (words_drop h m) m (omega arith)) m k hk)

-- ---- a ghost list
module _ {n : ℕ} {w : List ℕ} (h : Words n w) (low : 1 ≤ n) where
  words_ghosts : (x : ℕ) (l : List ℕ) → IsWord x → Words (n - 1) l → Words n (ghosts.ghost_words x l w)
  unfolding ghosts.ghost_words with_tail
  words_ghosts x l hx hl = words_set (words_tail h 1 l low hl) 0 x hx

  ghost_links : Words (n - 1) (tail_of 1 w)
  unfolding tail_of
  ghost_links = words_drop h 1

  count_word : (b : Bool) (x : ℕ) → x ≤ 1024 → IsWord (ghosts.count_for b x)
  count_word true x k = omega arith
  count_word false x k = omega arith

  cell_word : (b : Bool) (c : ℕ) → IsWord (ghosts.cell_for b c (tail_of 1 w))
  cell_word true c = next_word ghost_links (c + 1)
  cell_word false c = prev_word ghost_links c

  pub words_recorded : (c : ℕ) → ghosts.count_of w ≤ 1024 → Words n (ghosts.recorded c w)
  unfolding ghosts.recorded ghosts.record_cell
  words_recorded c k =
      let x = ghosts.count_of w in
      let b = ltb x c in
      let e = ghosts.cell_for b c (tail_of 1 w) in
      words_ghosts (ghosts.count_for b x) _ (count_word b x k) (words_fronted ghost_links c e (cell_word b c))

  pub words_made_ghosts : (c : ℕ) → c ≤ 1024 → Words n (ghosts.made c w)
  unfolding ghosts.made
  words_made_ghosts c k =
      let l = words_emptied ghost_links c (omega arith) in
      words_ghosts 0 _ (omega arith) (words_filled l (c + 1) c (omega arith) (omega arith))

-- ---- the residents
module _ {n : ℕ} {w : List ℕ} (h : Words n w) (c : ℕ) (low : 3 + 3 * c ≤ n) (small : c ≤ 1024) where
  slot_links : Words (n - (3 + 3 * c)) (tail_of (3 + 3 * c) w)
  unfolding tail_of
  slot_links = words_drop h (3 + 3 * c)

  words_recounted : (i j : ℕ) → (j ≡ i → ⊥) → residents.count_of w j ≤ 1024 → Words n (changes.recounted i j w)
  unfolding changes.recounted residents.count_of
  words_recounted i j d k =
      let a = word_at h i in
      let q = get_or-set_other w i j (get_or w i 0 - 1) 0 d in
      words_set (words_set h i (get_or w i 0 - 1) (omega arith)) j _ (omega arith)

  words_shifted : (i j e : ℕ) → (j ≡ i → ⊥) → residents.count_of w j ≤ 1024 → IsWord e
      → Words n (changes.shifted_front c i j e w)
  unfolding changes.shifted with_tail
  words_shifted i j e d k he =
      words_tail (words_recounted i j d k) (3 + 3 * c) _ low (words_fronted slot_links (c + j) e he)

  pub words_freed : (i e : ℕ) → residents.list_of w c e ≡ i → i < 2 → residents.count_of w 2 ≤ 1024 → IsWord e
      → Words n (changes.freed c e w)
  unfolding changes.freed
  words_freed i e q hi k he = rw q (words_shifted i 2 e (omega arith) k he)

  top_word : IsWord (changes.top_of c w)
  unfolding changes.top_of
  top_word = next_word slot_links (c + 2)

  pub words_added : (j f b : ℕ) → j < 2 → residents.count_of w j ≤ 1024 → IsWord f → IsWord b
      → Words n (changes.added_front c j f b w)
  unfolding changes.added_front changes.with_slot changes.with_bit changes.with_list changes.with_frame
  words_added j f b hj k hf hb =
      let e = changes.top_of c w in
      let v = words_set (words_shifted 2 j e (omega arith) k top_word) (3 + e) f hf in
      words_set (words_set v (3 + c + e) j (omega arith)) (3 + 2 * c + e) b hb

  pub words_made_residents : Words n (changes.made c w)
  unfolding changes.made changes.fresh_links with_tail
  words_made_residents =
      let l = words_emptied (words_emptied slot_links c (omega arith)) (c + 1) (omega arith) in
      let v = words_tail h (3 + 3 * c) _ low (words_filled l (c + 2) c (omega arith) (omega arith)) in
      words_set (words_set (words_set v 0 0 (omega arith)) 1 0 (omega arith)) 2 c (omega arith)

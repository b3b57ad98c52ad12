-- The test of a lookup is exact: it passes where the words are a lookup that holds so many places, and only there. In order: the test of a place; complete; sound;
-- the laws for callers. Assumes nothing.
use mathlib.Core.Path.{◌≡◌, refl, ap, ◌∙◌}
use mathlib.Core.Bool.{Bool, true, false, cond, false≢true}
use mathlib.Core.Logic.{inl, inr, ⊎_elim}
use mathlib.Core.List.{List, [], ◌∷◌, ◌++◌}
use Prim.Native.Nat.{ℕ, zero, suc, ◌+◌, ◌<◌, ◌≤◌}
use native.Mathlib.Omega.{arith}
use native.Mathlib.Nat.{not-suc-le-zero}
use lib.ListN.{length, length-append}
use lib.Dec.{eqb, ltb, leb}
use borrow.Author.Tests.{eqb-true, ltb-true, leb-true, eq-eqb, lt-ltb, le-ltb, le-leb}
use Rattle.cells.specs.Cells.{next_of, prev_of}
use Rattle.cells.proofs.Laws.{in_cells}
use Rattle.rings.specs.Members.{Mem, Fresh, Below}
use Rattle.rings.specs.Rings.{Links, Ring, together, members_of}
use Rattle.rings.proofs.Members.{same_or_other}
use Rattle.rings.proofs.Reading.{ring_members}
use Rattle.lookup.specs.Buckets.{bucket_of}
use Rattle.lookup.specs.Part.{page_of, links_of, Room}
use Rattle.lookup.specs.Lookup.{Rising, Table, bucket_in, places_in, Dead, Exactly}
use Rattle.lookup.proofs.Exactly.{counted_exactly}
use Rattle.std.specs.Prelude.{Option, Some, None}
use Rattle.lookup_check.specs.Check.{least_after, suits_test, closing, walk_from, walk_of, walk_on, walks_of, used_up, lookup_test, Holding}

-- the test of a place
pub least_place : (w : List ℕ) (m x : ℕ) → x < m → least_after w m x ≡ suc (page_of w x)
unfolding least_after
least_place w m x h = simp (lt-ltb x m h)

least_first : (w : List ℕ) (m s : ℕ) → m ≤ s → least_after w m s ≡ 0
unfolding least_after
least_first w m s h = simp (le-ltb s m h)

suits_complete : (w : List ℕ) (m k b a x : ℕ) → bucket_of k (page_of w x) ≡ b → least_after w m a ≤ page_of w x → suits_test w m k b a x ≡ true
unfolding suits_test
suits_complete w m k b a x q h = rw (eq-eqb (bucket_of k (page_of w x)) b q) (le-leb (least_after w m a) (page_of w x) h)

suits_sound : (w : List ℕ) (m k b a x : ℕ) → suits_test w m k b a x ≡ true → (bucket_of k (page_of w x) ≡ b) × (least_after w m a ≤ page_of w x)
unfolding suits_test
suits_sound w m k b a x = go (eqb (bucket_of k (page_of w x)) b) refl
  where
    go : (t : Bool) → eqb (bucket_of k (page_of w x)) b ≡ t → cond t (leb (least_after w m a) (page_of w x)) false ≡ true → (bucket_of k (page_of w x) ≡ b) × (least_after w m a ≤ page_of w x)
    go true q e = (eqb-true _ _ q, leb-true (least_after w m a) (page_of w x) e)
    go false q e = absurd (false≢true e)

-- COMPLETE: the walk of a bucket from a on
end_complete : (l : List ℕ) (m s left rest a : ℕ) (t : Option ℕ) → m ≤ s → Links l a [] s → left ≡ rest → cond (ltb (next_of l a) m) t (closing l s left a) ≡ Some rest
unfolding closing
end_complete l m s left rest a t h ls q = simp (ls.0, ls.1, le-ltb s m h, eq-eqb s s refl, eq-eqb a a refl, q)

links_complete : (w : List ℕ) (m k b left rest a : ℕ) (xs : List ℕ) → Links (links_of m w) a xs (m + b) → Below m xs → Rising w (least_after w m a) xs → ((x : ℕ) → Mem x xs → bucket_of k (page_of w x) ≡ b) → left ≡ rest + length xs → walk_from w m k b left a ≡ Some rest
links_complete w m k b zero rest a [] ls bl r hs q = end_complete (links_of m w) m (m + b) 0 rest a None (omega arith) ls (omega arith)
links_complete w m k b zero rest a (x ∷ xs) ls bl r hs q = absurd (let z : 0 ≡ rest + suc (length xs) = q in let n : ⊥ = omega arith in n)
links_complete w m k b (suc left) rest a [] ls bl r hs q = end_complete (links_of m w) m (m + b) (suc left) rest a _ (omega arith) ls (let z : suc left ≡ rest + 0 = q in omega arith)
links_complete w m k b (suc left) rest a (x ∷ xs) ls bl r hs q =
    simp
    (ls.0, ls.1, lt-ltb x m bl.0, eq-eqb a a refl, suits_complete w m k b a x (hs x (inl refl)) r.0, links_complete w m k b left rest x xs ls.2 bl.1 (rw (least_place w m x bl.0) r.1) (λ z j. hs z (inr j)) (let z : suc left ≡ rest + suc (length xs) = q in omega arith))

module _ (w : List ℕ) (m k : ℕ) (P : ℕ → List ℕ) (t : Table w m k P) where
  walk_complete : (b left rest : ℕ) → b < k → left ≡ rest + length (P b) → walk_of w m k b left ≡ Some rest
  unfolding walk_of
  walk_complete b left rest h q = let r = t.rings b h in links_complete w m k b left rest (m + b) (P b) r.links r.below (rw (least_first w m (m + b) (omega arith)) (t.rising b h)) (λ x j. t.homes b x h j) q

  walks_complete : (live n rest : ℕ) → n ≤ k → live ≡ rest + length (together P n) → walks_of w m k live n ≡ Some rest
  unfolding walks_of
  walks_complete live zero rest h q = ap Some (let z : live ≡ rest + 0 = q in let y : live ≡ rest = omega arith in y)
  walks_complete live (suc n) rest h q =
      let a : length (P n ++ together P n) ≡ length (P n) + length (together P n) = length-append (P n) (together P n) in
      ap (walk_on w m k n) (walks_complete live n (rest + length (P n)) (omega arith) (omega arith)) ∙ walk_complete n (rest + length (P n)) rest h refl

-- SOUND: what the walk of bucket b from a on has passed, where it ends well
pub record Passed (w : List ℕ) (m k b left rest a : ℕ) : Type 0 where
  pub places : List ℕ
  pub links : Links (links_of m w) a places (m + b)
  pub below : Below m places
  pub rising : Rising w (least_after w m a) places
  pub homes : (x : ℕ) → Mem x places → bucket_of k (page_of w x) ≡ b
  pub size : left ≡ rest + length places

no_walk : {A : Type 0} {n : ℕ} → None ≡ Some n → A
no_walk q = absurd (let z : ◌≡◌ {A = ℕ} 0 1 = cc in let e : ⊥ = omega arith in e)

end_sound : (w : List ℕ) (m k b left rest a : ℕ) → closing (links_of m w) (m + b) left a ≡ Some rest → Passed w m k b left rest a
unfolding closing
end_sound w m k b left rest a = go (eqb (next_of (links_of m w) a) (m + b)) (eqb (prev_of (links_of m w) (m + b)) a) refl refl
  where
    go : (t u : Bool) → eqb (next_of (links_of m w) a) (m + b) ≡ t → eqb (prev_of (links_of m w) (m + b)) a ≡ u → cond t (cond u (Some left) None) None ≡ Some rest → Passed w m k b left rest a
    go true true q p e = let z : left ≡ rest = cc in record { places = []; links = (eqb-true _ _ q, eqb-true _ _ p); below = tt; rising = tt; homes = λ x j. absurd j; size = omega arith }
    go true false q p e = no_walk e
    go false u q p e = no_walk e

pub passed : (w : List ℕ) (m k b left rest a : ℕ) → walk_from w m k b left a ≡ Some rest → Passed w m k b left rest a
passed w m k b zero rest a = go (ltb (next_of (links_of m w) a) m)
  where
    go : (t : Bool) → cond t None (closing (links_of m w) (m + b) 0 a) ≡ Some rest → Passed w m k b 0 rest a
    go true e = no_walk e
    go false e = end_sound w m k b 0 rest a e
passed w m k b (suc left) rest a = go (ltb x m) (eqb (prev_of (links_of m w) x) a) (suits_test w m k b a x) refl refl refl (passed w m k b left rest x)
  where
    x : ℕ
    x = next_of (links_of m w) a

    go : (t u v : Bool) → ltb x m ≡ t → eqb (prev_of (links_of m w) x) a ≡ u → suits_test w m k b a x ≡ v → (walk_from w m k b left x ≡ Some rest → Passed w m k b left rest x) → cond t (cond u (cond v (walk_from w m k b left x) None) None) (closing (links_of m w) (m + b) (suc left) a) ≡ Some rest → Passed w m k b (suc left) rest a
    go true true true q p s ih e =
        let r = ih e in
        let small : x < m = ltb-true x m q in
        let good = suits_sound w m k b a x s in
        let z : left ≡ rest + length r.places = r.size in
        record {
          places = x ∷ r.places;
          links = (refl, eqb-true _ _ p, r.links);
          below = (small, r.below);
          rising = (good.1, rw (least_place w m x small) at r.rising);
          homes = λ y j. ⊎_elim (λ i. ap (λ (n : ℕ). bucket_of k (page_of w n)) i ∙ good.0) (λ i. r.homes y i) j;
          size = omega arith;
        }
    go true true false q p s ih e = no_walk e
    go true false v q p s ih e = no_walk e
    go false u v q p s ih e = end_sound w m k b (suc left) rest a e

-- a bucket that has passed
record Sorted (w : List ℕ) (m k b : ℕ) : Type 0 where
  pub ring : Ring (links_of m w) m (m + b) (bucket_in w m b)
  pub rising : Rising w 0 (bucket_in w m b)
  pub homes : (x : ℕ) → Mem x (bucket_in w m b) → bucket_of k (page_of w x) ≡ b

walk_sound : (w : List ℕ) (m k b left rest : ℕ) → Room w m k → b < k → walk_of w m k b left ≡ Some rest → Sorted w m k b × (left ≡ rest + length (bucket_in w m b))
unfolding walk_of bucket_in
walk_sound w m k b left rest room h e =
    let p = passed w m k b left rest (m + b) e in
    let r : Ring (links_of m w) m (m + b) p.places = record { high = omega arith; root = in_cells (links_of m w) (m + k) (m + b) room.links (omega arith); links = p.links; below = p.below } in
    let q : members_of (links_of m w) m (m + b) ≡ p.places = ring_members (links_of m w) m (m + b) p.places r in
    (record { ring = rw q r; rising = rw q (rw (least_first w m (m + b) (omega arith)) at p.rising); homes = λ x j. p.homes x (rw q at j) }, rw q p.size)

walks_sound : (w : List ℕ) (m k live n rest : ℕ) → Room w m k → n ≤ k → walks_of w m k live n ≡ Some rest → ((i : ℕ) → i < n → Sorted w m k i) × (live ≡ rest + length (together (bucket_in w m) n))
unfolding walks_of
walks_sound w m k live zero rest room h e = (λ i l. absurd (not-suc-le-zero l), let z : live ≡ rest = cc in omega arith)
walks_sound w m k live (suc n) rest room h e = go (walks_of w m k live n) refl (λ left q. walks_sound w m k live n left room (omega arith) q) e
  where
    go : (r : Option ℕ) → walks_of w m k live n ≡ r → ((left : ℕ) → walks_of w m k live n ≡ Some left → ((i : ℕ) → i < n → Sorted w m k i) × (live ≡ left + length (together (bucket_in w m) n))) → walk_on w m k n r ≡ Some rest → ((i : ℕ) → i < suc n → Sorted w m k i) × (live ≡ rest + length (bucket_in w m n ++ together (bucket_in w m) n))
    go (Some left) q ih e =
        let before = ih left q in
        let here = walk_sound w m k n left rest room h e in
        let a : length (bucket_in w m n ++ together (bucket_in w m) n) ≡ length (bucket_in w m n) + length (together (bucket_in w m) n) = length-append (bucket_in w m n) (together (bucket_in w m) n) in
        let x : live ≡ left + length (together (bucket_in w m) n) = before.1 in
        let y : left ≡ rest + length (bucket_in w m n) = here.1 in
        (λ i l. ⊎_elim (λ z. rw z here.0) (λ d. before.0 i (omega arith)) (same_or_other i n), omega arith)
    go None q ih e = no_walk e

-- FOR CALLERS
pub test_complete : (w : List ℕ) (m k live : ℕ) → Holding w m k live → lookup_test w m k live ≡ true
unfolding lookup_test places_in
test_complete w m k live h = ap used_up (walks_complete w m k (bucket_in w m) h.table live k 0 (omega arith) (let q : length (together (bucket_in w m) k) ≡ live = h.count in omega arith))

pub test_sound : (w : List ℕ) (m k live : ℕ) → Room w m k → lookup_test w m k live ≡ true → Holding w m k live
unfolding lookup_test places_in
test_sound w m k live room = go (walks_of w m k live k) refl
  where
    go : (r : Option ℕ) → walks_of w m k live k ≡ r → used_up r ≡ true → Holding w m k live
    go (Some left) q e =
        let s = walks_sound w m k live k left room (omega arith) q in
        let z : left ≡ 0 = eqb-true left 0 e in
        let y : live ≡ left + length (together (bucket_in w m) k) = s.1 in
        record { table = record { room = room; rings = λ i h. (s.0 i h).ring; homes = λ b x h j. (s.0 b h).homes x j; rising = λ b h. (s.0 b h).rising }; count = omega arith }
    go None q e = absurd (false≢true e)

-- and with the live places xs, where the others are dead
pub test_exactly : (w : List ℕ) (m k : ℕ) (xs : List ℕ) → Room w m k → ((z : ℕ) → z < m → Fresh z xs → Dead w m z) → lookup_test w m k (length xs) ≡ true → Exactly w m k xs
test_exactly w m k xs room dead q = let h = test_sound w m k (length xs) room q in counted_exactly w m k xs h.table dead h.count

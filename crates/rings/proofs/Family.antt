-- The laws of k rings: ring i is that of the sentinel m + i and has the members P i. In order: a family changed at one ring; the changes; the members of all rings together.
-- Assumes nothing.
use mathlib.Core.Path.{◌≡◌, refl, sym}
use mathlib.Core.Logic.{◌⊎◌, inl, inr, ⊎_elim}
use mathlib.Core.List.{List, [], ◌∷◌, ◌++◌}
use Prim.Native.Nat.{ℕ, zero, suc, ◌+◌, ◌<◌, ◌≤◌}
use native.Mathlib.Omega.{arith}
use native.Mathlib.Nat.{not-suc-le-zero}
use lib.ListN.{length}
use borrow.Author.Tests.{eq-eqb, ne_eqb}
use Rattle.cells.specs.Cells.{next_of}
use Rattle.rings.specs.Members.{Mem, Fresh, Below, Distinct, without, insert_before, in_place_of}
use Rattle.rings.specs.Rings.{Ring, Rings, changed, out_of, fronted_in, ended_in, together, members_of, inserted, detached, fronted, ended, replaced, CanFront, CanEnd}
use Rattle.rings.proofs.Members.{same_or_other, not_mem, fresh, mem_append, mem_left, mem_right, distinct_append, below_append, fresh_without, below_mem}
use Rattle.rings.proofs.Pigeons.{few, covers}
use Rattle.rings.proofs.Ring.{ring_distinct, insert_ring, insert_other, detach_ring, detach_other, apart}
use Rattle.rings.proofs.Moves.{can_front, can_end, front_to, front_other, end_to, end_other, replace_ring, replace_other}
use Rattle.rings.proofs.Words.{front_through, end_through}
use Rattle.rings.proofs.Reading.{ring_members}

pub changed_here : (P : ℕ → List ℕ) (j : ℕ) (xs : List ℕ) → changed P j xs j ≡ xs
unfolding changed
changed_here P j xs = simp (eq-eqb j j refl)

pub changed_other : (P : ℕ → List ℕ) (j : ℕ) (xs : List ℕ) (i : ℕ) → (i ≡ j → ⊥) → changed P j xs i ≡ P i
unfolding changed
changed_other P j xs i h = simp (ne_eqb i j h)

pub rings_same : (w : List ℕ) (m k : ℕ) (P Q : ℕ → List ℕ) → ((i : ℕ) → i < k → P i ≡ Q i) → Rings w m k P → Rings w m k Q
rings_same w m k P Q same r i hi = rw (sym (same i hi)) (r i hi)

-- what holds of ring j, changed, and of each other, as it was, holds of all
pub changed_rings : (v : List ℕ) (m k j : ℕ) (P : ℕ → List ℕ) (xs : List ℕ) → Ring v m (m + j) xs → ((i : ℕ) → i < k → (i ≡ j → ⊥) → Ring v m (m + i) (P i)) → Rings v m k (changed P j xs)
changed_rings v m k j P xs here there i hi = go (same_or_other i j)
  where
    go : (i ≡ j) ⊎ (i ≡ j → ⊥) → Ring v m (m + i) (changed P j xs i)
    go (inl q) = rw (q, changed_here P j xs) here
    go (inr n) = rw (changed_other P j xs i n) (there i hi n)

module _ (w : List ℕ) (m k : ℕ) (P : ℕ → List ℕ) (r : Rings w m k P) where
  -- two rings share no member
  pub rings_apart : (i j : ℕ) → i < k → j < k → (i ≡ j → ⊥) → (x : ℕ) → Mem x (P i) → Fresh x (P j)
  rings_apart i j hi hj n x l = apart w m (m + i) (m + j) (P i) (P j) (r i hi) (r j hj) (omega arith) x l

  pub insert_rings : (j f e : ℕ) → j < k → (f ≡ m + j) ⊎ Mem f (P j) → e < m → ((i : ℕ) → i < k → Fresh e (P i)) → Rings (inserted f e w) m k (changed P j (insert_before f e (P j)))
  insert_rings j f e hj at h fe =
      changed_rings (inserted f e w) m k j P (insert_before f e (P j)) (insert_ring w m (m + j) (P j) (r j hj) f e at h (fe j hj))
      (λ i hi n. insert_other w m (m + j) (m + i) (P j) (P i) (r j hj) (r i hi) (omega arith) f e at h (fe i hi))

  pub replace_rings : (j x y : ℕ) → j < k → Mem x (P j) → y < m → ((i : ℕ) → i < k → Fresh y (P i)) → Rings (replaced x y w) m k (changed P j (in_place_of x y (P j)))
  replace_rings j x y hj l h fy =
      changed_rings (replaced x y w) m k j P (in_place_of x y (P j)) (replace_ring w m (m + j) (P j) (r j hj) x y l h (fy j hj))
      (λ i hi n. replace_other w m (m + j) (P j) (r j hj) x y l h (m + i) (P i) (r i hi) (omega arith) (fy i hi))

  -- e, a member of ring i, leaves it
  module _ (i e : ℕ) (hi : i < k) (l : Mem e (P i)) where
    pub detach_rings : Rings (detached e w) m k (out_of i e P)
    detach_rings =
        changed_rings (detached e w) m k i P (without e (P i)) (detach_ring w m (m + i) (P i) (r i hi) e l)
        (λ j hj n. detach_other w m (m + i) (m + j) (P i) (P j) (r i hi) (r j hj) (omega arith) e l)

    -- and is then in none
    pub detach_fresh : (j : ℕ) → j < k → Fresh e (out_of i e P j)
    detach_fresh j hj = go (same_or_other j i)
      where
        go : (j ≡ i) ⊎ (j ≡ i → ⊥) → Fresh e (out_of i e P j)
        go (inl q) = rw (q, changed_here P i (without e (P i))) (fresh_without e (P i) (ring_distinct w m (m + i) (P i) (r i hi)))
        go (inr n) = rw (changed_other P i (without e (P i)) j n) (rings_apart i j hi hj (λ q. n (sym q)) e l)

    -- and comes to ring j
    module _ (j : ℕ) (hj : j < k) where
      pub can_front_rings : CanFront w (m + j) e
      can_front_rings = can_front w m (m + i) (P i) (r i hi) e l (m + j) (out_of i e P j) (detach_rings j hj)

      pub can_end_rings : CanEnd w (m + j) e
      can_end_rings = can_end w m (m + i) (P i) (r i hi) e l (m + j) (out_of i e P j) (detach_rings j hj)

      pub front_rings : Rings (fronted (m + j) e w) m k (fronted_in i j e P)
      front_rings =
          changed_rings (fronted (m + j) e w) m k j (out_of i e P) (e ∷ out_of i e P j) (front_to w m (m + i) (P i) (r i hi) e l (m + j) (out_of i e P j) (detach_rings j hj) (detach_fresh j hj))
          (λ u hu n. front_other w m (m + i) (P i) (r i hi) e l (m + j) (out_of i e P j) (detach_rings j hj) (m + u) (out_of i e P u) (detach_rings u hu) (omega arith) (detach_fresh u hu))

      -- it is then the first
      pub front_first : next_of (fronted (m + j) e w) (m + j) ≡ e
      front_first = (front_to w m (m + i) (P i) (r i hi) e l (m + j) (out_of i e P j) (detach_rings j hj) (detach_fresh j hj)).links.0

      -- from there to another ring: as if it had come there at once
      module _ (u : ℕ) (hu : u < k) where
        pub front_through_rings : fronted (m + u) e (fronted (m + j) e w) ≡ fronted (m + u) e w
        front_through_rings = front_through w m (m + j) e (out_of i e P j) (below_mem m (P i) e (r i hi).below l) (detach_rings j hj) (detach_fresh j hj) (m + u) (out_of i e P u) (detach_rings u hu) (detach_fresh u hu)

        pub end_through_rings : ended (m + u) e (fronted (m + j) e w) ≡ ended (m + u) e w
        end_through_rings = end_through w m (m + j) e (out_of i e P j) (below_mem m (P i) e (r i hi).below l) (detach_rings j hj) (detach_fresh j hj) (m + u) (out_of i e P u) (detach_rings u hu) (detach_fresh u hu)

      pub end_rings : Rings (ended (m + j) e w) m k (ended_in i j e P)
      end_rings =
          changed_rings (ended (m + j) e w) m k j (out_of i e P) (out_of i e P j ++ (e ∷ [])) (end_to w m (m + i) (P i) (r i hi) e l (m + j) (out_of i e P j) (detach_rings j hj) (detach_fresh j hj))
          (λ u hu n. end_other w m (m + i) (P i) (r i hi) e l (m + j) (out_of i e P j) (detach_rings j hj) (m + u) (out_of i e P u) (detach_rings u hu) (omega arith) (detach_fresh u hu))

  -- the reading of each
  pub rings_read : Rings w m k (λ (i : ℕ). members_of w m (m + i))
  rings_read i hi = rw (ring_members w m (m + i) (P i) (r i hi)) (r i hi)

-- the members of all rings together
pub mem_together : (P : ℕ → List ℕ) (n i x : ℕ) → i < n → Mem x (P i) → Mem x (together P n)
mem_together P zero i x h l = absurd (not-suc-le-zero h)
mem_together P (suc n) i x h l = ⊎_elim (λ q. mem_left x (P n) (together P n) (rw q at l)) (λ d. mem_right x (P n) (together P n) (mem_together P n i x (omega arith) l)) (same_or_other i n)

pub together_mem : (P : ℕ → List ℕ) (n x : ℕ) → Mem x (together P n) → (i : ℕ) × (i < n) × Mem x (P i)
together_mem P (suc n) x l = ⊎_elim (λ k. (n, omega arith, k)) (λ k. let r = together_mem P n x k in let h : r.0 < n = r.1 in (r.0, omega arith, r.2)) (mem_append x (P n) (together P n) l)
together_mem P zero x l = elim l [ ]

pub together_same : (P Q : ℕ → List ℕ) (n : ℕ) → ((i : ℕ) → i < n → P i ≡ Q i) → together P n ≡ together Q n
together_same P Q zero h = refl
together_same P Q (suc n) h = rw (h n (omega arith), together_same P Q n (λ i l. h i (omega arith))) refl

pub together_distinct : (w : List ℕ) (m n : ℕ) (P : ℕ → List ℕ) → Rings w m n P → Distinct (together P n)
together_distinct w m zero P r = tt
together_distinct w m (suc n) P r =
    distinct_append (P n) (together P n) (ring_distinct w m (m + n) (P n) (r n (omega arith))) (together_distinct w m n P (λ i h. r i (omega arith)))
    (λ x l. fresh x (together P n) (λ k. let z = together_mem P n x k in let h : z.0 < n = z.1 in not_mem x (P z.0) (apart w m (m + n) (m + z.0) (P n) (P z.0) (r n (omega arith)) (r z.0 (omega arith)) (omega arith) x l) z.2))

pub together_below : (w : List ℕ) (m n : ℕ) (P : ℕ → List ℕ) → Rings w m n P → Below m (together P n)
together_below w m zero P r = tt
together_below w m (suc n) P r = below_append m (P n) (together P n) (r n (omega arith)).below (together_below w m n P (λ i h. r i (omega arith)))

-- they are at most m, and where they are m, each cell below m is one of them
pub together_short : (w : List ℕ) (m n : ℕ) (P : ℕ → List ℕ) → Rings w m n P → length (together P n) ≤ m
together_short w m n P r = few m (together P n) (together_distinct w m n P r) (together_below w m n P r)

pub together_covers : (w : List ℕ) (m n : ℕ) (P : ℕ → List ℕ) → Rings w m n P → length (together P n) ≡ m → (x : ℕ) → x < m → (i : ℕ) × (i < n) × Mem x (P i)
together_covers w m n P r e x h = together_mem P n x (covers m (together P n) (together_distinct w m n P r) (together_below w m n P r) e x h)

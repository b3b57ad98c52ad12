-- The laws of the changes that are made of a detach and an insert: to the front, to the end, in the place of another. In order: the lists; lengths;
-- what a move asks; what it does to the ring it comes to, to the ring it left, and to any other.
-- The ring that the cell joins is read after the detach, so that it may be the one that it left.
-- Assumes nothing.
use mathlib.Core.Path.{◌≡◌, refl, sym, ap, ◌∙◌}
use mathlib.Core.Bool.{Bool, true, false, cond}
use mathlib.Core.Logic.{◌⊎◌, inl, inr, ⊎_elim}
use mathlib.Core.List.{List, [], ◌∷◌, ◌++◌}
use Prim.Native.Nat.{ℕ, ◌<◌}
use lib.ListN.{length}
use lib.Dec.{eqb}
use borrow.Author.Tests.{eqb-true, eqb-false, eq-eqb, ne_eqb}
use Rattle.cells.specs.Cells.{next_of, prev_of}
use Rattle.rings.specs.Members.{Mem, Fresh, Distinct, without, insert_before, in_place_of}
use Rattle.rings.specs.Rings.{Links, Ring, detached, fronted, ended, replaced, CanFront, CanEnd, CanReplace}
use Rattle.rings.proofs.Members.{not_mem, mem_stays, fresh_less, insert_end}
use Rattle.rings.proofs.Links.{next_mem, not_after_itself}
use Rattle.rings.proofs.Ring.{length_inserted, length_detached, ring_fresh, ring_distinct, ring_after, member_below, can_insert, can_detach, insert_ring, detach_ring, insert_other, detach_other}

-- before the first is the front
pub insert_first : (w : List ℕ) (a e : ℕ) (xs : List ℕ) (b : ℕ) → Links w a xs b → insert_before (next_of w a) e xs ≡ e ∷ xs
insert_first w a e [] b l = refl
insert_first w a e (x ∷ xs) b l = rw (l.0, eq-eqb x x refl) refl

-- before what followed x, without x, is the place of x
pub insert_in_place : (w : List ℕ) (a : ℕ) (xs : List ℕ) (b x y : ℕ) → Links w a xs b → Fresh b xs → Distinct xs → Mem x xs → insert_before (next_of w x) y (without x xs) ≡ in_place_of x y xs
insert_in_place w a [] b x y l fb d k = elim k [ ]
insert_in_place w a (z ∷ zs) b x y l fb d k = go (λ j. insert_in_place w z zs b x y l.2 fb.1 d.1 j) k (eqb z x) refl
  where
    off : Mem x zs → z ≡ next_of w x → ⊥
    off j q = ⊎_elim (λ e. fb.0 (sym (q ∙ e))) (λ i. not_mem z zs d.0 (rw (sym q) at i)) (next_mem w z zs b x l.2 (inr j))

    go : (Mem x zs → insert_before (next_of w x) y (without x zs) ≡ in_place_of x y zs) → Mem x (z ∷ zs) → (t : Bool) → eqb z x ≡ t → insert_before (next_of w x) y (cond t zs (z ∷ without x zs)) ≡ cond t (y ∷ zs) (z ∷ in_place_of x y zs)
    go ih j true q = rw (sym (eqb-true z x q)) (insert_first w z y zs b l.2)
    go ih (inl p) false q = absurd (eqb-false z x q (sym p))
    go ih (inr j) false q = simp (ne_eqb z (next_of w x) (off j), ih j)

pub length_fronted : (s e : ℕ) (w : List ℕ) → length (fronted s e w) ≡ length w
unfolding fronted
length_fronted s e w = length_inserted _ e (detached e w) ∙ length_detached e w

pub length_ended : (s e : ℕ) (w : List ℕ) → length (ended s e w) ≡ length w
unfolding ended
length_ended s e w = length_inserted s e (detached e w) ∙ length_detached e w

pub length_replaced : (x y : ℕ) (w : List ℕ) → length (replaced x y w) ≡ length w
unfolding replaced
length_replaced x y w = length_inserted _ y (detached x w) ∙ length_detached x w

-- before the first member, or before the sentinel of a ring that has none, stands the cell before it
first_back : (w : List ℕ) (a : ℕ) (xs : List ℕ) (b : ℕ) → Links w a xs b → prev_of w (next_of w a) ≡ a
first_back w a [] b l = ap (prev_of w) l.0 ∙ l.1
first_back w a (x ∷ xs) b l = ap (prev_of w) l.0 ∙ l.1

-- e, a member of the ring of s, moves; t is the ring that it comes to, ys what that has once e has left its own
module _ (w : List ℕ) (m s : ℕ) (xs : List ℕ) (r : Ring w m s xs) (e : ℕ) (k : Mem e xs) (t : ℕ) (ys : List ℕ) (d : Ring (detached e w) m t ys) where
  small : e < m
  small = member_below w m s xs r e k

  at_first : (next_of (detached e w) t ≡ t) ⊎ Mem (next_of (detached e w) t) ys
  at_first = ring_after (detached e w) m t ys d t (inl refl)

  pub can_front : CanFront w t e
  can_front = record { root = d.root; out = can_detach w m s xs r e k; into = can_insert (detached e w) m t ys d (next_of (detached e w) t) e at_first small; back = first_back (detached e w) t ys t d.links }

  pub can_end : CanEnd w t e
  can_end = record { out = can_detach w m s xs r e k; into = can_insert (detached e w) m t ys d t e (inl refl) small }

  pub front_to : Fresh e ys → Ring (fronted t e w) m t (e ∷ ys)
  unfolding fronted
  front_to f = rw (insert_first (detached e w) t e ys t d.links) at (insert_ring (detached e w) m t ys d (next_of (detached e w) t) e at_first small f)

  pub end_to : Fresh e ys → Ring (ended t e w) m t (ys ++ (e ∷ []))
  unfolding ended
  end_to f = rw (insert_end t e ys (ring_fresh (detached e w) m t ys d)) at (insert_ring (detached e w) m t ys d t e (inl refl) small f)

  -- any other ring stays, that which e left too
  module _ (u : ℕ) (zs : List ℕ) (o : Ring (detached e w) m u zs) (n : t ≡ u → ⊥) (f : Fresh e zs) where
    pub front_other : Ring (fronted t e w) m u zs
    unfolding fronted
    front_other = insert_other (detached e w) m t u ys zs d o n (next_of (detached e w) t) e at_first small f

    pub end_other : Ring (ended t e w) m u zs
    unfolding ended
    end_other = insert_other (detached e w) m t u ys zs d o n t e (inl refl) small f

-- y, in no ring, takes the place of x, a member of the ring of s
module _ (w : List ℕ) (m s : ℕ) (xs : List ℕ) (r : Ring w m s xs) (x y : ℕ) (k : Mem x xs) (h : y < m) where
  d : Ring (detached x w) m s (without x xs)
  d = detach_ring w m s xs r x k

  -- what followed x follows its place
  at_next : (next_of w x ≡ s) ⊎ Mem (next_of w x) (without x xs)
  at_next = ⊎_elim (λ q. inl q) (λ j. inr (stays j)) (ring_after w m s xs r x (inr k))
    where
      stays : Mem (next_of w x) xs → Mem (next_of w x) (without x xs)
      stays j = mem_stays x (next_of w x) xs (λ q. not_after_itself w s xs s r.links (ring_fresh w m s xs r) (ring_fresh w m s xs r) x k q) j

  pub can_replace : CanReplace w x y
  can_replace = record { out = can_detach w m s xs r x k; into = can_insert (detached x w) m s (without x xs) d (next_of w x) y at_next h }

  pub replace_ring : Fresh y xs → Ring (replaced x y w) m s (in_place_of x y xs)
  unfolding replaced
  replace_ring f = rw (insert_in_place w s xs s x y r.links (ring_fresh w m s xs r) (ring_distinct w m s xs r) k) at (insert_ring (detached x w) m s (without x xs) d (next_of w x) y at_next h (fresh_less y x xs f))

  pub replace_other : (t : ℕ) (ys : List ℕ) → Ring w m t ys → (s ≡ t → ⊥) → Fresh y ys → Ring (replaced x y w) m t ys
  unfolding replaced
  replace_other t ys o n f = insert_other (detached x w) m s t (without x xs) ys d (detach_other w m s t xs ys r o n x k) n (next_of w x) y at_next h f

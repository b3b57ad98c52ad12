-- The laws of one ring, and of another beside it. In order: lengths; the cells that a change leaves; what a ring has; a member put in and taken out;
-- two rings share nothing; what a change of one ring does to another; what a change asks.
-- Assumes nothing.
use mathlib.Core.Path.{◌≡◌, sym, subst, ◌∙◌}
use mathlib.Core.Logic.{◌⊎◌, inl, inr, ⊎_elim}
use mathlib.Core.List.{List, [], ◌∷◌}
use Prim.Native.Nat.{ℕ, ◌<◌, ◌≤◌}
use native.Mathlib.Omega.{arith}
use lib.ListN.{length}
use Rattle.cells.specs.Cells.{In, next_of, prev_of}
use Rattle.cells.proofs.Laws.{cells, lengths, in_below, in_length, prev_other, prev_with_next}
use Rattle.rings.specs.Members.{Mem, Fresh, Below, Distinct, without, insert_before}
use Rattle.rings.specs.Rings.{Links, Ring, inserted, detached, emptied, CanInsert, CanDetach}
use Rattle.rings.proofs.Members.{not_mem, fresh, below_fresh, below_mem, below_without, below_insert}
use Rattle.rings.proofs.Pigeons.{few}
use Rattle.rings.proofs.Links.{links_with_next, links_with_prev, prev_mem, next_mem, back_mem, links_distinct, not_before_itself, insert_links, detach_links}

pub length_inserted : (f e : ℕ) (w : List ℕ) → length (inserted f e w) ≡ length w
unfolding inserted
length_inserted f e w = simp lengths

pub length_detached : (e : ℕ) (w : List ℕ) → length (detached e w) ≡ length w
unfolding detached
length_detached e w = simp lengths

pub length_emptied : (s : ℕ) (w : List ℕ) → length (emptied s w) ≡ length w
unfolding emptied
length_emptied s w = simp lengths

-- the cells that a change leaves
pub prev_inserted : (f e : ℕ) (w : List ℕ) (x : ℕ) → (x ≡ e → ⊥) → (x ≡ f → ⊥) → prev_of (inserted f e w) x ≡ prev_of w x
unfolding inserted
prev_inserted f e w x h n = prev_with_next _ _ _ _ ∙ prev_other _ _ _ _ n ∙ prev_other _ _ _ _ h ∙ prev_with_next _ _ _ _

pub prev_detached : (e : ℕ) (w : List ℕ) (x : ℕ) → (x ≡ next_of w e → ⊥) → prev_of (detached e w) x ≡ prev_of w x
unfolding detached
prev_detached e w x n = prev_other _ _ _ _ n ∙ prev_with_next _ _ _ _

-- what a ring has
module _ (w : List ℕ) (m s : ℕ) (xs : List ℕ) (r : Ring w m s xs) where
  pub ring_fresh : Fresh s xs
  ring_fresh = below_fresh m s xs r.high r.below

  pub ring_distinct : Distinct xs
  ring_distinct = links_distinct w s xs s r.links ring_fresh

  pub ring_short : length xs ≤ m
  ring_short = few m xs ring_distinct r.below

  pub member_below : (e : ℕ) → Mem e xs → e < m
  member_below e k = below_mem m xs e r.below k

  -- its cells are there
  pub ring_in : (x : ℕ) → (x ≡ s) ⊎ Mem x xs → In w x
  ring_in x (inl q) = rw q r.root
  ring_in x (inr k) = let high : m ≤ s = r.high in let l : x < m = member_below x k in in_below w s x r.root (omega arith)

  pub ring_before : (f : ℕ) → (f ≡ s) ⊎ Mem f xs → (prev_of w f ≡ s) ⊎ Mem (prev_of w f) xs
  ring_before f at = back_mem w s xs s f r.links at

  pub ring_after : (f : ℕ) → (f ≡ s) ⊎ Mem f xs → (next_of w f ≡ s) ⊎ Mem (next_of w f) xs
  ring_after f at = next_mem w s xs s f r.links at

  -- no member stands before itself
  pub member_held : (z : ℕ) → Mem z xs → prev_of w z ≡ z → ⊥
  member_held = not_before_itself w s xs s r.links ring_fresh

  -- what a change asks
  pub can_insert : (f e : ℕ) → (f ≡ s) ⊎ Mem f xs → e < m → CanInsert w f e
  can_insert f e at h =
      let high : m ≤ s = r.high in
      record { self = in_below w s e r.root (omega arith); at = ring_in f at; back = ring_in (prev_of w f) (ring_before f at) }

  pub can_detach : (e : ℕ) → Mem e xs → CanDetach w e
  can_detach e k =
      record { self = ring_in e (inr k); back = ring_in (prev_of w e) (ring_before e (inr k)); after = ring_in (next_of w e) (ring_after e (inr k)) }

  -- a member put in, and taken out
  pub insert_ring : (f e : ℕ) → (f ≡ s) ⊎ Mem f xs → e < m → Fresh e xs → Ring (inserted f e w) m s (insert_before f e xs)
  insert_ring f e at h fe =
      let high : m ≤ s = r.high in
      record {
        high = high;
        root = in_length w (inserted f e w) s (length_inserted f e w) r.root;
        links = insert_links w m s xs s e f r.links at (omega arith) high r.root r.below h (omega arith) fe ring_fresh;
        below = below_insert m f e xs h r.below;
      }

  pub detach_ring : (e : ℕ) → Mem e xs → Ring (detached e w) m s (without e xs)
  detach_ring e k =
      let high : m ≤ s = r.high in
      record {
        high = high;
        root = in_length w (detached e w) s (length_detached e w) r.root;
        links = detach_links w m s xs s e r.links k (omega arith) high r.root r.below ring_fresh;
        below = below_without m e xs r.below;
      }

-- TWO RINGS SHARE NO MEMBER, by the links back
apart_from : (w : List ℕ) (m a : ℕ) (xs : List ℕ) (b t : ℕ) (ys : List ℕ) → Links w a xs b → Below m xs → Ring w m t ys → (a ≡ t → ⊥) → Fresh a ys → (x : ℕ) → Mem x xs → Fresh x ys
apart_from w m a (y ∷ xs) b t ys l bl r n fa x k =
    let ly : y < m = bl.0 in
    let high : m ≤ t = r.high in
    let fy : Fresh y ys = fresh y ys (λ j. ⊎_elim (λ q. n (sym l.1 ∙ q)) (λ i. not_mem a ys fa (subst (λ v. Mem v ys) l.1 i)) (prev_mem w t ys t y r.links j)) in
    ⊎_elim (λ q. subst (λ v. Fresh v ys) (sym q) fy) (λ j. apart_from w m y xs b t ys l.2 bl.1 r (omega arith) fy x j) k
apart_from w m a [] b t ys l bl r n fa x k = elim k [ ]

module _ (w : List ℕ) (m s t : ℕ) (xs ys : List ℕ) (r : Ring w m s xs) (o : Ring w m t ys) (n : s ≡ t → ⊥) where
  pub apart : (x : ℕ) → Mem x xs → Fresh x ys
  apart x k = apart_from w m s xs s t ys r.links r.below o n (below_fresh m s ys r.high o.below) x k

  -- a cell of the one is none of the other
  cell_apart : (x : ℕ) → (x ≡ s) ⊎ Mem x xs → Fresh x (t ∷ ys)
  cell_apart x (inl z) = subst (λ v. Fresh v (t ∷ ys)) (sym z) (n, below_fresh m s ys r.high o.below)
  cell_apart x (inr k) = let l : x < m = member_below w m s xs r x k in let high : m ≤ t = o.high in (omega arith, apart x k)

  -- THE FRAME: a change of the ring of s leaves the ring of t
  pub insert_other : (f e : ℕ) → (f ≡ s) ⊎ Mem f xs → e < m → Fresh e ys → Ring (inserted f e w) m t ys
  unfolding inserted
  insert_other f e at h fe =
      let high : m ≤ t = o.high in
      let et : e ≡ t → ⊥ = omega arith in
      let hf : Fresh f (t ∷ ys) = cell_apart f at in
      let hp : Fresh (prev_of w f) (t ∷ ys) = cell_apart (prev_of w f) (ring_before w m s xs r f at) in
      record {
        high = high;
        root = in_length w (inserted f e w) t (length_inserted f e w) o.root;
        links = links_with_next _ (prev_of w f) e t ys t hp (links_with_prev _ f e t ys t hf.0 hf.1 (links_with_prev _ e (prev_of w f) t ys t et fe (links_with_next w e f t ys t (et, fe) o.links)));
        below = o.below;
      }

  pub detach_other : (e : ℕ) → Mem e xs → Ring (detached e w) m t ys
  unfolding detached
  detach_other e k =
      let hp : Fresh (prev_of w e) (t ∷ ys) = cell_apart (prev_of w e) (ring_before w m s xs r e (inr k)) in
      let hn : Fresh (next_of w e) (t ∷ ys) = cell_apart (next_of w e) (ring_after w m s xs r e (inr k)) in
      record {
        high = o.high;
        root = in_length w (detached e w) t (length_detached e w) o.root;
        links = links_with_prev _ (next_of w e) (prev_of w e) t ys t hn.0 hn.1 (links_with_next w (prev_of w e) (next_of w e) t ys t hp o.links);
        below = o.below;
      }

-- a ring made empty, whatever the words were; the others stay
pub empty_ring : (w : List ℕ) (m s : ℕ) → m ≤ s → In w s → Ring (emptied s w) m s []
unfolding emptied
empty_ring w m s h i = record { high = h; root = in_length w (emptied s w) s (length_emptied s w) i; links = (search cells, search cells); below = tt }

pub empty_other : (w : List ℕ) (m s t : ℕ) (ys : List ℕ) → m ≤ s → (s ≡ t → ⊥) → Ring w m t ys → Ring (emptied s w) m t ys
unfolding emptied
empty_other w m s t ys h n o =
    let fs : Fresh s ys = below_fresh m s ys h o.below in
    record {
      high = o.high;
      root = in_length w (emptied s w) t (length_emptied s w) o.root;
      links = links_with_prev _ s s t ys t n fs (links_with_next w s s t ys t (n, fs) o.links);
      below = o.below;
    }

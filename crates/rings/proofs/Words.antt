-- The laws of the changes word for word. In order: a member that comes back to its place; a cell that is put in and taken out again; a member that comes to the front of one ring and goes on from
-- there to another.
-- Assumes nothing.
use mathlib.Core.Path.{◌≡◌, refl, sym, ap, ◌∙◌}
use mathlib.Core.Logic.{◌⊎◌, inl, inr}
use mathlib.Core.List.{List, [], ◌∷◌}
use Prim.Native.Nat.{ℕ, ◌<◌, ◌≤◌}
use native.Mathlib.Omega.{arith}
use Rattle.cells.specs.Cells.{In, next_of, prev_of, with_next, with_prev}
use Rattle.cells.proofs.Laws.{next_same, next_other, next_with_prev, prev_same, prev_other, prev_with_next, in_with_next, with_next_again, with_prev_again, with_next_with_prev, with_next_own, with_prev_own}
use Rattle.rings.specs.Members.{Mem, Fresh}
use Rattle.rings.specs.Rings.{Links, Ring, inserted, detached, fronted, ended, CanInsert}
use Rattle.rings.proofs.Members.{not_mem}
use Rattle.rings.proofs.Links.{not_after_itself}
use Rattle.rings.proofs.Ring.{ring_fresh, ring_after, ring_in, can_insert}

-- the start stands before the first
first_back : (w : List ℕ) (a : ℕ) (xs : List ℕ) (b : ℕ) → Links w a xs b → prev_of w (next_of w a) ≡ a
first_back w a [] b l = ap (prev_of w) l.0 ∙ l.1
first_back w a (x ∷ xs) b l = ap (prev_of w) l.0 ∙ l.1

-- A MEMBER THAT COMES BACK TO ITS PLACE: e stands between p and n
module _ (w : List ℕ) (p e n : ℕ) (ip : In w p) (ie : In w n) (pe : p ≡ e → ⊥) (ne : n ≡ e → ⊥) (before : prev_of w e ≡ p) (after : next_of w e ≡ n) where
  D : List ℕ
  D = with_prev (with_next w p n) n p

  detached_is : detached e w ≡ D
  unfolding detached D
  detached_is = rw (before, after) refl

  next_over : next_of (detached e w) p ≡ n
  unfolding D
  next_over = rw detached_is (next_with_prev (with_next w p n) n p p ∙ next_same w p n ip ie)

  insert_back : next_of w p ≡ e → prev_of w n ≡ e → inserted n e (detached e w) ≡ w
  unfolding inserted D
  insert_back next back =
      let q : prev_of D n ≡ p = prev_same (with_next w p n) n p (in_with_next w p n n ie) (in_with_next w p n p ip) in
      let one : with_next D e n ≡ D = with_next_own D e n (next_with_prev (with_next w p n) n p e ∙ next_other w p n e (λ z. pe (sym z)) ∙ after) in
      let two : with_prev D e p ≡ D = with_prev_own D e p (prev_other (with_next w p n) n p e (λ z. ne (sym z)) ∙ prev_with_next w p n e ∙ before) in
      let three : with_prev D n e ≡ with_prev (with_next w p n) n e = with_prev_again (with_next w p n) n p e in
      let four : with_next (with_prev (with_next w p n) n e) p e ≡ w = with_next_with_prev (with_next w p n) n e p e ∙ ap (λ (v : List ℕ). with_prev v n e) (with_next_again w p n e ∙ with_next_own w p e next) ∙ with_prev_own w n e back in
      rw (detached_is, q, one, two, three) four

-- the first of a ring comes to the front: nothing changes
first_stays : (w : List ℕ) (m s e : ℕ) (xs : List ℕ) → Ring w m s (e ∷ xs) → fronted s e w ≡ w
unfolding fronted
first_stays w m s e xs r =
    let f : Fresh s (e ∷ xs) = ring_fresh w m s (e ∷ xs) r in
    let at : In w (next_of w e) = ring_in w m s (e ∷ xs) r (next_of w e) (ring_after w m s (e ∷ xs) r e (inr (inl refl))) in
    let ne : next_of w e ≡ e → ⊥ = not_after_itself w s (e ∷ xs) s r.links f f e (inl refl) in
    ap (λ (n : ℕ). inserted n e (detached e w)) (next_over w s e (next_of w e) r.root at f.0 ne r.links.1 refl)
    ∙ insert_back w s e (next_of w e) r.root at f.0 ne r.links.1 refl r.links.0 (first_back w e xs s r.links.2)

pub front_stays : (w : List ℕ) (m s e : ℕ) (xs : List ℕ) → Ring w m s xs → e < m → next_of w s ≡ e → fronted s e w ≡ w
front_stays w m s e [] r h q = let high : m ≤ s = r.high in let z : next_of w s ≡ s = r.links.0 in absurd (let n : ⊥ = omega arith in n)
front_stays w m s e (x ∷ xs) r h q = first_stays w m s e xs (rw (sym r.links.0 ∙ q) at r)

-- A CELL THAT IS PUT IN AND TAKEN OUT AGAIN: all is as it was but its own numbers
unfoldable own : ℕ → ℕ → ℕ → List ℕ → List ℕ
own e a b w = with_prev (with_next w e a) e b

-- and these are written where it is put in, so that it does not matter what they were
insert_own : (f e a b : ℕ) (w : List ℕ) → (f ≡ e → ⊥) → inserted f e (own e a b w) ≡ inserted f e w
unfolding inserted own
insert_own f e a b w d =
    let q : prev_of (with_prev (with_next w e a) e b) f ≡ prev_of w f = prev_other (with_next w e a) e b f d ∙ prev_with_next w e a f in
    let one : with_next (with_prev (with_next w e a) e b) e f ≡ with_prev (with_next w e f) e b = with_next_with_prev (with_next w e a) e b e f ∙ ap (λ (v : List ℕ). with_prev v e b) (with_next_again w e a f) in
    rw (q, one, with_prev_again (with_next w e f) e b (prev_of w f)) refl

next_own : (e a b : ℕ) (w : List ℕ) (x : ℕ) → (x ≡ e → ⊥) → next_of (own e a b w) x ≡ next_of w x
unfolding own
next_own e a b w x d = next_with_prev (with_next w e a) e b x ∙ next_other w e a x d

detach_insert : (f e q : ℕ) (w : List ℕ) → In w e → In w f → In w q → (f ≡ e → ⊥) → (q ≡ e → ⊥) → prev_of w f ≡ q → next_of w q ≡ f → detached e (inserted f e w) ≡ own e f q w
unfolding inserted detached own
detach_insert f e q w ie at iq fe qe back next =
    let W : List ℕ = with_next w e f in
    let A : List ℕ = with_prev W e q in
    let I : List ℕ = with_next (with_prev A f e) q e in
    let n : next_of I e ≡ f = next_other (with_prev A f e) q e e (λ z. qe (sym z)) ∙ next_with_prev A f e e ∙ next_with_prev W e q e ∙ next_same w e f ie at in
    let p : prev_of I e ≡ q = prev_with_next (with_prev A f e) q e e ∙ prev_other A f e e (λ z. fe (sym z)) ∙ prev_same W e q (in_with_next w e f e ie) (in_with_next w e f q iq) in
    let stays : with_next A q f ≡ A = with_next_own A q f (next_with_prev W e q q ∙ next_other w e f q qe ∙ next) in
    let one : with_next I q f ≡ with_prev A f e = with_next_again (with_prev A f e) q e f ∙ with_next_with_prev A f e q f ∙ ap (λ (v : List ℕ). with_prev v f e) stays in
    let two : with_prev (with_prev A f e) f q ≡ A = with_prev_again A f e q ∙ with_prev_own A f q (prev_other W e q f fe ∙ prev_with_next w e f f ∙ back) in
    rw (back, n, p, one) two

-- THROUGH ONE RING TO ANOTHER. e, a member of some ring, comes to the front of the ring of t, which has ys once e has left its own, and goes on to the ring of s: as if it had come there at once
not_cell : (w : List ℕ) (m t : ℕ) (ys : List ℕ) → Ring w m t ys → (e : ℕ) → e < m → Fresh e ys → (x : ℕ) → (x ≡ t) ⊎ Mem x ys → x ≡ e → ⊥
not_cell w m t ys r e h f x (inl q) z = let high : m ≤ t = r.high in omega arith
not_cell w m t ys r e h f x (inr k) z = not_mem e ys f (rw z at k)

module _ (w : List ℕ) (m t e : ℕ) (ys : List ℕ) (h : e < m) (d : Ring (detached e w) m t ys) (g : Fresh e ys) where
  at_first : (next_of (detached e w) t ≡ t) ⊎ Mem (next_of (detached e w) t) ys
  at_first = ring_after (detached e w) m t ys d t (inl refl)

  detach_front : detached e (fronted t e w) ≡ own e (next_of (detached e w) t) t (detached e w)
  unfolding fronted
  detach_front =
      let can : CanInsert (detached e w) (next_of (detached e w) t) e = can_insert (detached e w) m t ys d (next_of (detached e w) t) e at_first h in
      detach_insert (next_of (detached e w) t) e t (detached e w) can.self can.at d.root
      (not_cell (detached e w) m t ys d e h g (next_of (detached e w) t) at_first)
      (not_cell (detached e w) m t ys d e h g t (inl refl))
      (first_back (detached e w) t ys t d.links)
      refl

  module _ (s : ℕ) (zs : List ℕ) (o : Ring (detached e w) m s zs) (f : Fresh e zs) where
    root_other : s ≡ e → ⊥
    root_other = not_cell (detached e w) m s zs o e h f s (inl refl)

    first_other : next_of (detached e w) s ≡ e → ⊥
    first_other = not_cell (detached e w) m s zs o e h f (next_of (detached e w) s) (ring_after (detached e w) m s zs o s (inl refl))

    pub end_through : ended s e (fronted t e w) ≡ ended s e w
    unfolding ended
    end_through = ap (inserted s e) detach_front ∙ insert_own s e (next_of (detached e w) t) t (detached e w) root_other

    pub front_through : fronted s e (fronted t e w) ≡ fronted s e w
    unfolding fronted
    front_through = rw (detach_front, next_own e (next_of (detached e w) t) t (detached e w) s root_other) (insert_own (next_of (detached e w) s) e (next_of (detached e w) t) t (detached e w) first_other)

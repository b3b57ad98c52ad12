-- The laws of linked segments. In order: a store outside a segment; a cell more at the end; what stands before and after its members; distinctness, which the links back give; a member put in; a member taken out.
-- Assumes nothing.
use mathlib.Core.Path.{◌≡◌, refl, sym, ap, subst, ◌∙◌}
use mathlib.Core.Bool.{Bool, true, false, cond}
use mathlib.Core.Logic.{◌⊎◌, inl, inr, ⊎_elim}
use mathlib.Core.List.{List, [], ◌∷◌, ◌++◌}
use Prim.Native.Nat.{ℕ, ◌<◌, ◌≤◌}
use native.Mathlib.Omega.{arith}
use lib.Dec.{eqb}
use borrow.Author.Tests.{eqb-true, eqb-false}
use Rattle.cells.specs.Cells.{In, next_of, prev_of, with_next, with_prev}
use Rattle.cells.proofs.Laws.{cells, in_below, next_other, next_with_prev, prev_other, prev_with_next}
use Rattle.rings.specs.Members.{Mem, Fresh, Below, Distinct, without, insert_before}
use Rattle.rings.specs.Rings.{Links, inserted, detached}
use Rattle.rings.proofs.Members.{not_mem, fresh}

-- a store to a cell outside the segment leaves it
pub links_with_next : (w : List ℕ) (e v a : ℕ) (xs : List ℕ) (b : ℕ) → Fresh e (a ∷ xs) → Links w a xs b → Links (with_next w e v) a xs b
links_with_next w e v a [] b f l = (next_other w e v a (λ q. f.0 (sym q)) ∙ l.0, prev_with_next w e v b ∙ l.1)
links_with_next w e v a (x ∷ xs) b f l = (next_other w e v a (λ q. f.0 (sym q)) ∙ l.0, prev_with_next w e v x ∙ l.1, links_with_next w e v x xs b f.1 l.2)

pub links_with_prev : (w : List ℕ) (e v a : ℕ) (xs : List ℕ) (b : ℕ) → (e ≡ b → ⊥) → Fresh e xs → Links w a xs b → Links (with_prev w e v) a xs b
links_with_prev w e v a [] b h f l = (next_with_prev w e v a ∙ l.0, prev_other w e v b (λ q. h (sym q)) ∙ l.1)
links_with_prev w e v a (x ∷ xs) b h f l = (next_with_prev w e v a ∙ l.0, prev_other w e v x (λ q. f.0 (sym q)) ∙ l.1, links_with_prev w e v x xs b h f.1 l.2)

-- a cell more at the end
pub links_snoc : (w : List ℕ) (a : ℕ) (xs : List ℕ) (y b : ℕ) → Links w a xs y → next_of w y ≡ b → prev_of w b ≡ y → Links w a (xs ++ (y ∷ [])) b
links_snoc w a [] y b l n p = (l.0, l.1, (n, p))
links_snoc w a (x ∷ xs) y b l n p = (l.0, l.1, links_snoc w x xs y b l.2 n p)

-- what stands before a member is the start or a member; what stands after it, a member or the end
pub prev_mem : (w : List ℕ) (a : ℕ) (xs : List ℕ) (b e : ℕ) → Links w a xs b → Mem e xs → Mem (prev_of w e) (a ∷ xs)
prev_mem w a (x ∷ xs) b e l (inl q) = inl (ap (prev_of w) q ∙ l.1)
prev_mem w a (x ∷ xs) b e l (inr k) = inr (prev_mem w x xs b e l.2 k)
prev_mem w a [] b e l x'' = elim x'' [ ]

pub next_mem : (w : List ℕ) (a : ℕ) (xs : List ℕ) (b e : ℕ) → Links w a xs b → Mem e (a ∷ xs) → (next_of w e ≡ b) ⊎ Mem (next_of w e) xs
next_mem w a [] b e l (inl q) = inl (ap (next_of w) q ∙ l.0)
next_mem w a (x ∷ xs) b e l (inl q) = inr (inl (ap (next_of w) q ∙ l.0))
next_mem w a (x ∷ xs) b e l (inr k) = ⊎_elim (λ q. inl q) (λ n. inr (inr n)) (next_mem w x xs b e l.2 k)
next_mem w a [] b e l (inr k) = elim k [ ]

end_mem : (w : List ℕ) (a : ℕ) (xs : List ℕ) (b : ℕ) → Links w a xs b → Mem (prev_of w b) (a ∷ xs)
end_mem w a [] b l = inl l.1
end_mem w a (x ∷ xs) b l = inr (end_mem w x xs b l.2)

-- what stands before f, a member or the end
pub back_mem : (w : List ℕ) (a : ℕ) (xs : List ℕ) (b f : ℕ) → Links w a xs b → (f ≡ b) ⊎ Mem f xs → Mem (prev_of w f) (a ∷ xs)
back_mem w a xs b f l (inl q) = subst (λ v. Mem (prev_of w v) (a ∷ xs)) (sym q) (end_mem w a xs b l)
back_mem w a xs b f l (inr k) = prev_mem w a xs b f l k

-- by the links back, the cells of a segment that does not come back to its start are distinct
pub next_fresh : (w : List ℕ) (a x : ℕ) (xs : List ℕ) (b : ℕ) → Links w a (x ∷ xs) b → Fresh a (x ∷ xs) → Fresh x xs
next_fresh w a x xs b l f = fresh x xs (λ k. not_mem a (x ∷ xs) f (subst (λ v. Mem v (x ∷ xs)) l.1 (prev_mem w x xs b x l.2 k)))

pub links_distinct : (w : List ℕ) (a : ℕ) (xs : List ℕ) (b : ℕ) → Links w a xs b → Fresh a xs → Distinct xs
links_distinct w a [] b l f = tt
links_distinct w a (x ∷ xs) b l f = let h : Fresh x xs = next_fresh w a x xs b l f in (h, links_distinct w x xs b l.2 h)

-- so no member stands before itself
pub not_before_itself : (w : List ℕ) (a : ℕ) (xs : List ℕ) (b : ℕ) → Links w a xs b → Fresh a xs → (z : ℕ) → Mem z xs → prev_of w z ≡ z → ⊥
not_before_itself w a (x ∷ xs) b l f z (inl q) e = f.0 (sym l.1 ∙ ap (prev_of w) (sym q) ∙ e ∙ q)
not_before_itself w a (x ∷ xs) b l f z (inr k) e = not_before_itself w x xs b l.2 (next_fresh w a x xs b l f) z k e
not_before_itself w a [] b l f z x4 e = elim x4 [ ]

-- and none stands after itself
pub not_after_itself : (w : List ℕ) (a : ℕ) (xs : List ℕ) (b : ℕ) → Links w a xs b → Fresh a xs → Fresh b xs → (z : ℕ) → Mem z xs → next_of w z ≡ z → ⊥
not_after_itself w a (x ∷ []) b l f g z (inl q) e = g.0 (sym l.2.0 ∙ ap (next_of w) (sym q) ∙ e ∙ q)
not_after_itself w a (x ∷ y ∷ xs) b l f g z (inl q) e = (next_fresh w a x (y ∷ xs) b l f).0 (sym (sym l.2.0 ∙ ap (next_of w) (sym q) ∙ e ∙ q))
not_after_itself w a (x ∷ xs) b l f g z (inr k) e = not_after_itself w x xs b l.2 (next_fresh w a x xs b l f) g.1 z k e
not_after_itself w a [] b l f g z x5 e = elim x5 [ ]

-- A MEMBER PUT IN: e before f, in a segment of cells up to b
pub insert_links : (w : List ℕ) (m a : ℕ) (xs : List ℕ) (b e f : ℕ)
    → Links w a xs b
    → (f ≡ b) ⊎ Mem f xs
    → a ≤ b
    → m ≤ b
    → In w b
    → Below m xs
    → e < m
    → (e ≡ a → ⊥)
    → Fresh e xs
    → Fresh a xs
    → Links (inserted f e w) a (insert_before f e xs) b
unfolding inserted
insert_links w m a [] b e f l (inr x19) ab mb ib bl em ea fe fa = elim x19 [ ]
insert_links w m a [] b e f l (inl q) ab mb ib bl em ea fe fa =
    let ia : In w a = in_below w b a ib ab in
    let ie : In w e = in_below w b e ib (omega arith) in
    let eb : e ≡ b → ⊥ = omega arith in
    rw (q, l.1) (search cells, search cells, (search cells, search cells))
insert_links w m a (x ∷ xs) b e f l at ab mb ib bl em ea fe fa =
    go (λ k. insert_links w m x xs b e f l.2 k (omega arith) mb ib bl.1 em fe.0 fe.1 fx) at (eqb x f) refl
  where
    lx : x < m
    lx = bl.0

    fx : Fresh x xs
    fx = next_fresh w a x xs b l fa

    W : List ℕ
    W = inserted f e w

    xb : x ≡ b → ⊥
    xb q = omega arith

    here : Links (with_next (with_prev (with_prev (with_next w e x) e a) x e) a e) a (e ∷ x ∷ xs) b
    here =
        let ia : In w a = in_below w b a ib ab in
        let ie : In w e = in_below w b e ib (omega arith) in
        let ix : In w x = in_below w b x ib (omega arith) in
        let eb : e ≡ b → ⊥ = omega arith in
        let ex : e ≡ x → ⊥ = fe.0 in
        let xe : x ≡ e → ⊥ = λ q. fe.0 (sym q) in
        (search cells, search cells, (search cells, search cells, links_with_next _ a e x xs b fa (links_with_prev _ x e x xs b xb fx (links_with_prev _ e a x xs b eb fe.1 (links_with_next w e x x xs b fe l.2)))))

    there : (f ≡ b) ⊎ Mem f xs → (x ≡ f → ⊥) → Links W x (insert_before f e xs) b → Links W a (x ∷ insert_before f e xs) b
    there k n r =
        let np : a ≡ prev_of w f → ⊥ = λ q. not_mem a (x ∷ xs) fa (subst (λ v. Mem v (x ∷ xs)) (sym q) (back_mem w x xs b f l.2 k)) in
        let ae : a ≡ e → ⊥ = λ q. ea (sym q) in
        let xe : x ≡ e → ⊥ = λ q. fe.0 (sym q) in
        (next_other _ _ _ _ np ∙ next_with_prev _ _ _ _ ∙ next_with_prev _ _ _ _ ∙ next_other _ _ _ _ ae ∙ l.0, prev_with_next _ _ _ _ ∙ prev_other _ _ _ _ n ∙ prev_other _ _ _ _ xe ∙ prev_with_next _ _ _ _ ∙ l.1, r)

    go : ((f ≡ b) ⊎ Mem f xs → Links W x (insert_before f e xs) b) → (f ≡ b) ⊎ Mem f (x ∷ xs) → (t : Bool) → eqb x f ≡ t → Links W a (cond t (e ∷ x ∷ xs) (x ∷ insert_before f e xs)) b
    go ih k true q =
        let one : W ≡ with_next (with_prev (with_prev (with_next w e x) e a) x e) a e = rw (sym (eqb-true x f q), l.1) refl in
        subst (λ v. Links v a (e ∷ x ∷ xs) b) (sym one) here
    go ih (inl p) false q = there (inl p) (eqb-false x f q) (ih (inl p))
    go ih (inr (inl p)) false q = absurd (eqb-false x f q (sym p))
    go ih (inr (inr k)) false q = there (inr k) (eqb-false x f q) (ih (inr k))

-- A MEMBER TAKEN OUT, at the front of a segment and anywhere
detach_first : (w : List ℕ) (m a x : ℕ) (xs : List ℕ) (b : ℕ) → Links w a (x ∷ xs) b → a ≤ b → m ≤ b → In w b → Below m (x ∷ xs) → Fresh a (x ∷ xs) → Links (detached x w) a xs b
unfolding detached
detach_first w m a x [] b l ab mb ib bl fa = let ia : In w a = in_below w b a ib ab in rw (l.1, l.2.0) (search cells, search cells)
detach_first w m a x (y ∷ ys) b l ab mb ib bl fa =
    let ly : y < m = bl.1.0 in
    let ia : In w a = in_below w b a ib ab in
    let iy : In w y = in_below w b y ib (omega arith) in
    let fy : Fresh y ys = next_fresh w x y ys b l.2 (next_fresh w a x (y ∷ ys) b l fa) in
    let one : detached x w ≡ with_prev (with_next w a y) y a = rw (l.1, l.2.0) refl in
    subst (λ v. Links v a (y ∷ ys) b) (sym one) (search cells, search cells, links_with_prev _ y a y ys b (λ q. omega arith) fy (links_with_next w a y y ys b fa.1 l.2.2))

pub detach_links : (w : List ℕ) (m a : ℕ) (xs : List ℕ) (b e : ℕ)
    → Links w a xs b
    → Mem e xs
    → a ≤ b
    → m ≤ b
    → In w b
    → Below m xs
    → Fresh a xs
    → Links (detached e w) a (without e xs) b
unfolding detached
detach_links w m a [] b e l k ab mb ib bl fa = elim k [ ]
detach_links w m a (x ∷ xs) b e l k ab mb ib bl fa =
    go (λ j. detach_links w m x xs b e l.2 j (let lx : x < m = bl.0 in omega arith) mb ib bl.1 fx) k (eqb x e) refl
  where
    fx : Fresh x xs
    fx = next_fresh w a x xs b l fa

    D : List ℕ
    D = detached e w

    there : Mem e xs → Links D x (without e xs) b → Links D a (x ∷ without e xs) b
    there j r =
        let np : a ≡ prev_of w e → ⊥ = λ q. not_mem a (x ∷ xs) fa (subst (λ v. Mem v (x ∷ xs)) (sym q) (prev_mem w x xs b e l.2 j)) in
        let nn : x ≡ next_of w e → ⊥ = λ q. ⊎_elim (λ p. let lx : x < m = bl.0 in omega arith) (λ i. not_mem x xs fx (subst (λ v. Mem v xs) (sym q) i)) (next_mem w x xs b e l.2 (inr j)) in
        (next_with_prev _ _ _ _ ∙ next_other _ _ _ _ np ∙ l.0, prev_other _ _ _ _ nn ∙ prev_with_next _ _ _ _ ∙ l.1, r)

    go : (Mem e xs → Links D x (without e xs) b) → Mem e (x ∷ xs) → (t : Bool) → eqb x e ≡ t → Links D a (cond t xs (x ∷ without e xs)) b
    go ih j true q = subst (λ v. Links (detached v w) a xs b) (eqb-true x e q) (detach_first w m a x xs b l ab mb ib bl fa)
    go ih (inl p) false q = absurd (eqb-false x e q (sym p))
    go ih (inr j) false q = there j (ih j)

-- The laws of lists of cell numbers. In order: members and what is none; bounds; taken out; put in.
-- Assumes nothing.
use mathlib.Core.Path.{◌≡◌, refl, sym, ap, ◌∙◌}
use mathlib.Core.Bool.{Bool, true, false, cond}
use mathlib.Core.Logic.{◌⊎◌, inl, inr, ⊎_elim}
use mathlib.Core.List.{List, [], ◌∷◌, ◌++◌}
use Prim.Native.Nat.{ℕ, suc, ◌<◌, ◌≤◌}
use native.Mathlib.Omega.{arith}
use lib.ListN.{length}
use lib.Dec.{eqb, ltb}
use borrow.Author.Tests.{eqb-true, eqb-false, ltb-true, ltb-false, eq-eqb, ne_eqb}
use Rattle.rings.specs.Members.{Mem, Fresh, Below, Distinct, without, insert_before}

pub same_or_other : (a b : ℕ) → (a ≡ b) ⊎ (a ≡ b → ⊥)
same_or_other a b = go (eqb a b) refl
  where
    go : (t : Bool) → eqb a b ≡ t → (a ≡ b) ⊎ (a ≡ b → ⊥)
    go true q = inl (eqb-true a b q)
    go false q = inr (eqb-false a b q)

pub low_or_high : (x b : ℕ) → (x < b) ⊎ (b ≤ x)
low_or_high x b = go (ltb x b) refl
  where
    go : (t : Bool) → ltb x b ≡ t → (x < b) ⊎ (b ≤ x)
    go true q = inl (ltb-true x b q)
    go false q = inr (ltb-false x b q)

-- members and what is none
pub not_mem : (e : ℕ) (xs : List ℕ) → Fresh e xs → Mem e xs → ⊥
not_mem e [] f k = k
not_mem e (x ∷ xs) f (inl q) = f.0 q
not_mem e (x ∷ xs) f (inr k) = not_mem e xs f.1 k

pub fresh : (e : ℕ) (xs : List ℕ) → (Mem e xs → ⊥) → Fresh e xs
fresh e [] n = tt
fresh e (x ∷ xs) n = (λ q. n (inl q), fresh e xs (λ k. n (inr k)))

pub fresh_append : (e : ℕ) (xs ys : List ℕ) → Fresh e xs → Fresh e ys → Fresh e (xs ++ ys)
fresh_append e [] ys f g = g
fresh_append e (x ∷ xs) ys f g = (f.0, fresh_append e xs ys f.1 g)

pub mem_append : (e : ℕ) (xs ys : List ℕ) → Mem e (xs ++ ys) → Mem e xs ⊎ Mem e ys
mem_append e [] ys k = inr k
mem_append e (x ∷ xs) ys (inl q) = inl (inl q)
mem_append e (x ∷ xs) ys (inr k) = ⊎_elim (λ j. inl (inr j)) (λ j. inr j) (mem_append e xs ys k)

pub mem_left : (e : ℕ) (xs ys : List ℕ) → Mem e xs → Mem e (xs ++ ys)
mem_left e (x ∷ xs) ys (inl q) = inl q
mem_left e (x ∷ xs) ys (inr k) = inr (mem_left e xs ys k)
mem_left e [] ys x' = elim x' [ ]

pub mem_right : (e : ℕ) (xs ys : List ℕ) → Mem e ys → Mem e (xs ++ ys)
mem_right e [] ys k = k
mem_right e (x ∷ xs) ys k = inr (mem_right e xs ys k)

pub distinct_append : (xs ys : List ℕ) → Distinct xs → Distinct ys → ((x : ℕ) → Mem x xs → Fresh x ys) → Distinct (xs ++ ys)
distinct_append [] ys d e f = e
distinct_append (x ∷ xs) ys d e f = (fresh_append x xs ys d.0 (f x (inl refl)), distinct_append xs ys d.1 e (λ y k. f y (inr k)))

-- bounds
pub below_fresh : (m s : ℕ) (xs : List ℕ) → m ≤ s → Below m xs → Fresh s xs
below_fresh m s [] h b = tt
below_fresh m s (x ∷ xs) h b = let k : x < m = b.0 in (λ q. omega arith, below_fresh m s xs h b.1)

pub below_mem : (m : ℕ) (xs : List ℕ) (e : ℕ) → Below m xs → Mem e xs → e < m
below_mem m (x ∷ xs) e b (inl q) = rw q b.0
below_mem m (x ∷ xs) e b (inr k) = below_mem m xs e b.1 k
below_mem m [] e b x'' = elim x'' [ ]

pub below_append : (m : ℕ) (xs ys : List ℕ) → Below m xs → Below m ys → Below m (xs ++ ys)
below_append m [] ys b e = e
below_append m (x ∷ xs) ys b e = (b.0, below_append m xs ys b.1 e)

-- taken out
pub below_without : (m e : ℕ) (xs : List ℕ) → Below m xs → Below m (without e xs)
below_without m e [] b = tt
below_without m e (x ∷ xs) b = go (eqb x e) (below_without m e xs b.1)
  where
    go : (t : Bool) → Below m (without e xs) → Below m (cond t xs (x ∷ without e xs))
    go true r = b.1
    go false r = (b.0, r)

pub length_without : (e : ℕ) (xs : List ℕ) → Mem e xs → suc (length (without e xs)) ≡ length xs
length_without e [] k = elim k [ ]
length_without e (x ∷ xs) k = go (λ j. length_without e xs j) k (eqb x e) refl
  where
    go : (Mem e xs → suc (length (without e xs)) ≡ length xs) → Mem e (x ∷ xs) → (t : Bool) → eqb x e ≡ t → suc (length (cond t xs (x ∷ without e xs))) ≡ suc (length xs)
    go ih k true q = refl
    go ih (inl p) false q = absurd (eqb-false x e q (sym p))
    go ih (inr j) false q = ap suc (ih j)

pub mem_without : (e x : ℕ) (xs : List ℕ) → Mem x (without e xs) → Mem x xs
mem_without e x [] k = elim k [ ]
mem_without e x (y ∷ xs) k = go (eqb y e) (λ j. mem_without e x xs j) k
  where
    go : (t : Bool) → (Mem x (without e xs) → Mem x xs) → Mem x (cond t xs (y ∷ without e xs)) → (x ≡ y) ⊎ Mem x xs
    go true ih k = inr k
    go false ih (inl q) = inl q
    go false ih (inr k) = inr (ih k)

pub mem_stays : (e x : ℕ) (xs : List ℕ) → (x ≡ e → ⊥) → Mem x xs → Mem x (without e xs)
mem_stays e x [] n k = elim k [ ]
mem_stays e x (y ∷ xs) n k = go (eqb y e) refl (λ j. mem_stays e x xs n j) k
  where
    go : (t : Bool) → eqb y e ≡ t → (Mem x xs → Mem x (without e xs)) → (x ≡ y) ⊎ Mem x xs → Mem x (cond t xs (y ∷ without e xs))
    go true z ih (inl q) = absurd (n (q ∙ eqb-true y e z))
    go true z ih (inr k) = k
    go false z ih (inl q) = inl q
    go false z ih (inr k) = inr (ih k)

pub fresh_without : (e : ℕ) (xs : List ℕ) → Distinct xs → Fresh e (without e xs)
fresh_without e [] d = tt
fresh_without e (x ∷ xs) d = go (eqb x e) refl (fresh_without e xs d.1)
  where
    go : (t : Bool) → eqb x e ≡ t → Fresh e (without e xs) → Fresh e (cond t xs (x ∷ without e xs))
    go true q r = rw (sym (eqb-true x e q)) d.0
    go false q r = (λ z. eqb-false x e q (sym z), r)

pub fresh_less : (x e : ℕ) (xs : List ℕ) → Fresh x xs → Fresh x (without e xs)
fresh_less x e xs f = fresh x (without e xs) (λ k. not_mem x xs f (mem_without e x xs k))

pub without_first : (e : ℕ) (xs : List ℕ) → without e (e ∷ xs) ≡ xs
without_first e xs = simp (eq-eqb e e refl)

-- put in
pub below_insert : (m f e : ℕ) (xs : List ℕ) → e < m → Below m xs → Below m (insert_before f e xs)
below_insert m f e [] h b = (h, tt)
below_insert m f e (x ∷ xs) h b = go (eqb x f) (below_insert m f e xs h b.1)
  where
    go : (t : Bool) → Below m (insert_before f e xs) → Below m (cond t (e ∷ x ∷ xs) (x ∷ insert_before f e xs))
    go true r = (h, b)
    go false r = (b.0, r)

pub mem_insert : (f e x : ℕ) (xs : List ℕ) → Mem x (insert_before f e xs) → (x ≡ e) ⊎ Mem x xs
mem_insert f e x [] k = k
mem_insert f e x (y ∷ xs) k = go (eqb y f) (λ j. mem_insert f e x xs j) k
  where
    go : (t : Bool) → (Mem x (insert_before f e xs) → (x ≡ e) ⊎ Mem x xs) → Mem x (cond t (e ∷ y ∷ xs) (y ∷ insert_before f e xs)) → (x ≡ e) ⊎ Mem x (y ∷ xs)
    go true ih k = k
    go false ih (inl q) = inr (inl q)
    go false ih (inr k) = ⊎_elim (λ q. inl q) (λ j. inr (inr j)) (ih k)

pub insert_mem : (f e x : ℕ) (xs : List ℕ) → (x ≡ e) ⊎ Mem x xs → Mem x (insert_before f e xs)
insert_mem f e x [] k = k
insert_mem f e x (y ∷ xs) k = go (eqb y f) (λ j. insert_mem f e x xs j) k
  where
    go : (t : Bool) → ((x ≡ e) ⊎ Mem x xs → Mem x (insert_before f e xs)) → (x ≡ e) ⊎ Mem x (y ∷ xs) → Mem x (cond t (e ∷ y ∷ xs) (y ∷ insert_before f e xs))
    go true ih k = k
    go false ih (inl q) = inr (ih (inl q))
    go false ih (inr (inl q)) = inl q
    go false ih (inr (inr k)) = inr (ih (inr k))

pub insert_end : (f e : ℕ) (xs : List ℕ) → Fresh f xs → insert_before f e xs ≡ xs ++ (e ∷ [])
insert_end f e [] h = refl
insert_end f e (x ∷ xs) h = simp (ne_eqb x f (λ q. h.0 (sym q)), insert_end f e xs h.1)

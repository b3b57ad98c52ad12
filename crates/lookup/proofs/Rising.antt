-- The laws of places in rising order of their pages. In order: what rising places are; where a page is or belongs; a place put in, taken out, renamed.
-- w and v are the words before and after. Assumes nothing.
use Rattle.std.proofs.Common.{◌≡◌, ℕ, suc, ◌<◌, ◌≤◌, Bool, true, false, cond, eqb, ltb, ◌⊎◌, List, [], ◌∷◌, sym, refl, ap, ◌∙◌, inl, inr, ⊎_elim, arith, ltb-false, ltb-true, le-ltb, lt-ltb, eq-eqb, ne_eqb, eqb-true, subst}
use borrow.Author.Tests.{eqb-false}
use Rattle.rings.specs.Members.{Mem, Fresh, Distinct, without, insert_before, in_place_of}
use Rattle.rings.proofs.Members.{not_mem}
use Rattle.lookup.specs.Part.{page_of}
use Rattle.lookup.specs.Lookup.{Rising, seek}

-- what rising places are
pub rising_least : (w : List ℕ) (low : ℕ) (xs : List ℕ) → Rising w low xs → (x : ℕ) → Mem x xs → low ≤ page_of w x
rising_least w low (y ∷ xs) r x (inl q) = rw q r.0
rising_least w low (y ∷ xs) r x (inr k) = let a : suc (page_of w y) ≤ page_of w x = rising_least w (suc (page_of w y)) xs r.1 x k in let b : low ≤ page_of w y = r.0 in omega arith
rising_least w low [] r x x4 = elim x4 [ ]

pub rising_lower : (w : List ℕ) (low high : ℕ) (xs : List ℕ) → low ≤ high → Rising w high xs → Rising w low xs
rising_lower w low high [] h r = tt
rising_lower w low high (x ∷ xs) h r = let a : high ≤ page_of w x = r.0 in (omega arith, r.1)

-- of two places the pages differ
pub rising_unique : (w : List ℕ) (low : ℕ) (xs : List ℕ) → Rising w low xs → (x y : ℕ) → Mem x xs → Mem y xs → page_of w x ≡ page_of w y → x ≡ y
rising_unique w low (z ∷ xs) r x y (inl p) (inl q) e = p ∙ sym q
rising_unique w low (z ∷ xs) r x y (inl p) (inr j) e = let a : suc (page_of w z) ≤ page_of w y = rising_least w _ xs r.1 y j in let b : page_of w x ≡ page_of w z = ap (page_of w) p in absurd (let t : ⊥ = omega arith in t)
rising_unique w low (z ∷ xs) r x y (inr k) (inl q) e = let a : suc (page_of w z) ≤ page_of w x = rising_least w _ xs r.1 x k in let b : page_of w y ≡ page_of w z = ap (page_of w) q in absurd (let t : ⊥ = omega arith in t)
rising_unique w low (z ∷ xs) r x y (inr k) (inr j) e = rising_unique w _ xs r.1 x y k j e
rising_unique w low [] r x y x6 _ e = elim x6 [ ]

pub rising_same : (w v : List ℕ) (low : ℕ) (xs : List ℕ) → ((x : ℕ) → Mem x xs → page_of v x ≡ page_of w x) → Rising w low xs → Rising v low xs
rising_same w v low [] h r = tt
rising_same w v low (x ∷ xs) h r = rw (h x (inl refl)) (r.0, rising_same w v (suc (page_of w x)) xs (λ y k. h y (inr k)) r.1)

-- where a page is or belongs
pub seek_range : (w : List ℕ) (p s : ℕ) (xs : List ℕ) → (seek w p s xs ≡ s) ⊎ Mem (seek w p s xs) xs
seek_range w p s [] = inl refl
seek_range w p s (x ∷ xs) = go (ltb (page_of w x) p) (seek_range w p s xs)
  where
    go : (t : Bool) → (seek w p s xs ≡ s) ⊎ Mem (seek w p s xs) xs → (cond t (seek w p s xs) x ≡ s) ⊎ Mem (cond t (seek w p s xs) x) (x ∷ xs)
    go true (inl q) = inl q
    go true (inr k) = inr (inr k)
    go false i = inr (inl refl)

pub seek_is : (w : List ℕ) (low p s : ℕ) (xs : List ℕ) → Rising w low xs → (x : ℕ) → Mem x xs → page_of w x ≡ p → seek w p s xs ≡ x
seek_is w low p s (y ∷ xs) r x (inl q) e = let a : page_of w y ≡ p = ap (page_of w) (sym q) ∙ e in simp (le-ltb (page_of w y) p (omega arith)) (sym q)
seek_is w low p s (y ∷ xs) r x (inr k) e = let a : suc (page_of w y) ≤ page_of w x = rising_least w _ xs r.1 x k in simp (lt-ltb (page_of w y) p (omega arith)) (seek_is w _ p s xs r.1 x k e)
seek_is w low p s [] r x x5 e = elim x5 [ ]

-- taken out
pub rising_without : (w : List ℕ) (low e : ℕ) (xs : List ℕ) → Rising w low xs → Rising w low (without e xs)
rising_without w low e [] r = tt
rising_without w low e (x ∷ xs) r = go (eqb x e) (rising_without w (suc (page_of w x)) e xs r.1)
  where
    go : (t : Bool) → Rising w (suc (page_of w x)) (without e xs) → Rising w low (cond t xs (x ∷ without e xs))
    go true i = let a : low ≤ page_of w x = r.0 in rising_lower w low (suc (page_of w x)) xs (omega arith) r.1
    go false i = (r.0, i)

-- put in: a new page comes where it belongs
pub rising_put : (w v : List ℕ) (low p s y : ℕ) (xs : List ℕ)
    → Rising w low xs
    → low ≤ p
    → ((x : ℕ) → Mem x xs → page_of w x ≡ p → ⊥)
    → Fresh s xs
    → ((x : ℕ) → Mem x xs → page_of v x ≡ page_of w x)
    → page_of v y ≡ p
    → Rising v low (insert_before (seek w p s xs) y xs)
rising_put w v low p s y [] r h n fs same e = (rw e h, tt)
rising_put w v low p s y (x ∷ xs) r h n fs same e = go (λ l. rising_put w v (suc (page_of w x)) p s y xs r.1 l (λ z k. n z (inr k)) fs.1 (λ z k. same z (inr k)) e) (ltb (page_of w x) p) refl
  where
    off : x ≡ seek w p s xs → ⊥
    off q = ⊎_elim (λ z. fs.0 (sym (q ∙ z))) (λ k. let a : suc (page_of w x) ≤ page_of w x = rising_least w _ xs r.1 x (rw (sym q) at k) in omega arith) (seek_range w p s xs)

    go : (suc (page_of w x) ≤ p → Rising v (suc (page_of w x)) (insert_before (seek w p s xs) y xs)) → (t : Bool) → ltb (page_of w x) p ≡ t → Rising v low (insert_before (cond t (seek w p s xs) x) y (x ∷ xs))
    go ih true q = let l : page_of w x < p = ltb-true (page_of w x) p q in rw (ne_eqb x (seek w p s xs) off, same x (inl refl)) (r.0, ih l)
    go ih false q =
        let l : p ≤ page_of w x = ltb-false (page_of w x) p q in
        let d : page_of w x ≡ p → ⊥ = n x (inl refl) in
        let g : suc p ≤ page_of w x = omega arith in
        rw (eq-eqb x x refl, e) (h, rw (same x (inl refl)) (g, rising_same w v (suc (page_of w x)) xs (λ z k. same z (inr k)) r.1))

-- renamed: y has the page of x, and stands in its place
pub rising_in_place : (w v : List ℕ) (low x y : ℕ) (xs : List ℕ)
    → Rising w low xs
    → Distinct xs
    → ((z : ℕ) → Mem z xs → (z ≡ x → ⊥) → page_of v z ≡ page_of w z)
    → page_of v y ≡ page_of w x
    → Rising v low (in_place_of x y xs)
rising_in_place w v low x y [] r d same e = tt
rising_in_place w v low x y (z ∷ zs) r d same e = go (eqb z x) refl (rising_in_place w v (suc (page_of w z)) x y zs r.1 d.1 (λ u k. same u (inr k)) e)
  where
    go : (t : Bool) → eqb z x ≡ t → Rising v (suc (page_of w z)) (in_place_of x y zs) → Rising v low (cond t (y ∷ zs) (z ∷ in_place_of x y zs))
    go true q i =
        let zx : z ≡ x = eqb-true z x q in
        let py : page_of v y ≡ page_of w z = e ∙ ap (page_of w) (sym zx) in
        rw py (r.0, rising_same w v (suc (page_of w z)) zs (λ u k. same u (inr k) (λ ux. not_mem z zs d.0 (rw (ux ∙ sym zx) at k))) r.1)
    go false q i = rw (same z (inl refl) (eqb-false z x q)) (r.0, i)

pub mem_in_place : (x y z : ℕ) (xs : List ℕ) → Mem z (in_place_of x y xs) → (z ≡ y) ⊎ Mem z xs
mem_in_place x y z [] k = elim k [ ]
mem_in_place x y z (a ∷ xs) k = go (eqb a x) (λ j. mem_in_place x y z xs j) k
  where
    go : (t : Bool) → (Mem z (in_place_of x y xs) → (z ≡ y) ⊎ Mem z xs) → Mem z (cond t (y ∷ xs) (a ∷ in_place_of x y xs)) → (z ≡ y) ⊎ Mem z (a ∷ xs)
    go true ih (inl q) = inl q
    go true ih (inr j) = inr (inr j)
    go false ih (inl q) = inr (inl q)
    go false ih (inr j) = ⊎_elim (λ q. inl q) (λ i. inr (inr i)) (ih j)

pub in_place_stays : (x y z : ℕ) (xs : List ℕ) → (z ≡ x → ⊥) → Mem z xs → Mem z (in_place_of x y xs)
in_place_stays x y z [] n k = elim k [ ]
in_place_stays x y z (a ∷ xs) n k = go (eqb a x) refl (λ j. in_place_stays x y z xs n j) k
  where
    go : (t : Bool) → eqb a x ≡ t → (Mem z xs → Mem z (in_place_of x y xs)) → Mem z (a ∷ xs) → Mem z (cond t (y ∷ xs) (a ∷ in_place_of x y xs))
    go true q ih (inl e) = absurd (n (e ∙ eqb-true a x q))
    go true q ih (inr j) = inr j
    go false q ih (inl e) = inl e
    go false q ih (inr j) = inr (ih j)

pub in_place_here : (x y : ℕ) (xs : List ℕ) → Mem x xs → Mem y (in_place_of x y xs)
in_place_here x y [] k = elim k [ ]
in_place_here x y (a ∷ xs) k = go (eqb a x) refl (λ j. in_place_here x y xs j) k
  where
    go : (t : Bool) → eqb a x ≡ t → (Mem x xs → Mem y (in_place_of x y xs)) → Mem x (a ∷ xs) → Mem y (cond t (y ∷ xs) (a ∷ in_place_of x y xs))
    go true q ih j = inl refl
    go false q ih (inl e) = absurd (eqb-false a x q (sym e))
    go false q ih (inr j) = inr (ih j)

pub fresh_in_place : (x y : ℕ) (xs : List ℕ) → (x ≡ y → ⊥) → Distinct xs → Fresh x (in_place_of x y xs)
fresh_in_place x y [] n d = tt
fresh_in_place x y (a ∷ xs) n d = go (eqb a x) refl (fresh_in_place x y xs n d.1)
  where
    go : (t : Bool) → eqb a x ≡ t → Fresh x (in_place_of x y xs) → Fresh x (cond t (y ∷ xs) (a ∷ in_place_of x y xs))
    go true q i = (n, subst (λ v. Fresh v xs) (eqb-true a x q) d.0)
    go false q i = (λ e. eqb-false a x q (sym e), i)

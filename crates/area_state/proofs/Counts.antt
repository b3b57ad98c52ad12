-- Laws of lists of cells: how often a number stands in one, by its members; and what a list has once a number has left it, or is its last. Assumes nothing.
use mathlib.Core.Path.{◌≡◌, refl, sym, ap, ◌∙◌}
use mathlib.Core.Logic.{◌⊎◌, inl, inr}
use mathlib.Core.List.{List, [], ◌∷◌, map}
use Prim.Native.Nat.{ℕ, ◌+◌, ◌≤◌}
use native.Mathlib.Omega.{arith}
use lib.Dec.{eqb}
use borrow.Author.Tests.{eq-eqb, ne_eqb}
use Rattle.rules.specs.Lists.{one, times}
use Rattle.rings.specs.Members.{Mem, Fresh, Distinct, without, last_of, without_last}
use Rattle.rings.proofs.Members.{same_or_other, not_mem, fresh, fresh_without}
use Rattle.rings.proofs.Pigeons.{without_last_lem}

-- how often
pub times_none : (f : ℕ → ℕ) (p : ℕ) (xs : List ℕ) → ((x : ℕ) → Mem x xs → f x ≡ p → ⊥) → times p (map f xs) ≡ 0
times_none f p [] n = refl
times_none f p (x ∷ xs) n = let h : times p (map f xs) ≡ 0 = times_none f p xs (λ y k. n y (inr k)) in rw (ne_eqb p (f x) (λ q. n x (inl refl) (sym q))) (omega arith)

pub times_once : (f : ℕ → ℕ) (p : ℕ) (xs : List ℕ) → Distinct xs → ((x y : ℕ) → Mem x xs → Mem y xs → f x ≡ f y → x ≡ y) → times p (map f xs) ≤ 1
times_once f p [] d u = omega arith
times_once f p (x ∷ xs) d u = go (same_or_other p (f x)) (times_once f p xs d.1 (λ y z k j. u y z (inr k) (inr j)))
  where
    go : (p ≡ f x) ⊎ (p ≡ f x → ⊥) → times p (map f xs) ≤ 1 → one (eqb p (f x)) + times p (map f xs) ≤ 1
    go (inl q) h = rw (eq-eqb p (f x) q, times_none f p xs (λ y k e. not_mem x xs d.0 (rw (u x y (inl refl) (inr k) (sym q ∙ sym e)) k))) (omega arith)
    go (inr n) h = rw (ne_eqb p (f x) n) (omega arith)

pub times_some : (f : ℕ → ℕ) (p e : ℕ) (xs : List ℕ) → Mem e xs → f e ≡ p → 1 ≤ times p (map f xs)
times_some f p e (x ∷ xs) (inl z) q = rw (eq-eqb p (f x) (sym q ∙ ap f z)) (omega arith)
times_some f p e (x ∷ xs) (inr k) q = let h : 1 ≤ times p (map f xs) = times_some f p e xs k q in omega arith
times_some f p e [] x'' q = elim x'' [ ]

pub times_fresh : (k : ℕ) (xs : List ℕ) → Fresh k xs → times k xs ≡ 0
times_fresh k [] f = refl
times_fresh k (x ∷ xs) f = let h : times k xs ≡ 0 = times_fresh k xs f.1 in rw (ne_eqb k x f.0) (omega arith)

pub times_member : (k : ℕ) (xs : List ℕ) → Distinct xs → Mem k xs → times k xs ≡ 1
times_member k [] d m = elim m [ ]
times_member k (x ∷ xs) d m = go (same_or_other k x) m (λ j. times_member k xs d.1 j)
  where
    go : (k ≡ x) ⊎ (k ≡ x → ⊥) → Mem k (x ∷ xs) → (Mem k xs → times k xs ≡ 1) → one (eqb k x) + times k xs ≡ 1
    go (inl q) m ih = rw (eq-eqb k x q, times_fresh k xs (rw q d.0)) (omega arith)
    go (inr n) (inl q) ih = absurd (n q)
    go (inr n) (inr j) ih = let h : times k xs ≡ 1 = ih j in rw (ne_eqb k x n) (omega arith)

-- members of a mapped list
pub mem_map : (f : ℕ → ℕ) (y : ℕ) (xs : List ℕ) → Mem y (map f xs) → (x : ℕ) × Mem x xs × (y ≡ f x)
mem_map f y (x ∷ xs) (inl q) = (x, inl refl, q)
mem_map f y (x ∷ xs) (inr k) = let r = mem_map f y xs k in (r.0, inr r.1, r.2)
mem_map f y [] x' = elim x' [ ]

pub map_mem : (f : ℕ → ℕ) (x : ℕ) (xs : List ℕ) → Mem x xs → Mem (f x) (map f xs)
map_mem f x (y ∷ xs) (inl q) = inl (ap f q)
map_mem f x (y ∷ xs) (inr k) = inr (map_mem f x xs k)
map_mem f x [] x'' = elim x'' [ ]

pub distinct_map : (f : ℕ → ℕ) (xs : List ℕ) → Distinct xs → ((x y : ℕ) → f x ≡ f y → x ≡ y) → Distinct (map f xs)
distinct_map f [] d u = tt
distinct_map f (x ∷ xs) d u = (fresh (f x) (map f xs) (λ k. let r = mem_map f (f x) xs k in not_mem x xs d.0 (rw (u x r.0 r.2) r.1)), distinct_map f xs d.1 u)

-- a number that is none of them leaves nothing behind
pub without_absent : (e : ℕ) (xs : List ℕ) → Fresh e xs → without e xs ≡ xs
without_absent e [] f = refl
without_absent e (x ∷ xs) f = rw (ne_eqb x e (λ q. f.0 (sym q)), without_absent e xs f.1) refl

-- the last of a list is none of the others
pub fresh_last : (a : ℕ) (xs : List ℕ) → Distinct (a ∷ xs) → Fresh (last_of a xs) (without_last (a ∷ xs))
fresh_last a xs d = rw (sym (without_last_lem a xs d)) (fresh_without (last_of a xs) (a ∷ xs) d)

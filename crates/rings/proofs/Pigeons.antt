-- More laws of lists of cell numbers. In order: numbers in a row; the pigeonhole; the last.
-- Assumes nothing.
use mathlib.Core.Path.{◌≡◌, refl, sym, ap, subst}
use mathlib.Core.Logic.{inl, inr, ⊎_elim}
use mathlib.Core.List.{List, [], ◌∷◌, ◌++◌}
use Prim.Native.Nat.{ℕ, zero, suc, ◌+◌, ◌<◌, ◌≤◌}
use native.Mathlib.Omega.{arith}
use native.Mathlib.Nat.{not-suc-le-zero}
use lib.ListN.{length}
use borrow.Author.Tests.{eq-eqb, ne_eqb}
use Rattle.rings.specs.Members.{Mem, Fresh, Below, Distinct, without, up_from, last_of, without_last}
use Rattle.rings.proofs.Members.{same_or_other, not_mem, below_mem, length_without, mem_stays}

-- numbers in a row
pub length_up_from : (a n : ℕ) → length (up_from a n) ≡ n
length_up_from a zero = refl
length_up_from a (suc n) = ap suc (length_up_from (suc a) n)

pub mem_up_from : (a n x : ℕ) → a ≤ x → x < a + n → Mem x (up_from a n)
mem_up_from a zero x h l = absurd (let z : ⊥ = omega arith in z)
mem_up_from a (suc n) x h l = ⊎_elim (λ q. inl q) (λ d. inr (mem_up_from (suc a) n x (omega arith) (omega arith))) (same_or_other x a)

pub up_from_more : (a n e : ℕ) → a + n ≡ e → up_from a (suc n) ≡ up_from a n ++ (e ∷ [])
up_from_more a zero e q = let z : a ≡ e = omega arith in rw z refl
up_from_more a (suc n) e q = ap (λ (l : List ℕ). a ∷ l) (up_from_more (suc a) n e (omega arith))

pub below_up_from : (m a n : ℕ) → a + n ≤ m → Below m (up_from a n)
below_up_from m a zero h = tt
below_up_from m a (suc n) h = (omega arith, below_up_from m (suc a) n (omega arith))

pub fresh_up_from : (a n x : ℕ) → a + n ≤ x → Fresh x (up_from a n)
fresh_up_from a zero x h = tt
fresh_up_from a (suc n) x h = (λ q. omega arith, fresh_up_from (suc a) n x (omega arith))

-- THE PIGEONHOLE. Distinct numbers that are all in another list are no more than that list has
pub no_more : (B A : List ℕ) → Distinct B → ((x : ℕ) → Mem x B → Mem x A) → length B ≤ length A
no_more [] A d s = omega arith
no_more (b ∷ B) A d s =
    let k : Mem b A = s b (inl refl) in
    let one : suc (length (without b A)) ≡ length A = length_without b A k in
    let r : length B ≤ length (without b A) = no_more B (without b A) d.1 (λ x j. mem_stays b x A (λ q. not_mem b B d.0 (rw q at j)) (s x (inr j))) in
    omega arith

-- and where they are as many, they are all of it
pub all_of : (B A : List ℕ) → Distinct B → ((x : ℕ) → Mem x B → Mem x A) → length A ≤ length B → (x : ℕ) → Mem x A → Mem x B
all_of [] (a ∷ A) d s h x k = absurd (not-suc-le-zero h)
all_of (b ∷ B) A d s h x k =
    let j : Mem b A = s b (inl refl) in
    let one : suc (length (without b A)) ≡ length A = length_without b A j in
    ⊎_elim (λ q. inl q) (λ n. inr (all_of B (without b A) d.1 (λ y i. mem_stays b y A (λ q. not_mem b B d.0 (rw q at i)) (s y (inr i))) (omega arith) x (mem_stays b x A n k))) (same_or_other x b)
all_of [] [] d s h x k = elim k [ ]

-- so distinct numbers below m are at most m, and where they are m, they are all of them
pub few : (m : ℕ) (xs : List ℕ) → Distinct xs → Below m xs → length xs ≤ m
few m xs d b =
    let h : length xs ≤ length (up_from 0 m) = no_more xs (up_from 0 m) d (λ x k. let l : x < m = below_mem m xs x b k in mem_up_from 0 m x (omega arith) (omega arith)) in
    let q : length (up_from 0 m) ≡ m = length_up_from 0 m in
    omega arith

pub covers : (m : ℕ) (xs : List ℕ) → Distinct xs → Below m xs → length xs ≡ m → (x : ℕ) → x < m → Mem x xs
covers m xs d b e x h =
    let q : length (up_from 0 m) ≡ m = length_up_from 0 m in
    all_of xs (up_from 0 m) d (λ y k. let l : y < m = below_mem m xs y b k in mem_up_from 0 m y (omega arith) (omega arith)) (omega arith) x (mem_up_from 0 m x (omega arith) (omega arith))

-- the last
pub last_mem : (a : ℕ) (xs : List ℕ) → Mem (last_of a xs) (a ∷ xs)
last_mem a [] = inl refl
last_mem a (x ∷ xs) = inr (last_mem x xs)

pub without_last_lem : (a : ℕ) (xs : List ℕ) → Distinct (a ∷ xs) → without (last_of a xs) (a ∷ xs) ≡ without_last (a ∷ xs)
without_last_lem a [] d = simp (eq-eqb a a refl)
without_last_lem a (x ∷ xs) d = simp (ne_eqb a (last_of x xs) (λ q. not_mem a (x ∷ xs) d.0 (subst (λ v. Mem v (x ∷ xs)) (sym q) (last_mem x xs))), without_last_lem x xs d.1)

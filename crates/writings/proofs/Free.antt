-- Parts hold an empty cache whose free slots stand in any order. All slots are taken first, by any pages, and are then
-- given back, the last of that order first. In order: lists; all slots are taken; they are given back.
-- Assumes nothing.
use mathlib.Core.Path.{◌≡◌, refl}
use mathlib.Core.Logic.{◌⊎◌, inl, inr}
use mathlib.Core.Bool.{false}
use mathlib.Core.List.{List, [], ◌∷◌}
use Prim.Native.Nat.{ℕ, suc, ◌+◌, ◌≤◌}
use native.Mathlib.Omega.{arith}
use lib.Dec.{ltb}
use lib.ListN.{length}
use borrow.Author.Tests.{ne_eqb}
use Rattle.rules.specs.Lists.{one, times, count_from}
use Rattle.rules.specs.State.{entry, Lists, pages, without}
use Rattle.rules.specs.declared.Side.TheVariants.{First as first}
use Rattle.rules.specs.Stages.{start_target, emptied}
use Rattle.rules.specs.Car.{Car, car, Clocked, clocked, Resident, slots, new, Obeys}
use Rattle.rules.proofs.ListLaws.{one_self, one_other, one_le}
use Rattle.rules.proofs.Slots.{all_free, each_once}
use Rattle.rings.specs.Members.{Mem}
use Rattle.rings.proofs.Members.{same_or_other}
use Rattle.area_state.specs.States.{resident_at, removed_at, new_resident, entered_at_front}
use Rattle.area_state.proofs.Reading.{state_obeys}
use Rattle.writings.proofs.Steps.{Kept, kept_new, kept_entered, kept_removed}

-- ---- lists
times_mem : (k : ℕ) (xs : List ℕ) → 1 ≤ times k xs → Mem k xs
times_mem k [] h = absurd (let z : ⊥ = omega arith in z)
times_mem k (x ∷ xs) h = go (same_or_other k x) (times_mem k xs)
  where
    go : (k ≡ x) ⊎ (k ≡ x → ⊥) → (1 ≤ times k xs → Mem k xs) → Mem k (x ∷ xs)
    go (inl q) ih = inl q
    go (inr n) ih = let z = one_other k x (ne_eqb k x n) in inr (ih (omega arith))

no_slots : (l : List Resident) → ((k : ℕ) → times k (slots l) ≡ 0) → l ≡ []
no_slots [] h = refl
no_slots (e ∷ l) h = let k = e.more.slot in let a = h k in let b = one_self k in absurd (let z : ⊥ = omega arith in z)

-- T1 alone
abbrev only : ℕ → List Resident → Lists Clocked
only c l = record { c = c; target = start_target c; T1 = l; T2 = []; B1 = []; B2 = [] }

-- what parts hold obeys the rules: here, each slot stands once
kept_obeys : (c : ℕ) (s : Car) → Kept c s → Obeys s
kept_obeys c s r = rw r.becomes.reads at (state_obeys c r.parts r.becomes.holds)

only_once : (c : ℕ) (l : List Resident) (f : List ℕ) → Kept c (car (only c l) f) → (k : ℕ)
    → times k (slots l) + times k f ≡ one (ltb k c)
only_once c l f r k = let o = (kept_obeys c (car (only c l) f) r).slotted k in omega arith

module _ (c : ℕ) (small : c ≤ 1024) where
  -- ---- all slots are taken: by the pages n, n + 1 and so on
  taken_all : (f : List ℕ) (n : ℕ) (l : List Resident) → n + length f ≤ 1024
      → ((x : ℕ) → n ≤ x → times x (pages l) ≡ 0)
      → Kept c (car (only c l) f)
      → (m : List Resident) × Kept c (car (only c m) [])
  unfolding entered_at_front new_resident
  taken_all [] n l h fresh r = (l, r)
  taken_all (k ∷ f) n l h fresh r =
      let z = fresh n (omega arith) in
      let s = car (only c l) (k ∷ f) in
      taken_all f (suc n) (entry n 0 (clocked k false) ∷ l) (omega arith)
      (λ x low. let o = one_other x n (ne_eqb x n (omega arith)) in let y = fresh x (omega arith) in omega arith)
      (kept_entered c s r first n 0 false (omega arith) (omega arith) (omega arith) (omega arith))

  full : (m : List Resident) × Kept c (car (only c m) [])
  unfolding new
  full =
      let q = each_once c (count_from 0 c) (λ k. all_free k c) in
      taken_all (count_from 0 c) 0 [] (omega arith) (λ x low. refl) (kept_new c small)

  -- ---- the slots f are given back
  given_back : (f : List ℕ) → ((k : ℕ) → times k f ≤ one (ltb k c)) → (m : List Resident) × Kept c (car (only c m) f)
  unfolding removed_at
  given_back [] h = full
  given_back (k ∷ f) h =
      let r = given_back f (λ j. let a = h j in omega arith) in
      let s = car (only c r.0) f in
      let o = only_once c r.0 f r.1 k in
      let a = h k in
      let b = one_self k in
      let d = one_le (ltb k c) in
      (without (resident_at k s).page r.0, kept_removed c s r.1 k (times_mem k (slots r.0) (omega arith)))

  -- ANY ORDER: nobody is resident once all have been given back
  pub kept_free : (f : List ℕ) → ((k : ℕ) → times k f ≡ one (ltb k c)) → Kept c (car (emptied c) f)
  kept_free f h =
      let r = given_back f (λ k. let a = h k in omega arith) in
      let o = only_once c r.0 f r.1 in
      rw (no_slots r.0 (λ k. let a = h k in let b = o k in omega arith)) at r.1

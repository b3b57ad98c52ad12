-- Laws of CAR's slots and reference bits.
-- Assumes nothing.
use mathlib.Core.Path.{◌≡◌, refl, sym, ap, ◌∙◌}
use mathlib.Core.List.{List, [], ◌∷◌, ◌++◌}
use mathlib.Core.Bool.{false, cond}
use Prim.Native.Nat.{ℕ, zero, suc, ◌+◌, ◌<◌, ◌≤◌}
use native.Mathlib.Omega.{arith}
use lib.Dec.{ltb, eqb}
use lib.ListN.{length}
use borrow.Author.Tests.{eqb-true, eqb-false, lt-ltb, le-ltb, ltb-true, ltb-false, ne_eqb}
use Rattle.rules.specs.Lists.{one, times, leave, count_from}
use Rattle.rules.specs.State.{pages, without, changed, Lists, Side, first, second, list, set_list}
use Rattle.rules.specs.Car.{Clocked, Resident, slots, marks, referenced, taken}
use Rattle.rules.proofs.ListLaws.{by_test, either, one_self, one_other, one_le, times_leave_self, times_leave_other, length_leave}

-- ---- the slots 0, 1, 2 and so on
from_below : (k a n : ℕ) → k < a → times k (count_from a n) ≡ 0
from_below k a zero h = refl
from_below k a (suc n) h =
    let d : (k ≡ a → ⊥) = λ q. omega arith in
    omega (arith, one_other k a (ne_eqb k a d), from_below k (suc a) n (omega arith))

from_on : (k a n : ℕ) → a ≤ k → times k (count_from a n) ≡ one (ltb k (a + n))
from_on k a zero h = rw (le-ltb k (a + 0) (omega arith))
from_on k a (suc n) h =
    let ih = from_on k (suc a) n in
    by_test (λ b. eqb k a ≡ b → one b + times k (count_from (suc a) n) ≡ one (ltb k (a + suc n))) (eqb k a)
    (λ _ e. let q = eqb-true k a e in rw (lt-ltb k (a + suc n) (omega arith)) (omega (arith, from_below k (suc a) n (omega arith))))
    (λ _ e. let d : (k ≡ a → ⊥) = eqb-false k a e in let i = ih (omega arith) in let m : suc a + n ≡ a + suc n = omega arith in omega (arith, ap (λ t. one (ltb k t)) m)) refl

pub all_free : (k c : ℕ) → times k (count_from 0 c) ≡ one (ltb k c)
all_free k c = let z : 0 + c ≡ c = omega arith in from_on k 0 c (omega arith) ∙ ap (λ t. one (ltb k t)) z

ltb_skip : (k c : ℕ) → eqb k c ≡ false → ltb k (suc c) ≡ ltb k c
ltb_skip k c e =
    let d : (k ≡ c → ⊥) = eqb-false k c e in
    by_test (λ b. ltb k c ≡ b → ltb k (suc c) ≡ b) (ltb k c) (λ _ h. lt-ltb k (suc c) (omega (arith, ltb-true))) (λ _ h. le-ltb k (suc c) (omega (arith, ltb-false))) refl

-- ---- a list in which each number below c stands once, and no other, has length c
pub each_once : (c : ℕ) (l : List ℕ) → ((k : ℕ) → times k l ≡ one (ltb k c)) → length l ≡ c
each_once zero [] h = refl
each_once zero (x ∷ l) h = let q : one (eqb x x) + times x l ≡ one (ltb x 0) = h x in absurd (omega (arith, one_self x, ap one (le-ltb x 0 (omega arith))))
each_once (suc c) l h =
    let n = length_leave c l in
    let t : times c l ≡ 1 = h c ∙ ap one (lt-ltb c (suc c) (omega arith)) in
    let r = each_once c (leave c l) (either (λ k. times k (leave c l) ≡ one (ltb k c)) c
    (times_leave_self c l ∙ sym (ap one (le-ltb c c (omega arith))))
    (λ k e. times_leave_other k c l e ∙ (h k ∙ ap one (ltb_skip k c e)))) in
    omega arith

-- ---- slots and marks of lists
abbrev pub slot_of : Resident → ℕ
slot_of e = e.more.slot

pub length_slots : (l : List Resident) → length (slots l) ≡ length l
length_slots [] = refl
length_slots (e ∷ l) = ap suc (length_slots l)

pub marks_append : (l m : List Resident) → marks (l ++ m) ≡ marks l + marks m
marks_append [] m = omega arith
marks_append (e ∷ l) m = omega (arith, marks_append l m)

pub marks_without : (x : ℕ) (l : List Resident) → marks (without x l) ≤ marks l
marks_without x [] = omega arith
marks_without x (e ∷ l) =
    let h = marks_without x l in
    by_test (λ b. marks (cond b (without x l) (e ∷ without x l)) ≤ one e.more.bit + marks l) (eqb x e.page) (λ _. omega arith) (λ _. omega arith)

-- ---- a resident is changed where it stands: slots stay, and at most its own bit is set
pub changed_marks : (x : ℕ) (g : Resident → Resident) (l : List Resident) → marks (changed x g l) ≤ marks l + times x (pages l)
changed_marks x g [] = omega arith
changed_marks x g (e ∷ l) =
    let ih = changed_marks x g l in
    by_test (λ b. one (cond b (g e) e).more.bit + marks (changed x g l) ≤ one e.more.bit + marks l + (one b + times x (pages l))) (eqb x e.page)
    (λ _. omega (arith, one_le (g e).more.bit)) (λ _. omega arith)

-- ---- a clock set anew
pub taken_set : (k : ℕ) (i : Side) (l : List Resident) (s : Lists Clocked) → taken k (set_list i l s) + times k (slots (list i s)) ≡ taken k s + times k (slots l)
taken_set k first l s = omega arith
taken_set k second l s = omega arith

pub referenced_set : (i : Side) (l : List Resident) (s : Lists Clocked) → referenced (set_list i l s) + marks (list i s) ≡ referenced s + marks l
referenced_set first l s = omega arith
referenced_set second l s = omega arith

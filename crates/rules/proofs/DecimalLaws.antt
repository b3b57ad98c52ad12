-- `decimal n` is right: it is the one list of digits, without a leading zero, that stands for n.
-- Assumes nothing.
use mathlib.Core.Path.{◌≡◌, refl, sym, subst, ap, ◌∙◌}
use mathlib.Core.List.{List, [], ◌∷◌, ◌++◌}
use mathlib.Core.Bool.{Bool, true, false}
use mathlib.Core.Option.{Option, some, none}
use Prim.Native.Nat.{ℕ, zero, suc, ◌+◌, ◌*◌, ◌-◌, ◌/◌, ◌%◌, ◌<◌, ◌≤◌}
use native.Mathlib.Omega.{arith}
use lib.Dec.{ltb}
use borrow.Author.Tests.{ltb-true, ltb-false, lt-ltb, le-ltb}
use Rattle.rules.specs.Lists.{drop_last, last, Each}
use Rattle.rules.specs.Decimal.{digit, digits_by, digits, decimal}
use Rattle.rules.proofs.ListLaws.{split_last, no_last}
use Rattle.rules.proofs.EachLaws.{each_append, each_left, each_right}

-- ---- what a decimal is
-- the number that digits stand for, where v stands before them
abbrev pub value_from : ℕ → List ℕ → ℕ
value_from v [] = v
value_from v (d ∷ l) = value_from (10 * v + (d - 0x30)) l

abbrev pub IsDigit : ℕ → Type 0
IsDigit d = (0x30 ≤ d) × (d ≤ 0x39)

-- at least one digit, and no zero before another
abbrev pub Shortest : List ℕ → Type 0
Shortest [] = ⊥
Shortest (d ∷ []) = Unit {0}
Shortest (d ∷ e ∷ l) = 0x30 < d

pub record Decimal (n : ℕ) (l : List ℕ) : Type 0 where
  pub digits : Each IsDigit l
  pub shortest : Shortest l
  pub value : value_from 0 l ≡ n

-- ---- one digit more
value_more : (v : ℕ) (l : List ℕ) (d : ℕ) → value_from v (l ++ d ∷ []) ≡ 10 * value_from v l + (d - 0x30)
value_more v [] d = refl
value_more v (e ∷ l) d = value_more (10 * v + (e - 0x30)) l d

-- a value is at least what stood before
value_le : (v : ℕ) (l : List ℕ) → v ≤ value_from v l
value_le v [] = omega arith
value_le v (d ∷ l) = omega (arith, value_le (10 * v + (d - 0x30)) l)

-- a number in front of another digit is no zero, so that more digits may follow
shortest_more : (l : List ℕ) (d : ℕ) → Shortest l → 1 ≤ value_from 0 l → Shortest (l ++ d ∷ [])
shortest_more [] d p k = tt
shortest_more (x ∷ []) d p k = omega arith
shortest_more (x ∷ y ∷ l) d p k = p

-- and back: digits with one after them are a number above zero
shortest_less : (x : ℕ) (l : List ℕ) (d : ℕ) → Shortest (x ∷ l ++ d ∷ []) → Shortest (x ∷ l) × (1 ≤ value_from 0 (x ∷ l))
shortest_less x [] d p = (tt, omega arith)
shortest_less x (y ∷ l) d p = (p, omega (arith, value_le (10 * 0 + (x - 0x30)) (y ∷ l)))

-- ---- it is one
by_right : (b : Bool) (n : ℕ) (higher : ℕ → List ℕ) → ltb n 10 ≡ b → (10 ≤ n → Decimal (n / 10) (higher (n / 10))) → Decimal n (digits_by b n higher)
unfolding digits_by
by_right true n higher h k =
    let small = ltb-true n 10 h in
    record { digits = (omega arith, tt); shortest = tt; value = omega arith }
by_right false n higher h k =
    let large = ltb-false n 10 h in
    let d = k large in
    let l = higher (n / 10) in
    let is = d.value in
    record {
      digits = each_append IsDigit l _ d.digits (omega arith, tt);
      shortest = shortest_more l _ d.shortest (omega arith);
      value = value_more 0 l (digit (n % 10)) ∙ omega arith;
    }

digits_right : (k n : ℕ) → n < k → Decimal n (digits k n)
unfolding digits
digits_right zero n h = absurd (omega arith)
digits_right (suc k) n h = by_right (ltb n 10) n (λ m. digits k m) refl (λ large. digits_right k (n / 10) (omega arith))

pub decimal_right : (n : ℕ) → Decimal n (decimal n)
unfolding decimal
decimal_right n = digits_right (suc n) n (omega arith)

-- ---- it is the only one
by_small : (n : ℕ) (higher : ℕ → List ℕ) → n < 10 → digits_by (ltb n 10) n higher ≡ digit n ∷ []
unfolding digits_by
by_small n higher h = ap (λ b. digits_by b n higher) (lt-ltb n 10 h)

by_large : (n : ℕ) (higher : ℕ → List ℕ) → 10 ≤ n → digits_by (ltb n 10) n higher ≡ higher (n / 10) ++ digit (n % 10) ∷ []
unfolding digits_by
by_large n higher h = ap (λ b. digits_by b n higher) (le-ltb n 10 h)

-- a list with a last digit, where the lists of the higher digits are settled
snoc_only : (k n : ℕ) (m : List ℕ) (d : ℕ) → ((j : ℕ) → j < k → Decimal j m → m ≡ digits k j) → n < suc k → Decimal n (m ++ d ∷ []) → m ++ d ∷ [] ≡ digits (suc k) n
unfolding digits
snoc_only k n [] d ih h p =
    let is = p.value in
    let ok = p.digits.0 in
    let same : d ≡ digit n = omega arith in
    let small : n < 10 = omega arith in
    ap (λ t. t ∷ []) same ∙ sym (by_small n (λ m. digits k m) small)
snoc_only k n (x ∷ m) d ih h p =
    let l = x ∷ m in
    let ok : (0x30 ≤ d) × (d ≤ 0x39) = (each_right IsDigit l (d ∷ []) p.digits).0 in
    let less = shortest_less x m d p.shortest in
    let is : 10 * value_from 0 l + (d - 0x30) ≡ n = sym (value_more 0 l d) ∙ p.value in
    let high : value_from 0 l ≡ n / 10 = omega arith in
    let low : d ≡ digit (n % 10) = omega arith in
    let q = ih (n / 10) (omega arith) (record { digits = each_left IsDigit l (d ∷ []) p.digits; shortest = less.0; value = high }) in
    ap (λ t. t ++ d ∷ []) q ∙ (ap (λ t. digits k (n / 10) ++ t ∷ []) low ∙ sym (by_large n (λ m. digits k m) (omega arith)))

only : (k n : ℕ) (l : List ℕ) → n < k → Decimal n l → l ≡ digits k n
only zero n l h p = absurd (omega arith)
only (suc k) n l h p = go (last l) refl (λ j b e. only k j (drop_last l) b e)
  where
    go : (o : Option ℕ) → last l ≡ o → ((j : ℕ) → j < k → Decimal j (drop_last l) → drop_last l ≡ digits k j) → l ≡ digits (suc k) n
    go none q ih = absurd (subst Shortest (no_last l q) p.shortest)
    go (some d) q ih =
        let s = split_last l d q in
        s ∙ snoc_only k n (drop_last l) d ih h (subst (Decimal n) s p)

pub decimal_only : (n : ℕ) (l : List ℕ) → Decimal n l → l ≡ decimal n
unfolding decimal
decimal_only n l p = only (suc n) n l (omega arith) p

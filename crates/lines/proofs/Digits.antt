-- Decimals digit by digit. In order: more digits allowed change nothing; the last digit; how many there are. Assumes nothing.
use mathlib.Core.Path.{◌≡◌, refl, ap, ◌∙◌}
use mathlib.Core.Bool.{Bool, true, false}
use mathlib.Core.List.{List, [], ◌∷◌, ◌++◌}
use Prim.Native.Nat.{ℕ, zero, suc, ◌*◌, ◌/◌, ◌%◌, ◌^◌, ◌<◌, ◌≤◌}
use native.Mathlib.Omega.{arith}
use lib.Dec.{ltb}
use lib.ListN.{length, length-append}
use borrow.Author.Tests.{ltb-false, lt-ltb, le-ltb}
use Rattle.rules.specs.Decimal.{digit, digits_by, digits, decimal}

-- ---- any number of digits that is enough gives the same
by_same : (b : Bool) (n : ℕ) (f g : ℕ → List ℕ) → ltb n 10 ≡ b → (10 ≤ n → f (n / 10) ≡ g (n / 10)) → digits_by b n f ≡ digits_by b n g
unfolding digits_by
by_same true n f g q h = refl
by_same false n f g q h = ap (λ l. l ++ digit (n % 10) ∷ []) (h (ltb-false n 10 q))

enough : (k j n : ℕ) → n < k → n < j → digits k n ≡ digits j n
unfolding digits
enough zero j n h g = absurd (omega arith)
enough (suc k) zero n h g = absurd (omega arith)
enough (suc k) (suc j) n h g = by_same (ltb n 10) n (λ m. digits k m) (λ m. digits j m) refl (λ large. enough k j (n / 10) (omega arith) (omega arith))

-- ---- the last digit
pub decimal_small : (n : ℕ) → n < 10 → decimal n ≡ digit n ∷ []
unfolding decimal digits_by
decimal_small n h = ap (λ b. digits_by b n (λ m. digits n m)) (lt-ltb n 10 h)

pub decimal_large : (n : ℕ) → 10 ≤ n → decimal n ≡ decimal (n / 10) ++ digit (n % 10) ∷ []
unfolding decimal digits_by
decimal_large n h =
    ap (λ b. digits_by b n (λ m. digits n m)) (le-ltb n 10 h) ∙ ap (λ l. l ++ digit (n % 10) ∷ []) (enough n (suc (n / 10)) (n / 10) (omega arith) (omega arith))

-- ---- how many there are
-- 10 to the power of k + 1
abbrev tens : ℕ → ℕ
tens zero = 10
tens (suc k) = 10 * tens k

by_le : (b : Bool) (n : ℕ) (f : ℕ → List ℕ) (k : ℕ) → ltb n 10 ≡ b → n < tens k → ((j : ℕ) → n / 10 < tens j → length (f (n / 10)) ≤ suc j)
    → length (digits_by b n f) ≤ suc k
unfolding digits_by
by_le true n f k q h le = omega arith
by_le false n f zero q h le = absurd (omega (arith, ltb-false n 10 q))
by_le false n f (suc k) q h le = omega (arith, length-append (f (n / 10)) (digit (n % 10) ∷ []), le k (omega arith))

digits_le : (f k n : ℕ) → n < tens k → length (digits f n) ≤ suc k
unfolding digits
digits_le zero k n h = omega arith
digits_le (suc f) k n h = by_le (ltb n 10) n (λ m. digits f m) k refl h (λ j less. digits_le f j (n / 10) less)

decimal_le : (k n : ℕ) → n < tens k → length (decimal n) ≤ suc k
unfolding decimal
decimal_le k n h = digits_le (suc n) k n h

-- a u64, a u32 and a u8
pub digits_of_u64 : (n : ℕ) → n < 2 ^ 64 → length (decimal n) ≤ 20
digits_of_u64 n h = decimal_le 19 n (omega arith)

pub digits_of_u32 : (n : ℕ) → n < 2 ^ 32 → length (decimal n) ≤ 10
digits_of_u32 n h = decimal_le 9 n (omega arith)

pub digits_of_u8 : (n : ℕ) → n < 2 ^ 8 → length (decimal n) ≤ 3
digits_of_u8 n h = decimal_le 2 n (omega arith)

-- The laws that answer the needs of `quotient` and `bucket_of`. In order: the products fit in a word; the remainder, where the quotient is q, and where it is one more. Assumes nothing.
use Rattle.std.proofs.Common.{◌≡◌, ℕ, ◌+◌, ◌-◌, ◌*◌, ◌/◌, ◌%◌, ◌^◌, ◌<◌, ◌≤◌, sym, refl, ap, ◌∙◌, mod-lt, mul-le-mul, arith, w64, Fits, rules}
use lib.Arith.{digits_mod}
use Rattle.lookup.specs.Buckets.{bucket_of}

-- a product of two numbers below 2^32
small_product : (a b : ℕ) → a < 4294967296 → b < 4294967296 → a * b < 18446744073709551616
small_product a b h l = let z : a * b ≤ 4294967295 * 4294967295 = mul-le-mul (let i : a ≤ 4294967295 = omega arith in i) (let j : b ≤ 4294967295 = omega arith in j) in omega arith

pub product_fits : (a b : ℕ) → a < 4294967296 → b < 4294967296 → Fits w64 (a * b)
product_fits a b h l = let z : a * b < 18446744073709551616 = small_product a b h l in omega arith

pub guess_fits : (x i : ℕ) → x < 4294967296 → Fits w64 (x * (i % 4294967296))
guess_fits x i h = product_fits x (i % 4294967296) h (mod-lt i (omega arith))

pub guess_small : (x i : ℕ) → x < 4294967296 → x * (i % 4294967296) / 4294967296 < 4294967296
guess_small x i h = let z : x * (i % 4294967296) < 18446744073709551616 = small_product x (i % 4294967296) h (mod-lt i (omega arith)) in omega arith

-- p and r + q * k agree modulo 2^64, and no sum of them here reaches 2^64: they are equal
no_wrap : (k p q r : ℕ) → k < 4294967296 → q < 4294967296 → r < 2 * k → (r + q * k) % 2 ^ 64 ≡ p → p ≡ r + q * k
no_wrap k p q r hk hq hr e =
    let z : (q + 2) * k ≤ 4294967297 * 4294967295 = mul-le-mul (let i : q + 2 ≤ 4294967297 = omega arith in i) (let j : k ≤ 4294967295 = omega arith in j) in
    let l : r + q * k < 2 ^ 64 = omega arith in
    let zero : 0 * 2 ^ 64 + (r + q * k) ≡ r + q * k = omega arith in
    sym e ∙ ap (λ (n : ℕ). n % 2 ^ 64) (sym zero) ∙ digits_mod 0 l

-- p = q * k + r with r < k
pub remainder : (k p q r : ℕ) → k < 4294967296 → q < 4294967296 → (r + q * k) % 2 ^ 64 ≡ p → r < k → r ≡ bucket_of k p
unfolding bucket_of
remainder k p q r hk hq e l = sym (ap (λ (n : ℕ). n % k) (let a : p ≡ r + q * k = no_wrap k p q r hk hq (omega arith) e in let b : p ≡ q * k + r = omega arith in b) ∙ digits_mod q l)

-- p = (q + 1) * k + s with s < k
pub remainder_next : (k p q r : ℕ) → k < 4294967296 → q < 4294967296 → (r + q * k) % 2 ^ 64 ≡ p → k ≤ r → r - k < k → r - k ≡ bucket_of k p
unfolding bucket_of
remainder_next k p q r hk hq e g l = sym (ap (λ (n : ℕ). n % k) (let a : p ≡ r + q * k = no_wrap k p q r hk hq (omega arith) e in let b : p ≡ (q + 1) * k + (r - k) = omega arith in b) ∙ digits_mod (q + 1) l)

pub divided : (k p : ℕ) → p % k ≡ bucket_of k p
unfolding bucket_of
divided k p = refl

pub ruleset laws = (product_fits, guess_fits, guess_small, remainder, remainder_next, divided, rules)

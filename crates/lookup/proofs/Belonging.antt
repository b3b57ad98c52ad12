-- The laws that answer the needs of `divisor_of`, `fold` and `belongs`. In order: the divisor; a folded number is small and has the same bucket; a number that is b more than a multiple of k. Assumes nothing.
use Rattle.std.proofs.Common.{◌≡◌, ℕ, ◌+◌, ◌*◌, ◌/◌, ◌%◌, ◌<◌, ◌≤◌, true, eqb, sym, refl, ap, ◌∙◌, mod-lt, mul_assoc, mul_comm, add-mul, mul-le-mul, div-add-mod', mul-add, div-mul-le_self, arith, w64, Fits, rules, eq-eqb}
use native.Mathlib.Nat.{mul-add-mod_self_right}
use lib.Arith.{digits_mod}
use Rattle.lookup.specs.declared.Divisor.{Divisor}
use Rattle.lookup.specs.Buckets.{bucket_of}
use Rattle.lookup.specs.Dividing.{Divides, DivisorOf, Folded}

-- THE DIVISOR
pub divisor_is : (k near far part : ℕ) → (0 < k) × (k ≤ 4096) → near ≡ 4194304 % k → far ≡ 17592186044416 % k → part ≡ 1099511627776 / k → DivisorOf k (record { k = k; near = near; far = far; part = part })
divisor_is k near far part h i j l = record { is = refl; divides = record { some = h.0; few = h.1; close = i; distant = j; share = rw l (div-mul-le_self 1099511627776 k) } }

pub divides_some : (d : Divisor) → Divides d → 0 < d.k
divides_some d h = h.some

-- A FOLDED NUMBER. Each digit counts less than k times
times_near : (d : Divisor) → Divides d → (a n : ℕ) → a ≤ n → a * d.near ≤ n * d.k
times_near d h a n l = let i : d.near < d.k = rw h.close (mod-lt 4194304 h.some) in mul-le-mul l (let j : d.near ≤ d.k = omega arith in j)

times_far : (d : Divisor) → Divides d → (a n : ℕ) → a ≤ n → a * d.far ≤ n * d.k
times_far d h a n l = let i : d.far < d.k = rw h.distant (mod-lt 17592186044416 h.some) in mul-le-mul l (let j : d.far ≤ d.k = omega arith in j)

module _ (d : Divisor) (h : Divides d) (x : ℕ) (f : Fits w64 x) where
  -- the digits
  high : x / 4194304 / 4194304 * d.far ≤ 1048576 * d.k
  high = times_far d h (x / 4194304 / 4194304) 1048576 (omega arith)

  middle : x / 4194304 % 4194304 * d.near ≤ 4194304 * d.k
  middle = times_near d h (x / 4194304 % 4194304) 4194304 (let l : x / 4194304 % 4194304 < 4194304 = mod-lt (x / 4194304) (omega arith) in omega arith)

  pub fold_high_fits : Fits w64 (x / 4194304 / 4194304 * d.far)
  fold_high_fits = let a : x / 4194304 / 4194304 * d.far ≤ 1048576 * d.k = high in let k : d.k ≤ 4096 = h.few in omega arith

  pub fold_middle_fits : Fits w64 (x / 4194304 % 4194304 * d.near)
  fold_middle_fits = let a : x / 4194304 % 4194304 * d.near ≤ 4194304 * d.k = middle in let k : d.k ≤ 4096 = h.few in omega arith

  fold_small : x / 4194304 / 4194304 * d.far + x / 4194304 % 4194304 * d.near + x % 4194304 ≤ 9437184 * d.k
  fold_small =
      let a : x / 4194304 / 4194304 * d.far ≤ 1048576 * d.k = high in
      let b : x / 4194304 % 4194304 * d.near ≤ 4194304 * d.k = middle in
      let c : x % 4194304 < 4194304 = mod-lt x (omega arith) in
      let s : 0 < d.k = h.some in
      omega arith

  pub fold_two_fit : Fits w64 (x / 4194304 / 4194304 * d.far + x / 4194304 % 4194304 * d.near)
  fold_two_fit = let a = fold_small in let k : d.k ≤ 4096 = h.few in omega arith

  pub fold_fits : Fits w64 (x / 4194304 / 4194304 * d.far + x / 4194304 % 4194304 * d.near + x % 4194304)
  fold_fits = let a = fold_small in let k : d.k ≤ 4096 = h.few in omega arith

-- it is x less a multiple of k: u times n is u times what n is more than a multiple of k, and a multiple of k
share : (n u k : ℕ) → u * (n / k) * k + u * (n % k) ≡ u * n
share n u k = ap (λ (z : ℕ). z + u * (n % k)) (mul_assoc u (n / k) k) ∙ sym (mul-add u (n / k * k) (n % k)) ∙ ap (λ (z : ℕ). u * z) (div-add-mod' n k)

digits : (k x : ℕ) → (x / 4194304 / 4194304 * (17592186044416 / k) + x / 4194304 % 4194304 * (4194304 / k)) * k + (x / 4194304 / 4194304 * (17592186044416 % k) + x / 4194304 % 4194304 * (4194304 % k) + x % 4194304) ≡ x
digits k x =
    let u : ℕ = x / 4194304 in
    let a : ℕ = u / 4194304 in
    let b : ℕ = u % 4194304 in
    let i : a * (17592186044416 / k) * k + a * (17592186044416 % k) ≡ a * 17592186044416 = share 17592186044416 a k in
    let j : b * (4194304 / k) * k + b * (4194304 % k) ≡ b * 4194304 = share 4194304 b k in
    let s : (a * (17592186044416 / k) + b * (4194304 / k)) * k ≡ a * (17592186044416 / k) * k + b * (4194304 / k) * k = add-mul (a * (17592186044416 / k)) (b * (4194304 / k)) k in
    let m : u * 4194304 + x % 4194304 ≡ x = div-add-mod' x 4194304 in
    let n : a * 4194304 + b ≡ u = div-add-mod' u 4194304 in
    omega arith

fold_same : (d : Divisor) → Divides d → (x : ℕ) → bucket_of d.k (x / 4194304 / 4194304 * d.far + x / 4194304 % 4194304 * d.near + x % 4194304) ≡ bucket_of d.k x
unfolding bucket_of
fold_same d h x =
    rw (h.close, h.distant)
    (sym (mul-add-mod_self_right (x / 4194304 / 4194304 * (17592186044416 / d.k) + x / 4194304 % 4194304 * (4194304 / d.k)) d.k (x / 4194304 / 4194304 * (17592186044416 % d.k) + x / 4194304 % 4194304 * (4194304 % d.k) + x % 4194304)) ∙ ap (λ (n : ℕ). n % d.k) (digits d.k x))

pub fold_is : (d : Divisor) (x : ℕ) → Divides d → Fits w64 x → Folded d x (x / 4194304 / 4194304 * d.far + x / 4194304 % 4194304 * d.near + x % 4194304)
fold_is d x h f = record { same = fold_same d h x; small = fold_small d h x f }

-- THE GUESS, for a folded number y
module _ (d : Divisor) (x y : ℕ) (h : Divides d) (s : Folded d x y) where
  guess_product : y * d.part ≤ 9437184 * 1099511627776
  guess_product =
      let z : y * d.part ≤ 9437184 * d.k * d.part = mul-le-mul s.small (let r : d.part ≤ d.part = omega arith in r) in
      let i : 9437184 * d.k * d.part ≡ 9437184 * (d.k * d.part) = mul_assoc 9437184 d.k d.part in
      let j : d.k * d.part ≡ d.part * d.k = mul_comm d.k d.part in
      let l : d.part * d.k ≤ 1099511627776 = h.share in
      omega arith

  pub guess_product_fits : Fits w64 (y * d.part)
  guess_product_fits = let z : y * d.part ≤ 9437184 * 1099511627776 = guess_product in omega arith

  guess_times : y * d.part / 1099511627776 * d.k ≤ 9437184 * 4096
  guess_times = mul-le-mul (let z : y * d.part ≤ 9437184 * 1099511627776 = guess_product in let r : y * d.part / 1099511627776 ≤ 9437184 = omega arith in r) h.few

  pub guess_times_fits : Fits w64 (y * d.part / 1099511627776 * d.k)
  guess_times_fits = let z = guess_times in omega arith

  pub guess_plus_fits : (b : ℕ) → b < d.k → Fits w64 (y * d.part / 1099511627776 * d.k + b)
  guess_plus_fits b l = let z = guess_times in let k : d.k ≤ 4096 = h.few in omega arith

-- a number that is b more than a multiple of k
over : (k b q x : ℕ) → b < k → q * k + b ≡ x → bucket_of k x ≡ b
unfolding bucket_of
over k b q x h e = ap (λ (n : ℕ). n % k) (sym e) ∙ digits_mod q h

pub hit : (d : Divisor) (b q x y : ℕ) → b < d.k → Folded d x y → q * d.k + b ≡ y → true ≡ eqb (bucket_of d.k x) b
hit d b q x y h s e = sym (eq-eqb (bucket_of d.k x) b (sym s.same ∙ over d.k b q y h e))

pub divided_hit : (k b x : ℕ) → eqb (x % k) b ≡ eqb (bucket_of k x) b
unfolding bucket_of
divided_hit k b x = refl

pub ruleset laws = (divisor_is, divides_some, fold_high_fits, fold_middle_fits, fold_two_fit, fold_fits, fold_is, guess_product_fits, guess_times_fits, guess_plus_fits, hit, divided_hit, rules)

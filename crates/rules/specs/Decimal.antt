-- Numbers in decimal. That `decimal n` is the one shortest run of digits that stands for n is a law (proofs/DecimalLaws). Assumes nothing.
use Rattle.std.specs.Prelude.{ℕ, zero, suc, ◌+◌, ◌/◌, ◌%◌, List, [], ◌∷◌, ◌++◌, Bool, true, false, ltb}

-- the digit of a number below ten, as a byte
abbrev pub digit : ℕ → ℕ
digit d = 0x30 + d

-- the digits of n, by whether it is below ten; `higher` gives those of n / 10
unfoldable pub digits_by : Bool → ℕ → (ℕ → List ℕ) → List ℕ
digits_by true n higher = digit n ∷ []
digits_by false n higher = higher (n / 10) ++ digit (n % 10) ∷ []

-- at most k digits
unfoldable pub digits : ℕ → ℕ → List ℕ
unfolding digits_by
digits zero n = []
digits (suc k) n = digits_by (ltb n 10) n (λ m. digits k m)

-- n has no more than n + 1 digits
unfoldable pub decimal : ℕ → List ℕ
unfolding digits
decimal n = digits (suc n) n

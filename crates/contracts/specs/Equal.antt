-- WHEN TWO OUTCOMES ON ONE AREA ARE THE SAME ("any two outcomes that it allows are equal", RULES 10.5). Assumes
-- nothing.
use Rattle.std.specs.Prelude.{◌≡◌, List, ℕ, length, drop}
use Rattle.contracts.specs.Policy.{Policy, reads}

-- As far as a writing is fixed (docs/EXCEPTIONS.md): what they give, a and b, of the code's own type; what the areas u
-- and v that they leave read as; their lengths, and the words from n on, which the cache does not need; and where
-- `Kept` holds, all words.
pub record Same (P : Policy) {A : Type 0} (n : ℕ) (Kept : Type 0) (u v : List ℕ) (a b : A) : Type 0 where
  pub answer : a ≡ b
  pub state : reads P u ≡ reads P v
  pub size : length u ≡ length v
  pub rest : drop n u ≡ drop n v
  pub kept : Kept → u ≡ v

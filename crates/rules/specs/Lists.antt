-- Words on lists that the rules use. Assumes nothing.
use Rattle.std.specs.Prelude.{ℕ, zero, suc, ◌+◌, List, [], ◌∷◌, Bool, true, false, cond, ltb, eqb}
use Rattle.std.proofs.Math.Option.{Option, some, none}

-- 1 where a test holds, else 0
abbrev pub one : Bool → ℕ
one true = 1
one false = 0

-- how often x stands in a list
abbrev pub times : ℕ → List ℕ → ℕ
times x [] = 0
times x (y ∷ l) = one (eqb x y) + times x l

-- x stands in a list
abbrev pub holds : ℕ → List ℕ → Bool
holds x l = ltb 0 (times x l)

-- x leaves a list; an absent x changes nothing
abbrev pub leave : ℕ → List ℕ → List ℕ
leave x [] = []
leave x (y ∷ l) = cond (eqb x y) (leave x l) (y ∷ leave x l)

module _ {A : Type 0} where
  -- a list without its last element; the empty list stays
  abbrev pub drop_last : List A → List A
  drop_last [] = []
  drop_last (x ∷ []) = []
  drop_last (x ∷ y ∷ l) = x ∷ drop_last (y ∷ l)

  -- the last element
  abbrev pub last : List A → Option A
  last [] = none
  last (x ∷ []) = some x
  last (x ∷ y ∷ l) = last (y ∷ l)

  -- each element has a property
  abbrev pub Each : (A → Type 0) → List A → Type 0
  Each P [] = Unit {0}
  Each P (x ∷ l) = P x × Each P l

-- n numbers from a on
abbrev pub count_from : ℕ → ℕ → List ℕ
count_from a zero = []
count_from a (suc n) = a ∷ count_from (suc a) n

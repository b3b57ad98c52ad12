-- Lists of cell numbers. Assumes nothing.
use Rattle.std.specs.Prelude.{◌≡◌, cond, List, [], ◌∷◌, ◌⊎◌, ℕ, zero, suc, ◌<◌, eqb}

-- e is one of xs
abbrev pub Mem : ℕ → List ℕ → Type 0
Mem e [] = ⊥
Mem e (x ∷ xs) = (e ≡ x) ⊎ Mem e xs

-- e is none of xs
abbrev pub Fresh : ℕ → List ℕ → Type 0
Fresh e [] = Unit {0}
Fresh e (x ∷ xs) = (e ≡ x → ⊥) × Fresh e xs

-- each of xs is below m
abbrev pub Below : ℕ → List ℕ → Type 0
Below m [] = Unit {0}
Below m (x ∷ xs) = (x < m) × Below m xs

-- no number stands twice in xs
abbrev pub Distinct : List ℕ → Type 0
Distinct [] = Unit {0}
Distinct (x ∷ xs) = Fresh x xs × Distinct xs

-- xs without the first e
abbrev pub without : ℕ → List ℕ → List ℕ
without e [] = []
without e (x ∷ xs) = cond (eqb x e) xs (x ∷ without e xs)

-- xs with e before the first f, or at the end where f is none of xs
abbrev pub insert_before : ℕ → ℕ → List ℕ → List ℕ
insert_before f e [] = e ∷ []
insert_before f e (x ∷ xs) = cond (eqb x f) (e ∷ x ∷ xs) (x ∷ insert_before f e xs)

-- xs with y for the first x
abbrev pub in_place_of : ℕ → ℕ → List ℕ → List ℕ
in_place_of x y [] = []
in_place_of x y (z ∷ zs) = cond (eqb z x) (y ∷ zs) (z ∷ in_place_of x y zs)

-- n numbers from a on, rising by one
abbrev pub up_from : ℕ → ℕ → List ℕ
up_from a zero = []
up_from a (suc n) = a ∷ up_from (suc a) n

-- the last of xs, or d where xs is empty; and xs without its last
abbrev pub last_of : ℕ → List ℕ → ℕ
last_of d [] = d
last_of d (x ∷ xs) = last_of x xs

abbrev pub without_last : List ℕ → List ℕ
without_last [] = []
without_last (x ∷ []) = []
without_last (x ∷ y ∷ xs) = x ∷ without_last (y ∷ xs)

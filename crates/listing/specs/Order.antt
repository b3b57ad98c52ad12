-- The slots of the residents in the order of a listing. Assumes nothing.
use Rattle.std.specs.Prelude.{cond, List, [], ◌∷◌, ◌++◌, ℕ, zero, suc, ◌+◌, ltb}
use Rattle.rules.specs.State.{Lists}
use Rattle.rules.specs.Car.{Car, Clocked, slots, taken}
use Rattle.rules.specs.declared.Kind.{Kind}
use Rattle.rules.specs.declared.Kind.TheVariants as kinds

-- the taken ones of n slots from k on; the first of them, or k + n
abbrev pub rising_from : Lists Clocked → ℕ → ℕ → List ℕ
rising_from s k zero = []
rising_from s k (suc n) = cond (ltb 0 (taken k s)) (k ∷ rising_from s (suc k) n) (rising_from s (suc k) n)

abbrev pub taken_from : Lists Clocked → ℕ → ℕ → ℕ
taken_from s k zero = k
taken_from s k (suc n) = cond (ltb 0 (taken k s)) k (taken_from s (suc k) n)

-- ARC by T1 and then T2, CAR by rising slot
unfoldable pub order : Kind → Car → List ℕ
order kinds.Arc s = slots s.lists.T1 ++ slots s.lists.T2
order kinds.Car s = rising_from s.lists 0 s.lists.c

-- the number that comes past the last slot of a listing; it is no slot
abbrev pub past : Kind → ℕ → ℕ
past kinds.Arc c = c + 1
past kinds.Car c = c

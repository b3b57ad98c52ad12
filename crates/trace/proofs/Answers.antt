-- The three answers of a check in lent words: fewer than three stay; of more, the first three are written. Assumes nothing.
use mathlib.Core.Path.{◌≡◌, refl}
use mathlib.Core.List.{List, [], ◌∷◌}
use Prim.Native.Nat.{ℕ, ◌<◌, ◌≤◌}
use native.Mathlib.Omega.{arith}
use lib.ListN.{length, set}
use borrow.Author.Rules.{rules}
use Rattle.trace.specs.Reading.{check_of, stop_number, told_into, room_in}
use Rattle.trace.specs.declared.Checked.{Checked}

pub few_told : (c : Checked) (w : List ℕ) → length w < 3 → w ≡ told_into c w
unfolding told_into
few_told c [] h = refl
few_told c (x ∷ []) h = refl
few_told c (x ∷ y ∷ []) h = refl
few_told c (x ∷ y ∷ z ∷ rest) h = absurd (let e : ⊥ = omega arith in e)

pub few_room : (w : List ℕ) → length w < 3 → 0 ≡ room_in w
unfolding room_in
few_room [] h = refl
few_room (x ∷ []) h = refl
few_room (x ∷ y ∷ []) h = refl
few_room (x ∷ y ∷ z ∷ rest) h = absurd (let e : ⊥ = omega arith in e)

pub all_told : (s : List ℕ) (c : Checked) (n : ℕ) (w : List ℕ)
    → c ≡ check_of s
    → n ≡ stop_number c.refusal
    → 3 ≤ length w
    → set (set (set w 0 c.operations) 1 n) 2 c.offset ≡ told_into (check_of s) w
unfolding told_into
all_told s c n [] e p h = absurd (let f : ⊥ = omega arith in f)
all_told s c n (x ∷ []) e p h = absurd (let f : ⊥ = omega arith in f)
all_told s c n (x ∷ y ∷ []) e p h = absurd (let f : ⊥ = omega arith in f)
all_told s c n (x ∷ y ∷ z ∷ rest) e p h = rw (p, e) refl

pub all_room : (w : List ℕ) → 3 ≤ length w → 1 ≡ room_in w
unfolding room_in
all_room [] h = absurd (let f : ⊥ = omega arith in f)
all_room (x ∷ []) h = absurd (let f : ⊥ = omega arith in f)
all_room (x ∷ y ∷ []) h = absurd (let f : ⊥ = omega arith in f)
all_room (x ∷ y ∷ z ∷ rest) h = refl

pub ruleset laws = (few_told, few_room, all_told, all_room, rules)

-- What the policies share of an insert (RULES 5): where the page is, the target, the ghost hit, and the choice of the
-- list to replace from. Assumes nothing.
use Rattle.std.specs.Prelude.{ℕ, ◌+◌, ◌-◌, ◌/◌, min, [], Bool, true, false, ◌&&◌, ◌||◌, ltb, eqb, length}
use Rattle.rules.specs.Lists.{holds}
use Rattle.rules.specs.State.{Lists, Side, first, second, set_target}
use Rattle.rules.specs.Calls.{Place, ghost, nowhere}
use Rattle.rules.specs.Ghosts.{remove_ghost}

-- "target starts at c/2 rounded down" (RULES 5.1)
abbrev pub start_target : ℕ → ℕ
start_target c = c / 2

-- all lists empty, with the target at its start
abbrev pub emptied : {X : Type 0} → ℕ → Lists X
emptied c = record { c = c; target = start_target c; T1 = []; T2 = []; B1 = []; B2 = [] }

-- ---- where a page that is no resident is: in B1, in B2, in neither
abbrev pub place : Bool → Bool → Place
place true b = ghost first
place false true = ghost second
place false false = nowhere

abbrev pub place_of : {X : Type 0} → ℕ → Lists X → Place
place_of x s = place (holds x s.B1) (holds x s.B2)

-- ---- the ghost hit
module _ {X : Type 0} where
  -- "The step of the target is always 1" (RULES 5.11), whatever the lengths of the ghost lists
  abbrev pub step_of : Side → Lists X → ℕ
  step_of i s = 1

  -- "In B1: target +1, at most c" (RULES 5.4), "In B2: target -1, at least 0" (RULES 5.5)
  abbrev pub aimed : Side → Lists X → ℕ
  aimed first s = min s.c (s.target + step_of first s)
  aimed second s = s.target - step_of second s

  -- the target moves, and "the page leaves B1" (RULES 5.4), or B2
  abbrev pub ghost_hit : Side → ℕ → Lists X → Lists X
  ghost_hit i x s = set_target (aimed i s) (remove_ghost i x s)

-- it is a "B2 hit"
abbrev pub is_b2 : Side → Bool
is_b2 first = false
is_b2 second = true

-- the list that the page then goes to: T2 after a ghost hit, T1 where it was in neither
abbrev pub goes_to : Place → Side
goes_to (ghost i) = second
goes_to nowhere = first

-- ---- the list to replace from
-- "from T1 if T1 is not empty and (T1 > target, or T1 = target on a B2 hit)" (RULES 5.7)
abbrev pub prefers_t1 : Bool → ℕ → ℕ → Bool
prefers_t1 b2Hit target t1 = ltb 0 t1 && (ltb target t1 || (eqb t1 target && b2Hit))

-- "otherwise from T2 if not empty; otherwise from T1" (RULES 5.7)
abbrev pub from_t1 : Bool → ℕ → ℕ → ℕ → Bool
from_t1 b2Hit target t1 t2 = prefers_t1 b2Hit target t1 || eqb t2 0

abbrev pub side : Bool → Side
side true = first
side false = second

abbrev pub turn : {X : Type 0} → Bool → Lists X → Side
turn b2Hit s = side (from_t1 b2Hit s.target (length s.T1) (length s.T2))

-- where the victim of a list is recorded: "in B1 or B2"
abbrev pub record_place : Side → Place
record_place i = ghost i

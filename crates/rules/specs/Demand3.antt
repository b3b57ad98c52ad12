-- WHAT DEMAND 3 SAYS, of CAR's states: the sum over any calls; a replacement; an insert that replaces. Assumes nothing.
use Rattle.std.specs.Prelude.{◌≡◌, cond, List, [], ◌∷◌, ◌++◌, ℕ, ◌+◌, ◌≤◌, eqb, replicate}
use Rattle.rules.specs.Lists.{one, times}
use Rattle.rules.specs.State.{pages, Lists, Side, first, second, residents, resident}
use Rattle.rules.specs.Calls.{Victim, nobody, out, Answer, See, No, seen_frame, Replaced, steps}
use Rattle.rules.specs.Counts.{Counts, hits, outs}
use Rattle.rules.specs.Car.{Clocked, Resident, Car, referenced}

-- "from any well-formed state with r0 referenced pages and over any calls: hand steps plus pages still referenced at
-- the end never exceed r0 plus hits plus evictions" (RULES 10.3): from the state s to the state t, with the counts n
abbrev pub Paid : Car → Counts → Car → Type 0
Paid s n t = n.steps + referenced t.lists ≤ referenced s.lists + hits n + n.evictions

-- ---- "Each replacement on a full cache with r referenced pages ends within r+1 steps, turns from the recent to the
-- frequent clock at most once and never back, and puts out exactly one page." (RULES 10.4)
-- how often a page stands among the residents; and whether it is a victim's
abbrev pub held : ℕ → Lists Clocked → ℕ
held y s = times y (pages s.T1) + times y (pages s.T2)

abbrev pub goes : ℕ → Victim → ℕ
goes y nobody = 0
goes y (out p g i) = one (eqb y p)

-- the same of a page y and a frame h
abbrev pub both : ℕ → ℕ → ℕ → ℕ → ℕ
both y h p g = cond (eqb y p) (one (eqb h g)) 0

abbrev pub in_frame : ℕ → ℕ → List Resident → ℕ
in_frame y h [] = 0
in_frame y h (e ∷ l) = both y h e.page e.frame + in_frame y h l

abbrev pub held_in : ℕ → ℕ → Lists Clocked → ℕ
held_in y h s = in_frame y h s.T1 + in_frame y h s.T2

abbrev pub goes_from : ℕ → ℕ → Victim → ℕ
goes_from y h nobody = 0
goes_from y h (out p g i) = both y h p g

-- the clocks that the steps stood at turn from the recent to the frequent one at most once and never back
abbrev pub TurnsOnce : List Side → Type 0
TurnsOnce l = (a : ℕ) × (b : ℕ) × (l ≡ replicate a first ++ replicate b second)

-- the replacement r of the state s
pub record Ends (s : Car) (r : Replaced Car) : Type 0 where
  pub within : steps r ≤ referenced s.lists + 1
  pub turns : TurnsOnce r.trail
  pub single : outs r.victim ≡ 1
  -- the victim leaves the residents and its frame, and no other page does
  pub others : (y : ℕ) → held y s.lists ≡ held y r.state.lists + goes y r.victim
  pub frames : (y h : ℕ) → held_in y h s.lists ≡ held_in y h r.state.lists + goes_from y h r.victim

-- ---- "puts out exactly one page" (RULES 10.4), of a whole insert
-- what `peek` answers: the page's frame, or that it is not resident
abbrev pub peeked : ℕ → Car → Answer
peeked y s = seen_frame (resident y s.lists)

-- an insert of the page x and the frame f, from the state s to the state t, that puts the page p out of the frame g
pub record OneOut (s t : Car) (x f p g : ℕ) : Type 0 where
  -- the cache was full, and is
  pub was_full : residents s.lists ≡ s.lists.c
  pub is_full_fact : residents t.lists ≡ s.lists.c
  -- the victim was resident in that frame, and is no longer
  pub was_in : peeked p s ≡ See g
  pub is_out : peeked p t ≡ No
  -- x was not, and is
  pub was_out : peeked x s ≡ No
  pub is_in : peeked x t ≡ See f
  -- and every other page is as it was, in its frame
  pub others : (y : ℕ) → (y ≡ p → ⊥) → (y ≡ x → ⊥) → peeked y t ≡ peeked y s

-- CAR (RULES 6; src/policy/car.rs): two clocks, recent (T1) and frequent (T2), each a sequence starting at its hand.
-- Assumes nothing.
use Rattle.std.specs.Prelude.{ℕ, zero, suc, ◌+◌, ◌≡◌, List, [], ◌∷◌, ◌++◌, map, Bool, true, false, cond, ltb, eqb, get_or, drop}
use Rattle.std.proofs.Math.Option.{Option, some, none}
use Rattle.rules.specs.Lists.{one, times, count_from}
use Rattle.rules.specs.State.{Entry, entry, with_frame, Lists, Side, second, list, set_list, full, resident, leaves, changed_in, Sound, Ranged}
use Rattle.rules.specs.Calls.{Call, Get, Insert, Remove, Clear, Ask, Place, ghost, nowhere, nobody, out, Record, record_of, Hit, Miss, New, Old, None, Gone, Absent, Cleared, Done, done, asked, Replaced, replaced, steps, replace_if}
use Rattle.rules.specs.Ghosts.{record_in}
use Rattle.rules.specs.Stages.{emptied, place_of, ghost_hit, is_b2, goes_to, turn, record_place}

-- "each resident has a reference bit and a slot" (RULES 6.1)
pub record Clocked : Type 0 where
  pub slot : ℕ
  pub bit : Bool

abbrev pub clocked : ℕ → Bool → Clocked
clocked k b = record { slot = k; bit = b }

abbrev pub Resident : Type 0
Resident = Entry Clocked

abbrev pub with_bit : Bool → Resident → Resident
with_bit b e = entry e.page e.frame (clocked e.more.slot b)

abbrev pub slots : List Resident → List ℕ
slots l = map (λ e. e.more.slot) l

-- how many are referenced
abbrev pub marks : List Resident → ℕ
marks [] = 0
marks (e ∷ l) = one e.more.bit + marks l

-- the lists, and the free slots in the order in which they will be taken, the top of the stack first
pub record Car : Type 0 where
  pub lists : Lists Clocked
  pub free : List ℕ

abbrev pub car : Lists Clocked → List ℕ → Car
car l f = record { lists = l; free = f }

-- the referenced pages of a state
abbrev pub referenced : Lists Clocked → ℕ
referenced s = marks s.T1 + marks s.T2

-- ---- state rules: "for CAR every resident has a slot below c of its own and the free slots are exactly the others,
-- in a stated order" (RULES 2.8)
-- how often a slot stands among the residents' slots
abbrev pub taken : ℕ → Lists Clocked → ℕ
taken k s = times k (slots s.T1) + times k (slots s.T2)

-- Each number below c stands once among the residents' slots and the free ones, and no other number does.
pub record Obeys (s : Car) : Type 0 where
  pub sound : Sound s.lists
  pub slotted : (k : ℕ) → taken k s.lists + times k s.free ≡ one (ltb k s.lists.c)

pub record WellFormed (s : Car) : Type 0 where
  pub obeys : Obeys s
  pub ranged : Ranged s.lists

-- the free slots are "0, 1, 2 and so on after `new` and `clear`" (RULES 6.4)
unfoldable pub new : ℕ → Car
new c = car (emptied c) (count_from 0 c)

-- ---- hits: "set the bit; nothing moves; the update takes the new frame and returns the old one" (RULES 6.3)
unfoldable pub touched : ℕ → (Resident → Resident) → Car → Car
touched x g s = car (changed_in x g s.lists) s.free

unfoldable pub got : Option Resident → Car → Done Car
unfolding touched
got none s = done Miss s
got (some e) s = done (Hit e.frame) (touched e.page (with_bit true) s)

-- ---- the replacement step: "choose the clock by ARC's test, with recent as T1" (RULES 6.7)
-- what stands at the hand of the chosen clock, and the rest of that clock
pub data Hand : Type 0 where
  empty : Hand
  at : Side → Resident → List Resident → Hand

abbrev pub hand_of : Side → List Resident → Hand
hand_of i [] = empty
hand_of i (e ∷ rest) = at i e rest

abbrev pub hand : Bool → Lists Clocked → Hand
hand b2Hit s = let i = turn b2Hit s in hand_of i (list i s)

-- the end of the recent or the frequent clock
abbrev pub at_end : Side → Resident → Lists Clocked → Lists Clocked
at_end i e s = set_list i (list i s ++ e ∷ []) s

-- "Recent and referenced: clear the bit, move to the end of frequent. Frequent and referenced: clear, move to its own
-- end." (RULES 6.8)
abbrev pub passed : Side → Resident → List Resident → Car → Car
passed i e rest s = car (at_end second (with_bit false e) (set_list i rest s.lists)) s.free

-- "Unreferenced: evict, record the page in that clock's ghost list, done." (RULES 6.9) The freed slot goes on top.
abbrev pub evicted : Side → Resident → List Resident → Car → Replaced Car
evicted i e rest s =
    let p = record_place i in
    replaced (out e.page e.frame p) (i ∷ []) (car (record_in p e.page (set_list i rest s.lists)) (e.more.slot ∷ s.free))

-- a step at a clock, and then a replacement
abbrev pub step_then : Side → Replaced Car → Replaced Car
step_then i r = replaced r.victim (i ∷ r.trail) r.state

-- a step, by the bit of the resident at the hand; `on` is what follows a step that evicts nobody
unfoldable pub step_by : Bool → Side → Resident → List Resident → (Car → Replaced Car) → Car → Replaced Car
step_by false i e rest on s = evicted i e rest s
step_by true i e rest on s = step_then i (on (passed i e rest s))

unfoldable pub step : Hand → (Car → Replaced Car) → Car → Replaced Car
unfolding step_by
step empty on s = replaced nobody [] s
step (at i e rest) on s = step_by e.more.bit i e rest on s

-- the last step, with no resident referenced: whoever is at the hand goes
unfoldable pub last_step : Hand → Car → Replaced Car
last_step empty s = replaced nobody [] s
last_step (at i e rest) s = evicted i e rest s

-- The sweep, with r residents referenced. Each step that evicts nobody clears a bit, so r falls. That the number r does not matter is a law:
-- a replacement is a step, followed where that evicts nobody by a replacement (proofs/Trail, `replace_is`).
unfoldable pub sweep : ℕ → Bool → Car → Replaced Car
unfolding step last_step
sweep zero b2Hit s = last_step (hand b2Hit s.lists) s
sweep (suc r) b2Hit s = step (hand b2Hit s.lists) (λ t. sweep r b2Hit t) s

unfoldable pub replace : Bool → Car → Replaced Car
unfolding sweep
replace b2Hit s = sweep (referenced s.lists) b2Hit s

-- ---- insert
-- "Miss: replace if full, recent clock. No further ghost trimming." (RULES 6.6)
unfoldable pub missed : Car → Replaced Car
unfolding replace
missed s = replace_if (full s.lists) (replace false) s

-- "Ghost hits: as ARC's target rule, page removed from the ghost list, replace if full, page into the frequent clock."
-- (RULES 6.5)
unfoldable pub room_for : Place → ℕ → Car → Replaced Car
unfolding replace missed
room_for (ghost i) x s = let h = ghost_hit i x s.lists in replace_if (full h) (replace (is_b2 i)) (car h s.free)
room_for nowhere x s = missed s

-- "A new page: bit clear, end of its clock, slot from the top of the free stack" (RULES 6.4)
unfoldable pub admitted : Side → ℕ → ℕ → Car → Car
admitted i x f s = car (at_end i (entry x f (clocked (get_or s.free 0 0) false)) s.lists) (drop 1 s.free)

unfoldable pub insert_at : Place → ℕ → ℕ → Car → Done Car
unfolding room_for admitted
insert_at p x f s = let r = room_for p x s in done (New r.victim (steps r)) (admitted (goes_to p) x f r.state)

-- "Insert, c = 0: not stored, as ARC." (RULES 6.2)
unfoldable pub inserted : Bool → Option Resident → ℕ → ℕ → Car → Done Car
unfolding insert_at touched
inserted true r x f s = done None s
inserted false (some e) x f s = done (Old e.frame) (touched x (λ r. with_bit true (with_frame f r)) s)
inserted false none x f s = insert_at (place_of x s.lists) x f s

-- "Remove and clear as ARC; remove pushes the slot." (RULES 6.11)
unfoldable pub removed : Option Resident → Car → Done Car
removed none s = done Absent s
removed (some e) s = done (Gone e.frame) (car (leaves e.page s.lists) (e.more.slot ∷ s.free))

-- ---- listings: "CAR by rising slot" (RULES 7.2)
-- the resident of slot k, if there is one, before r
abbrev pub at_slot : ℕ → List Resident → List Record → List Record
at_slot k [] r = r
at_slot k (e ∷ l) r = cond (eqb k e.more.slot) (record_of e ∷ r) (at_slot k l r)

-- the residents of n slots from k on
unfoldable pub by_slot : ℕ → ℕ → List Resident → List Record
by_slot k zero l = []
by_slot k (suc n) l = at_slot k l (by_slot (suc k) n l)

unfoldable pub listing : Car → List Record
unfolding by_slot
listing s = by_slot 0 s.lists.c (s.lists.T1 ++ s.lists.T2)

-- ---- the calls
unfoldable pub does : Call → Car → Done Car
unfolding got inserted removed new asked
does (Get x) s = got (resident x s.lists) s
does (Insert x f) s = inserted (eqb s.lists.c 0) (resident x s.lists) x f s
does (Remove x) s = removed (resident x s.lists) s
does Clear s = done Cleared (new s.lists.c)
does (Ask q) s = done (asked q s.lists) s

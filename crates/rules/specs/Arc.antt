-- ARC (RULES 5; src/policy/arc.rs): lists T1, T2, newest first; ghosts B1, B2. Assumes nothing.
use Rattle.std.specs.Prelude.{ℕ, ◌+◌, ◌*◌, ◌≤◌, List, [], ◌∷◌, ◌++◌, map, Bool, true, false, leb, eqb, length}
use Rattle.std.proofs.Math.Option.{Option, some, none}
use Rattle.rules.specs.Lists.{drop_last, last}
use Rattle.rules.specs.State.{Entry, entry, with_frame, Lists, Side, first, second, list, set_list, in_all, full, resident, leaves, Sound, Ranged}
use Rattle.rules.specs.Calls.{Call, Get, Insert, Remove, Clear, Ask, Place, ghost, nowhere, nobody, out, Record, record_of, Hit, Miss, New, Old, None, Gone, Absent, Cleared, Done, done, asked, Replaced, replaced, steps, replace_if}
use Rattle.rules.specs.Ghosts.{record_in, drop_oldest}
use Rattle.rules.specs.Stages.{emptied, place_of, ghost_hit, is_b2, goes_to, turn, record_place}

-- ARC keeps nothing more of a resident than its page and frame.
abbrev pub Plain : Type 0
Plain = Unit {0}

abbrev pub Arc : Type 0
Arc = Lists Plain

abbrev pub Resident : Type 0
Resident = Entry Plain

-- ---- state rules: "for ARC also T1+B1 <= c+1 and all four lists together <= 2c+1" (RULES 2.7)
pub record Obeys (s : Arc) : Type 0 where
  pub sound : Sound s
  pub rows : length s.T1 + length s.B1 ≤ s.c + 1
  pub all : in_all s ≤ 2 * s.c + 1

pub record WellFormed (s : Arc) : Type 0 where
  pub obeys : Obeys s
  pub ranged : Ranged s

unfoldable pub new : ℕ → Arc
new c = emptied c

-- the front of T1 or T2
abbrev pub pushed : Side → Resident → Arc → Arc
pushed i e s = set_list i (e ∷ list i s) s

-- "it moves to the front of T2" (RULES 5.2)
unfoldable pub to_front : Resident → Arc → Arc
to_front e s = pushed second e (leaves e.page s)

-- "Get of a resident: it moves to the front of T2. A miss changes nothing." (RULES 5.2)
unfoldable pub got : Option Resident → Arc → Done Arc
unfolding to_front
got none s = done Miss s
got (some e) s = done (Hit e.frame) (to_front e s)

-- ---- replace: from T1 or T2 by the test. "The oldest leaves and is recorded in B1 or B2. One step." (RULES 5.8)
unfoldable pub put_out : Option Resident → Side → Arc → Replaced Arc
put_out none i s = replaced nobody [] s
put_out (some e) i s =
    let p = record_place i in
    replaced (out e.page e.frame p) (i ∷ []) (record_in p e.page (set_list i (drop_last (list i s)) s))

unfoldable pub replace : Bool → Arc → Replaced Arc
unfolding put_out
replace b2Hit s = let i = turn b2Hit s in put_out (last (list i s)) i s

-- ---- a page in neither ghost list
-- "if T1+B1 >= c, drop B1's oldest if any; otherwise, if all four lists total >= 2c, drop B2's oldest" (RULES 5.6)
unfoldable pub trim_by : Bool → Bool → Arc → Arc
trim_by true b s = drop_oldest first s
trim_by false true s = drop_oldest second s
trim_by false false s = s

unfoldable pub trimmed : Arc → Arc
unfolding trim_by
trimmed s = trim_by (leb s.c (length s.T1 + length s.B1)) (leb (2 * s.c) (in_all s)) s

-- "Then, if residents >= c, replace." (RULES 5.6)
unfoldable pub missed : Arc → Replaced Arc
unfolding replace trimmed
missed s = let t = trimmed s in replace_if (full t) (replace false) t

-- ---- insert
-- what comes before the page's entry, by where the page is
unfoldable pub room_for : Place → ℕ → Arc → Replaced Arc
unfolding replace missed
room_for (ghost i) x s = let h = ghost_hit i x s in replace_if (full h) (replace (is_b2 i)) h
room_for nowhere x s = missed s

-- "The page goes to the front of T1" (RULES 5.6), or of T2.
unfoldable pub admitted : Side → ℕ → ℕ → Arc → Arc
admitted i x f s = pushed i (entry x f tt) s

unfoldable pub insert_at : Place → ℕ → ℕ → Arc → Done Arc
unfolding room_for admitted
insert_at p x f s = let r = room_for p x s in done (New r.victim (steps r)) (admitted (goes_to p) x f r.state)

-- "Insert, c = 0: not stored. Resident: new frame, old one returned, front of T2." (RULES 5.3)
unfoldable pub inserted : Bool → Option Resident → ℕ → ℕ → Arc → Done Arc
unfolding insert_at to_front
inserted true r x f s = done None s
inserted false (some e) x f s = done (Old e.frame) (to_front (with_frame f e) s)
inserted false none x f s = insert_at (place_of x s) x f s

-- "Remove: the resident leaves; no ghost is touched." (RULES 5.9)
unfoldable pub removed : Option Resident → Arc → Done Arc
removed none s = done Absent s
removed (some e) s = done (Gone e.frame) (leaves e.page s)

-- ---- listings: "ARC lists T1 newest to oldest, then T2 the same way" (RULES 7.2)
abbrev pub listing : Arc → List Record
listing s = map record_of (s.T1 ++ s.T2)

-- ---- the calls. "Clear: all lists empty, target c/2." (RULES 5.10) "`peek` and `contains` change nothing."
-- (RULES 5.2)
unfoldable pub does : Call → Arc → Done Arc
unfolding got inserted removed new asked
does (Get x) s = got (resident x s) s
does (Insert x f) s = inserted (eqb s.c 0) (resident x s) x f s
does (Remove x) s = removed (resident x s) s
does Clear s = done Cleared (new s.c)
does (Ask q) s = done (asked q s) s

-- What each operation of a store does to the state that the area reads as, in the words of the rules. Assumes nothing.
--
-- Slots name residents here: `resident_at` is the resident of a slot. The rules name them by page.
use Rattle.std.specs.Prelude.{Bool, false, cond, List, [], ◌∷◌, ◌++◌, ℕ, eqb, get_or, drop}
use Rattle.rules.specs.State.{entry, with_frame, list, set_list, set_target, leaves, changed_in}
use Rattle.rules.specs.declared.Side.{Side}
use Rattle.rules.specs.declared.Side.TheVariants.{Second as second}
use Rattle.rules.specs.Calls.{ghost}
use Rattle.rules.specs.Ghosts.{record_in, remove_ghost}
use Rattle.rules.specs.Car.{Car, car, clocked, Resident, with_bit, at_end}

-- the resident of slot k, or, where there is none, one of no page
abbrev pub no_resident : Resident
no_resident = entry 0 0 (clocked 0 false)

abbrev pub at_slot : ℕ → List Resident → Resident
at_slot k [] = no_resident
at_slot k (e ∷ l) = cond (eqb k e.more.slot) e (at_slot k l)

unfoldable pub resident_at : ℕ → Car → Resident
resident_at k s = at_slot k (s.lists.T1 ++ s.lists.T2)

-- its frame, or its bit, is set where it stands
unfoldable pub framed_at : ℕ → ℕ → Car → Car
framed_at k f s = car (changed_in (resident_at k s).page (with_frame f) s.lists) s.free

unfoldable pub marked_at : ℕ → Bool → Car → Car
marked_at k b s = car (changed_in (resident_at k s).page (with_bit b) s.lists) s.free

unfoldable pub aimed_at : ℕ → Car → Car
aimed_at t s = car (set_target t s.lists) s.free

-- it comes to the front of T2; it goes to the end of T2 with its bit cleared
unfoldable pub fronted_at : ℕ → Car → Car
fronted_at k s =
    let e = resident_at k s in
    let l = leaves e.page s.lists in
    car (set_list second (e ∷ l.T2) l) s.free

unfoldable pub ended_at : ℕ → Car → Car
ended_at k s =
    let e = resident_at k s in
    car (at_end second (with_bit false e) (leaves e.page s.lists)) s.free

-- it leaves, and its slot is the top free one
unfoldable pub removed_at : ℕ → Car → Car
removed_at k s = car (leaves (resident_at k s).page s.lists) (k ∷ s.free)

-- it leaves, and its page is recorded in a ghost list
unfoldable pub evicted_at : Side → ℕ → Car → Car
evicted_at i k s =
    let x = (resident_at k s).page in
    car (record_in (ghost i) x (leaves x s.lists)) (k ∷ s.free)

-- the page x leaves a ghost list
unfoldable pub forgot_at : Side → ℕ → Car → Car
forgot_at i x s = car (remove_ghost i x s.lists) s.free

-- a new resident in the top free slot, at the front or at the end of a list
unfoldable pub new_resident : ℕ → ℕ → Bool → Car → Resident
new_resident x f b s = entry x f (clocked (get_or s.free 0 0) b)

unfoldable pub entered_at_front : Side → ℕ → ℕ → Bool → Car → Car
entered_at_front i x f b s = car (set_list i (new_resident x f b s ∷ list i s.lists) s.lists) (drop 1 s.free)

unfoldable pub entered_at_end : Side → ℕ → ℕ → Bool → Car → Car
entered_at_end i x f b s = car (at_end i (new_resident x f b s) s.lists) (drop 1 s.free)

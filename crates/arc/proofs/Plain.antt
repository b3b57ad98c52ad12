-- ARC's view of a state: what a store's operation does to the state, the rule's stage does to the view. In order: the lists; what is read of the
-- state; what is done to it. Assumes nothing.
use mathlib.Core.Path.{◌≡◌, refl, sym, ap, ◌∙◌}
use mathlib.Core.Bool.{Bool, true, false, cond}
use mathlib.Core.Option.{Option, some, none}
use mathlib.Core.List.{List, [], ◌∷◌, ◌++◌, map, map-append}
use Prim.Native.Nat.{ℕ}
use lib.Dec.{eqb}
use lib.ListN.{length-map}
use Rattle.rules.specs.Lists.{last}
use Rattle.rules.specs.State.{Entry, pages, found, without, list, resident, residents, leaves, seen, full, Sound}
use Rattle.rules.specs.declared.Side.{Side}
use Rattle.rules.specs.declared.Side.TheVariants.{First as first, Second as second}
use Rattle.rules.specs.Calls.{Question, Peek, Contains, Len, Capacity, Target, T1Len, T2Len, B1Len, B2Len, Listing, ghost, seen_frame, is_there, Holds, asked}
use Rattle.rules.specs.Ghosts.{record_in, drop_oldest}
use Rattle.rules.specs.Stages.{ghost_hit, turn}
use Rattle.rules.specs.Arc.{Plain, to_front, admitted}
use Rattle.rules.specs.Car.{Car, Resident}
use Rattle.area_state.specs.States.{resident_at, fronted_at, removed_at, evicted_at, entered_at_front, new_resident}
use Rattle.area.specs.Stored.{plainly, arc_of}
use Rattle.store.specs.Store.{dropped_at}
use Rattle.stages.specs.Common.{hit_at}

-- ---- the lists
unfoldable pub plainly_if : Option Resident → Option (Entry Plain)
plainly_if none = none
plainly_if (some e) = some (plainly e)

found_plainly : (x : ℕ) (l : List Resident) → found x (map plainly l) ≡ plainly_if (found x l)
unfolding plainly_if
found_plainly x [] = refl
found_plainly x (e ∷ l) = go (found_plainly x l) (eqb x e.page)
  where
    go : found x (map plainly l) ≡ plainly_if (found x l) → (b : Bool) → cond b (some (plainly e)) (found x (map plainly l)) ≡ plainly_if (cond b (some e) (found x l))
    go h true = refl
    go h false = h

pub without_plainly : (x : ℕ) (l : List Resident) → without x (map plainly l) ≡ map plainly (without x l)
without_plainly x [] = refl
without_plainly x (e ∷ l) = go (without_plainly x l) (eqb x e.page)
  where
    go : without x (map plainly l) ≡ map plainly (without x l) → (b : Bool) → cond b (without x (map plainly l)) (plainly e ∷ without x (map plainly l)) ≡ map plainly (cond b (without x l) (e ∷ without x l))
    go h true = h
    go h false = ap (λ (k : List (Entry Plain)). plainly e ∷ k) h

pub last_plainly : (l : List Resident) → last (map plainly l) ≡ plainly_if (last l)
unfolding plainly_if
last_plainly [] = refl
last_plainly (e ∷ []) = refl
last_plainly (e ∷ d ∷ l) = last_plainly (d ∷ l)

pages_plainly : (l : List Resident) → pages (map plainly l) ≡ pages l
pages_plainly [] = refl
pages_plainly (e ∷ l) = ap (λ (k : List ℕ). e.page ∷ k) (pages_plainly l)

-- ---- what is read of the state
pub resident_plainly : (x : ℕ) (s : Car) → resident x (arc_of s) ≡ plainly_if (resident x s.lists)
unfolding arc_of
resident_plainly x s = ap (found x) (sym (map-append plainly s.lists.T1 s.lists.T2)) ∙ found_plainly x (s.lists.T1 ++ s.lists.T2)

pub here : (x : ℕ) (s : Car) (e : Resident) → resident x s.lists ≡ some e → resident x (arc_of s) ≡ some (plainly e)
unfolding plainly_if
here x s e q = resident_plainly x s ∙ ap plainly_if q

pub away : (x : ℕ) (s : Car) → resident x s.lists ≡ none → resident x (arc_of s) ≡ none
unfolding plainly_if
away x s q = resident_plainly x s ∙ ap plainly_if q

pub list_plainly : (i : Side) (s : Car) → list i (arc_of s) ≡ map plainly (list i s.lists)
unfolding arc_of
list_plainly first s = refl
list_plainly second s = refl

pub residents_plainly : (s : Car) → residents (arc_of s) ≡ residents s.lists
unfolding arc_of
residents_plainly s = rw (length-map s.lists.T1 plainly, length-map s.lists.T2 plainly) refl

pub full_plainly : (s : Car) → full (arc_of s) ≡ full s.lists
unfolding arc_of
full_plainly s = rw (length-map s.lists.T1 plainly, length-map s.lists.T2 plainly) refl

pub turn_plainly : (hit : Bool) (s : Car) → turn hit (arc_of s) ≡ turn hit s.lists
unfolding arc_of
turn_plainly hit s = rw (length-map s.lists.T1 plainly, length-map s.lists.T2 plainly) refl

pub seen_plainly : (x : ℕ) (s : Car) → seen x (arc_of s) ≡ seen x s.lists
unfolding arc_of
seen_plainly x s = rw (pages_plainly s.lists.T1, pages_plainly s.lists.T2) refl

pub sound_plainly : (s : Car) → Sound s.lists → Sound (arc_of s)
unfolding arc_of
sound_plainly s h = record {
  distinct = λ x. rw (pages_plainly s.lists.T1, pages_plainly s.lists.T2) (h.distinct x);
  room = rw (length-map s.lists.T1 plainly, length-map s.lists.T2 plainly) h.room;
  ghosts1 = h.ghosts1;
  ghosts2 = h.ghosts2;
  aim = h.aim;
}

seen_frame_lem : (o : Option Resident) → seen_frame (plainly_if o) ≡ seen_frame o
unfolding plainly_if
seen_frame_lem none = refl
seen_frame_lem (some e) = refl

is_there_lem : (o : Option Resident) → is_there (plainly_if o) ≡ is_there o
unfolding plainly_if
is_there_lem none = refl
is_there_lem (some e) = refl

pub asked_plainly : (q : Question) (s : Car) → asked q (arc_of s) ≡ asked q s.lists
unfolding asked arc_of
asked_plainly (Peek x) s = ap seen_frame (resident_plainly x s) ∙ seen_frame_lem (resident x s.lists)
asked_plainly (Contains x) s = ap (λ (o : Option (Entry Plain)). Holds (is_there o)) (resident_plainly x s) ∙ ap Holds (is_there_lem (resident x s.lists))
asked_plainly Len s = rw (length-map s.lists.T1 plainly, length-map s.lists.T2 plainly) refl
asked_plainly Capacity s = refl
asked_plainly Target s = refl
asked_plainly T1Len s = rw (length-map s.lists.T1 plainly) refl
asked_plainly T2Len s = rw (length-map s.lists.T2 plainly) refl
asked_plainly B1Len s = refl
asked_plainly B2Len s = refl
asked_plainly (Listing n) s = rw (length-map s.lists.T1 plainly, length-map s.lists.T2 plainly) refl

-- ---- what is done to it
pub fronted_plainly : (k : ℕ) (s : Car) → arc_of (fronted_at k s) ≡ to_front (plainly (resident_at k s)) (arc_of s)
unfolding arc_of fronted_at to_front
fronted_plainly k s = rw (without_plainly (resident_at k s).page s.lists.T1, without_plainly (resident_at k s).page s.lists.T2) refl

pub removed_plainly : (k : ℕ) (s : Car) → arc_of (removed_at k s) ≡ leaves (resident_at k s).page (arc_of s)
unfolding arc_of removed_at
removed_plainly k s = rw (without_plainly (resident_at k s).page s.lists.T1, without_plainly (resident_at k s).page s.lists.T2) refl

pub evicted_plainly : (i : Side) (k : ℕ) (s : Car) → arc_of (evicted_at i k s) ≡ record_in (ghost i) (resident_at k s).page (leaves (resident_at k s).page (arc_of s))
unfolding arc_of evicted_at
evicted_plainly first k s = rw (without_plainly (resident_at k s).page s.lists.T1, without_plainly (resident_at k s).page s.lists.T2) refl
evicted_plainly second k s = rw (without_plainly (resident_at k s).page s.lists.T1, without_plainly (resident_at k s).page s.lists.T2) refl

pub entered_plainly : (i : Side) (x f : ℕ) (b : Bool) (s : Car) → arc_of (entered_at_front i x f b s) ≡ admitted i x f (arc_of s)
unfolding arc_of entered_at_front new_resident admitted
entered_plainly first x f b s = refl
entered_plainly second x f b s = refl

pub dropped_plainly : (i : Side) (s : Car) → arc_of (dropped_at i s) ≡ drop_oldest i (arc_of s)
unfolding arc_of dropped_at
dropped_plainly first s = refl
dropped_plainly second s = refl

pub hit_plainly : (i : Side) (x : ℕ) (s : Car) → arc_of (hit_at i x s) ≡ ghost_hit i x (arc_of s)
unfolding arc_of
hit_plainly first x s = refl
hit_plainly second x s = refl

-- What the rules of both policies have in common. Assumes nothing.
use mathlib.Core.Path.{◌≡◌}
use mathlib.Core.Bool.{Bool, false}
use mathlib.Core.Option.{some, none}
use Prim.Native.Nat.{ℕ, ◌<◌, ◌≤◌}
use Rattle.rules.specs.State.{with_frame, residents, resident, seen, full}
use Rattle.rules.specs.declared.Side.{Side}
use Rattle.rules.specs.Calls.{Call, Get, Insert, Remove, Clear, Ask, Question, Place, ghost, InRange, Hit, Miss, None, Old, Gone, Absent, Cleared, done, asked, replace_if}
use Rattle.rules.specs.Stages.{place_of, goes_to}
use Rattle.rules.specs.Car.{Car, new}
use Rattle.area_state.specs.States.{resident_at, framed_at, removed_at}
use Rattle.contracts.specs.Policy.{Policy}
use Rattle.stages.specs.Common.{hit_at}
use Rattle.stages.specs.Stages.{of_b2, entered, Stages}

-- ---- the laws
pub record Lawful (P : Policy) (S : Stages P) : Type 0 where
  pub closed : (k : Call) (s : P.State) → InRange k → P.WellFormed s → P.WellFormed (P.does k s).state
  pub asks : (q : Question) (s : Car) → (P.does (Ask q) (P.view s)).answer ≡ asked q s.lists
  pub misses : (x : ℕ) (s : Car) → resident x s.lists ≡ none → P.does (Get x) (P.view s) ≡ done Miss (P.view s)
  pub absent : (x : ℕ) (s : Car) → resident x s.lists ≡ none → P.does (Remove x) (P.view s) ≡ done Absent (P.view s)
  pub clears : (s : Car) → P.does Clear (P.view s) ≡ done Cleared (P.view (new s.lists.c))
  -- the resident of slot e
  pub hits : (x e : ℕ) (s : Car) → resident x s.lists ≡ some (resident_at e s) → P.does (Get x) (P.view s) ≡ done (Hit (resident_at e s).frame) (P.view (S.touched e s))
  pub removes : (x e : ℕ) (s : Car) → resident x s.lists ≡ some (resident_at e s) → (resident_at e s).more.slot ≡ e → P.does (Remove x) (P.view s) ≡ done (Gone (resident_at e s).frame) (P.view (removed_at e s))
  -- an insert where c = 0, of a resident, and of a page in the place p
  pub nothing : (x f : ℕ) (s : Car) → s.lists.c ≡ 0 → P.does (Insert x f) (P.view s) ≡ done None (P.view s)
  pub updates : (x f e : ℕ) (s : Car) → (s.lists.c ≡ 0 → ⊥) → resident x s.lists ≡ some (resident_at e s) → P.does (Insert x f) (P.view s) ≡ S.updated e f s
  pub inserts : (x f : ℕ) (p : Place) (s : Car) → (s.lists.c ≡ 0 → ⊥) → resident x s.lists ≡ none → place_of x s.lists ≡ p
      → P.does (Insert x f) (P.view s) ≡ entered (S.admitted (goes_to p) x f) (S.made (of_b2 p) (S.ready p x (P.view s)))
  -- its stages, by what the store did: an update; a ghost hit; "replace if full"; a replacement, after which every page is in no more lists; the entry
  pub frames : (e f : ℕ) (s : Car) → resident_at e (framed_at e f s) ≡ with_frame f (resident_at e s) → done (Old (resident_at e s).frame) (P.view (S.touched e (framed_at e f s))) ≡ S.updated e f s
  pub returns : (i : Side) (x : ℕ) (s : Car) → P.view (hit_at i x s) ≡ S.ready (ghost i) x (P.view s)
  pub makes : (hit : Bool) (s : Car) → S.made hit (P.view s) ≡ replace_if (full s.lists) (S.replace hit) (P.view s)
  pub frees : (hit : Bool) (s t : Car) → 0 < residents s.lists → (S.replace hit (P.view s)).state ≡ P.view t → (x : ℕ) → seen x t.lists ≤ seen x s.lists
  pub puts : (i : Side) (x f : ℕ) (s : Car) → P.view (S.put i x f false s) ≡ S.admitted i x f (P.view s)

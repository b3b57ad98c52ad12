-- THE STATE CHECK IS EXACT: it passes where the words are a writing of a well-formed state of that kind, and only there.
-- Words are a writing of one state at most, and the kinds are never confused. Over the policy, of what any words read as:
-- crate `contracts`, proofs/Reading. Assumes nothing.
use mathlib.Core.Path.{◌≡◌, refl, sym, ap, ◌∙◌}
use mathlib.Core.Bool.{Bool, true, false, cond, false≢true}
use mathlib.Core.List.{List}
use Prim.Native.Nat.{ℕ, ◌+◌, ◌*◌, ◌≤◌}
use native.Mathlib.Omega.{arith}
use lib.ListN.{length}
use lib.Dec.{eqb, ltb}
use borrow.Author.Tests.{eqb-true, ltb-false, leb-true, eq-eqb, le-ltb, le-leb}
use Rattle.rules.specs.Arc as arc
use Rattle.rules.specs.Car as car
use Rattle.rules.specs.Car.{Car}
use Rattle.area_state.specs.Parts.{Parts, Holds, state_of}
use Rattle.area_state.proofs.Ranging.{state_well_formed}
use Rattle.area.specs.Area.{kind_of, capacity_of, target_of, end_at, parts_of}
use Rattle.area.specs.Stored.{state_in, arc_of, Writes}
use Rattle.state_check.specs.Check.{Words, row_count, live_count, lists_test, dead_test, sums_test, parts_test, state_test}
use Rattle.area.proofs.Rooms.{have_room}
use Rattle.state_check.proofs.Lists.{both}
use Rattle.state_check.proofs.Exact.{parts_sound, lists_pass, held_pass, dead_pass}
use Rattle.state_check.proofs.Formed.{pages_below, arc_formed, arc_sums}

-- not the first of two tests, but the second
neither : (t u : Bool) → cond t false u ≡ true → (t ≡ false) × (u ≡ true)
neither true u q = absurd (false≢true q)
neither false u q = (refl, q)

-- the target of the parts is that of the header
target_is : (c : ℕ) (w : List ℕ) → (parts_of c w).target ≡ target_of w
unfolding parts_of
target_is c w = refl

-- ---- what ARC asks of the sums besides; of CAR's nothing is asked
sums_sound : (c : ℕ) (p : Parts) → sums_test 1 c p ≡ true → (row_count p ≤ c + 1) × (live_count p ≤ 2 * c + 1)
unfolding sums_test
sums_sound c p q =
    let a = neither (ltb (c + 1) (row_count p)) _ q in
    (ltb-false (c + 1) (row_count p) a.0, leb-true (live_count p) (2 * c + 1) a.1)

arc_sums_pass : (c : ℕ) (p : Parts) → Holds c p → arc.WellFormed (arc_of (state_of c p)) → sums_test 1 c p ≡ true
unfolding sums_test
arc_sums_pass c p h f =
    let s = arc_sums c p h f in
    rw (le-ltb (c + 1) (row_count p) s.0) (le-leb (live_count p) (2 * c + 1) s.1)

car_sums_pass : (c : ℕ) (p : Parts) → sums_test 2 c p ≡ true
unfolding sums_test
car_sums_pass c p = refl

-- ---- what a test that has passed says
record Passed (kind : ℕ) (w : List ℕ) : Type 0 where
  pub kind_is : kind_of w ≡ kind
  pub size : end_at (capacity_of w) ≤ length w
  pub holds : Holds (capacity_of w) (parts_of (capacity_of w) w)
  pub sums : sums_test kind (capacity_of w) (parts_of (capacity_of w) w) ≡ true

passed : (kind : ℕ) (w : List ℕ) → state_test kind w ≡ true → Passed kind w
unfolding state_test parts_test
passed kind w q =
    let a = neither (ltb (length w) 64) _ q in
    let b = both (eqb (kind_of w) kind) _ a.1 in
    let d = neither (ltb 1024 (capacity_of w)) _ b.1 in
    let e = neither (ltb (length w) (end_at (capacity_of w))) _ d.1 in
    let f = neither (ltb (capacity_of w) (target_of w)) _ e.1 in
    let g = both (lists_test (capacity_of w) (parts_of (capacity_of w) w)) _ f.1 in
    let i = both (dead_test (capacity_of w) (parts_of (capacity_of w) w)) _ g.1 in
    let j = both (sums_test kind (capacity_of w) (parts_of (capacity_of w) w)) _ i.1 in
    let size : end_at (capacity_of w) ≤ length w = ltb-false (length w) (end_at (capacity_of w)) e.0 in
    record {
      kind_is = eqb-true (kind_of w) kind b.0;
      size = size;
      holds = parts_sound (capacity_of w) (parts_of (capacity_of w) w) (have_room (capacity_of w) w (ltb-false 1024 (capacity_of w) d.0) size) (rw (target_is (capacity_of w) w) (ltb-false (capacity_of w) (target_of w) f.0)) g.0 j.1 i.0;
      sums = j.0;
    }

-- ---- SOUND
pub state_writes : (kind : ℕ) (w : List ℕ) → state_test kind w ≡ true → Writes kind w (state_in (capacity_of w) w)
unfolding state_in state_of
state_writes kind w q =
    let t = passed kind w q in
    record { kind = t.kind_is; stored = record { size = t.size; capacity = refl; holds = t.holds }; reads = refl }

pub arc_sound : (w : List ℕ)
    → Words w
    → state_test 1 w ≡ true
    → Writes 1 w (state_in (capacity_of w) w) × arc.WellFormed (arc_of (state_in (capacity_of w) w))
unfolding state_in
arc_sound w words q =
    let c = capacity_of w in
    let t = passed 1 w q in
    let s = sums_sound c (parts_of c w) t.sums in
    (state_writes 1 w q, arc_formed c (parts_of c w) t.holds (pages_below c w words) s.0 s.1)

pub car_sound : (w : List ℕ)
    → Words w
    → state_test 2 w ≡ true
    → Writes 2 w (state_in (capacity_of w) w) × car.WellFormed (state_in (capacity_of w) w)
unfolding state_in
car_sound w words q =
    let c = capacity_of w in
    (state_writes 2 w q, state_well_formed c (parts_of c w) (passed 2 w q).holds (λ x _. pages_below c w words x))

-- ---- COMPLETE: nothing is asked of the words' size
parts_complete : (kind c : ℕ) (p : Parts) → Holds c p → sums_test kind c p ≡ true → parts_test kind c p ≡ true
unfolding parts_test
parts_complete kind c p h sums = rw (lists_pass c p h, dead_pass c p h, sums) (held_pass c p h)

header_complete : (kind c : ℕ) (w : List ℕ) → capacity_of w ≡ c → kind_of w ≡ kind → c ≤ 1024 → end_at c ≤ length w → target_of w ≤ c → parts_test kind c (parts_of c w) ≡ true → state_test kind w ≡ true
unfolding state_test
header_complete kind c w q k small size aim parts = rw (le-ltb (length w) 64 (omega arith), eq-eqb (kind_of w) kind k, q, le-ltb 1024 c small, le-ltb (length w) (24 * c + 64) size, le-ltb c (target_of w) aim) parts

state_complete : (kind : ℕ) (w : List ℕ) (s : Car)
    → Writes kind w s
    → sums_test kind s.lists.c (parts_of s.lists.c w) ≡ true
    → state_test kind w ≡ true
state_complete kind w s r sums =
    let c = s.lists.c in
    let h : Holds c (parts_of c w) = r.stored.holds in
    let aim : target_of w ≤ c = rw (target_is c w) at h.target in
    header_complete kind c w r.stored.capacity r.kind h.small r.stored.size aim
    (parts_complete kind c (parts_of c w) h sums)

pub arc_complete : (w : List ℕ) (s : Car) → Writes 1 w s → arc.WellFormed (arc_of s) → state_test 1 w ≡ true
unfolding state_in
arc_complete w s r f =
    let c = s.lists.c in
    state_complete 1 w s r (arc_sums_pass c (parts_of c w) r.stored.holds (rw r.reads f))

-- of CAR nothing but the writing is asked: what words write obeys its rules
pub car_complete : (w : List ℕ) (s : Car) → Writes 2 w s → car.WellFormed s → state_test 2 w ≡ true
car_complete w s r f = state_complete 2 w s r (car_sums_pass s.lists.c (parts_of s.lists.c w))

-- ---- WORDS ARE A WRITING OF ONE STATE AT MOST: they fix the capacity, and with it the state
pub writes_read : (kind : ℕ) (w : List ℕ) (s : Car) → Writes kind w s → state_in (capacity_of w) w ≡ s
writes_read kind w s r = ap (λ (c : ℕ). state_in c w) r.stored.capacity ∙ r.reads

pub unique : (kind : ℕ) (w : List ℕ) (s t : Car) → Writes kind w s → Writes kind w t → s ≡ t
unique kind w s t a b = sym (writes_read kind w s a) ∙ writes_read kind w t b

-- ---- THE KINDS ARE NEVER CONFUSED
pub kinds_apart : (w : List ℕ) (s t : Car) → Writes 1 w s → Writes 2 w t → ⊥
kinds_apart w s t a b = let q : ◌≡◌ {A = ℕ} 1 2 = sym a.kind ∙ b.kind in let z : ⊥ = omega arith in z

-- A page comes. In order: what was found; room; the page is nowhere; a free slot. Assumes nothing.
use mathlib.Core.Path.{◌≡◌, refl, ap, ◌∙◌}
use mathlib.Core.Bool.{true, false}
use mathlib.Core.Option.{Option, some, none}
use mathlib.Core.List.{List, ◌++◌}
use Prim.Native.Nat.{ℕ, ◌<◌, ◌≤◌}
use native.Mathlib.Omega.{arith}
use borrow.Author.Tests.{le-ltb, lt-leb, le-leb}
use Rattle.rules.specs.Lists.{times}
use Rattle.rules.specs.State.{Lists, residents, resident, seen, full}
use Rattle.rules.specs.declared.Side.{Side}
use Rattle.rules.specs.declared.Side.TheVariants.{First as first, Second as second}
use Rattle.rules.specs.Calls.{nowhere}
use Rattle.rules.specs.Stages.{place_of}
use Rattle.rules.specs.Car.{Car, Clocked, Resident}
use Rattle.rules.proofs.ListLaws.{found_times, times_pages_append}
use Rattle.rules.proofs.StateLaws.{ready, ready_none}
use Rattle.area.specs.Stored.{Stored, state_in, Left}
use Rattle.store.specs.Store.{HasGhost, CanEnter, FoundIs}
use Rattle.store.specs.declared.Found.{Found}
use Rattle.store.specs.declared.Found.TheVariants.{InB1, InB2, Nowhere}
use Rattle.stages.specs.Common.{hit_at}
use Rattle.stages.specs.Stages.{HasRoom, CanCome, Comes, Hits, CanDisplace}
use Rattle.stages.proofs.Finding.{state_c, obeys, free_slot, found_as}

-- ---- what `find` answered
module _ (c : ℕ) (w : List ℕ) (s : HasRoom c w) (x : ℕ) (r : Found) (h : FoundIs c w x r) where
  pub found_nowhere : r ≡ Nowhere → Comes c w nowhere x
  found_nowhere q = let a = found_as c w x r h Nowhere q in record { can = s; fresh = a.0; place = a.1 }

  pub found_b1 : (n : ℕ) → r ≡ InB1 n → Hits c w first n x
  found_b1 n q = let a = found_as c w x r h (InB1 n) q in record { cell = a.0; comes = record { can = s; fresh = a.1; place = a.2 } }

  pub found_b2 : (n : ℕ) → r ≡ InB2 n → Hits c w second n x
  found_b2 n q = let a = found_as c w x r h (InB2 n) q in record { cell = a.0; comes = record { can = s; fresh = a.1; place = a.2 } }

  pub b1_cell : (n : ℕ) → r ≡ InB1 n → HasGhost c w first n x
  b1_cell n q = (found_b1 n q).cell

  pub b2_cell : (n : ℕ) → r ≡ InB2 n → HasGhost c w second n x
  b2_cell n q = (found_b2 n q).cell

-- ---- room
module _ (c : ℕ) (w : List ℕ) (x : ℕ) (h : CanCome c w x) (n : ℕ) (p : n ≡ residents (state_in c w).lists) where
  pub room_none : c ≤ n → CanDisplace c w x
  room_none l = record { comes = h; full = record { stored = h.can.stored; some = let z : 0 < c = h.can.some in omega arith } }

  pub is_full_fact : c ≤ n → full (state_in c w).lists ≡ true
  is_full_fact l = le-leb (state_in c w).lists.c (residents (state_in c w).lists) (omega (arith, state_c c w))

  pub not_full : n < c → full (state_in c w).lists ≡ false
  not_full l = lt-leb (state_in c w).lists.c (residents (state_in c w).lists) (omega (arith, state_c c w))

-- ---- a page that is nowhere
pub absent_resident : (x : ℕ) (s : Lists Clocked) → seen x s ≡ 0 → resident x s ≡ none
absent_resident x s h = go (resident x s) refl
  where
    go : (o : Option Resident) → resident x s ≡ o → o ≡ none
    go none q = refl
    go (some e) q = absurd (let z : ⊥ = omega (arith, found_times x (s.T1 ++ s.T2) e q, times_pages_append x s.T1 s.T2) in z)

pub absent_place : (x : ℕ) (s : Lists Clocked) → seen x s ≡ 0 → place_of x s ≡ nowhere
absent_place x s h = rw (le-ltb 0 (times x s.B1) (omega arith), le-ltb 0 (times x s.B2) (omega arith)) refl

-- a miss
pub comes_absent : (c : ℕ) (w : List ℕ) (x : ℕ) → Comes c w nowhere x → seen x (state_in c w).lists ≡ 0
comes_absent c w x h = (ready_none x (state_in c w).lists h.place h.fresh (obeys c w h.can.stored).sound).absent

pub can_come : (c : ℕ) (w v : List ℕ) (x : ℕ) → Comes c w nowhere x → Stored c v → seen x (state_in c v).lists ≤ seen x (state_in c w).lists → CanCome c v x
can_come c w v x h s l = record { can = record { stored = s; some = h.can.some }; absent = omega (arith, comes_absent c w x h) }

-- a ghost hit
module _ (c : ℕ) (w : List ℕ) (i : Side) (g x : ℕ) (h : Hits c w i g x) where
  pub hit_can : (v : List ℕ) → Left c w v (hit_at i x (state_in c w)) → CanCome c v x
  hit_can v l =
      record {
        can = record { stored = l.stored; some = h.comes.can.some };
        absent = ap (λ (s : Car). seen x s.lists) l.reads ∙ (ready x (state_in c w).lists i h.comes.place h.comes.fresh (obeys c w h.cell.stored).sound).0.absent;
      }

-- ---- into a free slot: nobody is put out
pub enter_can : (c : ℕ) (w : List ℕ) (x : ℕ) → CanCome c w x → (n : ℕ) → n ≡ residents (state_in c w).lists → n < c → CanEnter c w x
enter_can c w x h n p l =
    record {
      stored = h.can.stored;
      room = free_slot c w h.can.stored (omega arith);
      fresh = absent_resident x (state_in c w).lists h.absent;
      unrecorded = absent_place x (state_in c w).lists h.absent;
    }

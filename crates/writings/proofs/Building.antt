-- Parts hold any well-formed state. By induction over its lists: a state without the first of T1 or T2, whose slot is
-- the top free one then, is well formed too, and so is one without the newest of B1 or B2; one step leads back. In
-- order: a resident; a ghost; the four lists. Assumes nothing.
use mathlib.Core.Path.{◌≡◌, refl}
use mathlib.Core.Logic.{inl}
use mathlib.Core.Bool.{false}
use mathlib.Core.List.{List, [], ◌∷◌}
use Prim.Native.Nat.{ℕ, ◌<◌, ◌≤◌}
use native.Mathlib.Omega.{arith}
use lib.ListN.{length}
use lib.Seq.{take_all}
use Rattle.rules.specs.Lists.{Each}
use Rattle.rules.specs.State.{Lists, list, ghosts, set_list, set_ghosts, seen, Ranged, Fits, IsPage}
use Rattle.rules.specs.declared.Side.{Side}
use Rattle.rules.specs.declared.Side.TheVariants.{First as first, Second as second}
use Rattle.rules.specs.Stages.{emptied}
use Rattle.rules.specs.Car.{Car, car, Clocked, Resident, WellFormed}
use Rattle.rules.proofs.ListLaws.{eqb_self, one_self}
use Rattle.rules.proofs.StateLaws.{residents_set, seen_set, seen_ghosts}
use Rattle.rules.proofs.Slots.{each_once, taken_set}
use Rattle.area_state.specs.States.{resident_at, aimed_at, evicted_at, new_resident, entered_at_front}
use Rattle.writings.proofs.Steps.{Kept, kept_aimed, kept_entered, kept_evicted}
use Rattle.writings.proofs.Free.{kept_free}

-- ---- a resident e at the front of the list of side i
abbrev at_front : Side → Resident → Lists Clocked → Lists Clocked
at_front i e s = set_list i (e ∷ list i s) s

record Front (e : Resident) (s : Lists Clocked) : Type 0 where
  fits : Fits e
  recent : Each Fits s.T1
  frequent : Each Fits s.T2

front : (i : Side) (e : Resident) (s : Lists Clocked) → Ranged (at_front i e s) → Front e s
front first e s r = record { fits = r.recent.0; recent = r.recent.1; frequent = r.frequent }
front second e s r = record { fits = r.frequent.0; recent = r.recent; frequent = r.frequent.1 }

module _ (i : Side) (e : Resident) (s : Lists Clocked) (f : List ℕ) (w : WellFormed (car (at_front i e s) f)) where
  less_resident : WellFormed (car s (e.more.slot ∷ f))
  less_resident =
      let l = e ∷ list i s in
      let o = w.obeys.sound in
      let r = w.ranged in
      let a = front i e s r in
      record {
        obeys = record {
          sound = record {
            distinct = λ x. let d = o.distinct x in let q = seen_set x i l s in omega arith;
            room = let d = o.room in let q = residents_set i l s in omega arith;
            ghosts1 = o.ghosts1;
            ghosts2 = o.ghosts2;
            aim = o.aim;
          };
          slotted = λ k. let d = w.obeys.slotted k in let q = taken_set k i l s in omega arith;
        };
        ranged = record {
          capacity = r.capacity;
          recent = a.recent;
          frequent = a.frequent;
          ghosts1 = r.ghosts1;
          ghosts2 = r.ghosts2;
        };
      }

  new_resident_fact : seen e.page s ≡ 0
  new_resident_fact =
      let d = w.obeys.sound.distinct e.page in
      let q = seen_set e.page i (e ∷ list i s) s in
      let o = one_self e.page in
      omega arith

  with_resident : Kept s.c (car s (e.more.slot ∷ f)) → Kept s.c (car (at_front i e s) f)
  unfolding entered_at_front new_resident
  with_resident r =
      let t = car s (e.more.slot ∷ f) in
      let k = (front i e s w.ranged).fits in
      kept_entered s.c t r i e.page e.frame e.more.bit (omega arith) new_resident_fact k.0 k.1

-- ---- a ghost x at the front of the ghost list of side i
abbrev recorded_in : Side → ℕ → Lists Clocked → Lists Clocked
recorded_in i x s = set_ghosts i (x ∷ ghosts i s) s

record Newest (i : Side) (x : ℕ) (s : Lists Clocked) : Type 0 where
  page : IsPage x
  room : length (ghosts i s) < s.c
  room1 : length s.B1 ≤ s.c
  room2 : length s.B2 ≤ s.c
  ghosts1 : Each IsPage s.B1
  ghosts2 : Each IsPage s.B2

newest : (i : Side) (x : ℕ) (s : Lists Clocked) (f : List ℕ) → WellFormed (car (recorded_in i x s) f) → Newest i x s
newest first x s f w =
    let o = w.obeys.sound in
    let r = w.ranged in
    record {
      page = r.ghosts1.0;
      room = o.ghosts1;
      room1 = let k = o.ghosts1 in omega arith;
      room2 = o.ghosts2;
      ghosts1 = r.ghosts1.1;
      ghosts2 = r.ghosts2;
    }
newest second x s f w =
    let o = w.obeys.sound in
    let r = w.ranged in
    record {
      page = r.ghosts2.0;
      room = o.ghosts2;
      room1 = o.ghosts1;
      room2 = let k = o.ghosts2 in omega arith;
      ghosts1 = r.ghosts1;
      ghosts2 = r.ghosts2.1;
    }

module _ (i : Side) (x : ℕ) (s : Lists Clocked) (f : List ℕ) (w : WellFormed (car (recorded_in i x s) f)) where
  less_ghost : WellFormed (car s f)
  less_ghost =
      let o = w.obeys.sound in
      let r = w.ranged in
      let n = newest i x s f w in
      record {
        obeys = record {
          sound = record {
            distinct = λ y. let d = o.distinct y in let q = seen_ghosts y i (x ∷ ghosts i s) s in omega arith;
            room = o.room;
            ghosts1 = n.room1;
            ghosts2 = n.room2;
            aim = o.aim;
          };
          slotted = w.obeys.slotted;
        };
        ranged = record {
          capacity = r.capacity;
          recent = r.recent;
          frequent = r.frequent;
          ghosts1 = n.ghosts1;
          ghosts2 = n.ghosts2;
        };
      }

  new_ghost : seen x s ≡ 0
  new_ghost =
      let d = w.obeys.sound.distinct x in
      let q = seen_ghosts x i (x ∷ ghosts i s) s in
      let o = one_self x in
      omega arith

-- where nobody is resident it enters T1 and is put out
module _ (i : Side) (x c t : ℕ) (b1 b2 : List ℕ) where
  abbrev bare : Lists Clocked
  bare = record { c = c; target = t; T1 = []; T2 = []; B1 = b1; B2 = b2 }

  put_out_fact : (k : ℕ) (f : List ℕ) → length (ghosts i bare) < c
      → evicted_at i k (entered_at_front first x 0 false (car bare (k ∷ f))) ≡ car (recorded_in i x bare) (k ∷ f)
  unfolding evicted_at entered_at_front new_resident resident_at
  put_out_fact k f h = rw (eqb_self k, eqb_self x, take_all c (x ∷ ghosts i bare) h) refl

  with_ghost : (f : List ℕ) → WellFormed (car (recorded_in i x bare) f) → Kept c (car bare f)
      → Kept c (car (recorded_in i x bare) f)
  unfolding entered_at_front new_resident
  with_ghost [] w r =
      let n = each_once c [] w.obeys.slotted in
      let l = (newest i x bare [] w).room in
      absurd (let z : ⊥ = omega arith in z)
  with_ghost (k ∷ f) w r =
      let s = car bare (k ∷ f) in
      let n = newest i x bare (k ∷ f) w in
      let e = kept_entered c s r first x 0 false (omega arith) (new_ghost i x bare (k ∷ f) w) n.page (omega arith) in
      rw (put_out_fact k f n.room) at (kept_evicted c (entered_at_front first x 0 false s) e i k (inl refl))

-- ---- THE FOUR LISTS, from the last to the first
module _ (c t : ℕ) where
  abbrev lists : List Resident → List Resident → List ℕ → List ℕ → Lists Clocked
  lists t1 t2 b1 b2 = record { c = c; target = t; T1 = t1; T2 = t2; B1 = b1; B2 = b2 }

  kept_b2 : (b2 f : List ℕ) → WellFormed (car (lists [] [] [] b2) f) → Kept c (car (lists [] [] [] b2) f)
  unfolding aimed_at
  kept_b2 [] f w =
      let r = kept_free c w.ranged.capacity f (λ k. let q = w.obeys.slotted k in omega arith) in
      kept_aimed c (car (emptied c) f) r t w.obeys.sound.aim
  kept_b2 (x ∷ b2) f w =
      with_ghost second x c t [] b2 f w (kept_b2 b2 f (less_ghost second x (lists [] [] [] b2) f w))

  kept_b1 : (b1 b2 f : List ℕ) → WellFormed (car (lists [] [] b1 b2) f) → Kept c (car (lists [] [] b1 b2) f)
  kept_b1 [] b2 f w = kept_b2 b2 f w
  kept_b1 (x ∷ b1) b2 f w =
      with_ghost first x c t b1 b2 f w (kept_b1 b1 b2 f (less_ghost first x (lists [] [] b1 b2) f w))

  module _ (b1 b2 : List ℕ) where
    kept_t2 : (t2 : List Resident) (f : List ℕ) → WellFormed (car (lists [] t2 b1 b2) f)
        → Kept c (car (lists [] t2 b1 b2) f)
    kept_t2 [] f w = kept_b1 b1 b2 f w
    kept_t2 (e ∷ t2) f w =
        let s = lists [] t2 b1 b2 in
        with_resident second e s f w (kept_t2 t2 (e.more.slot ∷ f) (less_resident second e s f w))

    kept_t1 : (t1 t2 : List Resident) (f : List ℕ) → WellFormed (car (lists t1 t2 b1 b2) f)
        → Kept c (car (lists t1 t2 b1 b2) f)
    kept_t1 [] t2 f w = kept_t2 t2 f w
    kept_t1 (e ∷ t1) t2 f w =
        let s = lists t1 t2 b1 b2 in
        with_resident first e s f w (kept_t1 t1 t2 (e.more.slot ∷ f) (less_resident first e s f w))

-- ANY STATE
pub kept : (s : Car) → WellFormed s → Kept s.lists.c s
kept s w = let l = s.lists in kept_t1 l.c l.target l.B1 l.B2 l.T1 l.T2 s.free w

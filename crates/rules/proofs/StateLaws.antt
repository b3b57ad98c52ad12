-- Laws of what the policies share.
-- Assumes nothing.
use mathlib.Core.Path.{◌≡◌, refl, subst, ap}
use mathlib.Core.List.{List, ◌∷◌, ◌++◌}
use mathlib.Core.Bool.{Bool, true, false, ◌||◌}
use mathlib.Core.Option.{some, none}
use Prim.Native.Nat.{ℕ, zero, suc, ◌+◌, ◌<◌, ◌≤◌}
use native.Mathlib.Omega.{arith}
use lib.Dec.{eqb}
use lib.ListN.{length, length-take}
use borrow.Author.Tests.{eqb-true, eqb-false, ltb-true, ltb-false}
use Rattle.rules.specs.Lists.{times, holds, leave}
use Rattle.rules.specs.State.{Entry, pages, Lists, Side, first, second, choose, list, ghosts, set_list, set_ghosts, residents, in_all, resident, leaves, changed_in, seen, Sound}
use Rattle.rules.specs.Calls.{ghost, nowhere}
use Rattle.rules.specs.Ghosts.{recorded, record_in}
use Rattle.rules.specs.Stages.{emptied, place, place_of, aimed, ghost_hit, prefers_t1, from_t1, side, turn, record_place}
use Rattle.rules.proofs.ListLaws.{either, one_self, one_other, times_take, times_leave_self, times_leave_other, length_leave, times_pages_append, length_without, without_self, without_other, found_page, found_times, found_none, changed_keys, changed_length, Plus}

-- ---- the test of a replacement: the list that it chooses is not empty, where there is a resident
or_no : (a b : Bool) → (a || b) ≡ false → b ≡ false
or_no true b h = let z : ◌≡◌ {A = ℕ} 0 1 = cc in absurd (omega arith)
or_no false b h = h

turn_t2 : (hit : Bool) (p a b : ℕ) → from_t1 hit p a b ≡ false → 1 ≤ b
turn_t2 hit p a b h =
    let n : (b ≡ 0 → ⊥) = eqb-false b 0 (or_no (prefers_t1 hit p a) (eqb b 0) h) in
    omega arith

turn_t1 : (hit : Bool) (p a b : ℕ) → from_t1 hit p a b ≡ true → 1 ≤ a + b → 1 ≤ a
turn_t1 hit p zero b h k = let q = eqb-true b 0 h in omega arith
turn_t1 hit p (suc a) b h k = omega arith

-- ---- where a page is found
place_test : (a b : Bool) (i : Side) → place a b ≡ ghost i → choose i a b ≡ true
place_test true b first h = refl
place_test true b second h = let z : ◌≡◌ {A = ℕ} 0 1 = cc in absurd (omega arith)
place_test false true first h = let z : ◌≡◌ {A = ℕ} 0 1 = cc in absurd (omega arith)
place_test false true second h = refl
place_test false false i h = let z : ◌≡◌ {A = ℕ} 0 1 = cc in absurd (omega arith)

place_none : (a b : Bool) → place a b ≡ nowhere → (a ≡ false) × (b ≡ false)
place_none true b h = let z : ◌≡◌ {A = ℕ} 0 1 = cc in absurd (omega arith)
place_none false true h = let z : ◌≡◌ {A = ℕ} 0 1 = cc in absurd (omega arith)
place_none false false h = (refl, refl)

pub length_recorded : (c x : ℕ) (b : List ℕ) → (length (recorded c x b) ≤ c) × (length (recorded c x b) ≤ length b + 1)
length_recorded c x b = omega (arith, length-take c (x ∷ b))

module _ {X : Type 0} where
  pub turn_some : (hit : Bool) (s : Lists X) → 1 ≤ residents s → 1 ≤ length (list (turn hit s) s)
  turn_some hit s k = go (from_t1 hit s.target (length s.T1) (length s.T2)) refl
    where
      go : (b : Bool) → from_t1 hit s.target (length s.T1) (length s.T2) ≡ b → 1 ≤ length (list (side b) s)
      go true h = turn_t1 hit s.target (length s.T1) (length s.T2) h k
      go false h = turn_t2 hit s.target (length s.T1) (length s.T2) h

  -- ---- a side's list or ghosts set anew: what changes is that side's part
  pub residents_set : (i : Side) (l : List (Entry X)) (s : Lists X) → residents (set_list i l s) + length (list i s) ≡ residents s + length l
  residents_set first l s = omega arith
  residents_set second l s = omega arith

  pub seen_set : (y : ℕ) (i : Side) (l : List (Entry X)) (s : Lists X) → seen y (set_list i l s) + times y (pages (list i s)) ≡ seen y s + times y (pages l)
  seen_set y first l s = omega arith
  seen_set y second l s = omega arith

  pub seen_ghosts : (y : ℕ) (i : Side) (b : List ℕ) (s : Lists X) → seen y (set_ghosts i b s) + times y (ghosts i s) ≡ seen y s + times y b
  seen_ghosts y first b s = omega arith
  seen_ghosts y second b s = omega arith

  pub all_ghosts : (i : Side) (b : List ℕ) (s : Lists X) → in_all (set_ghosts i b s) + length (ghosts i s) ≡ in_all s + length b
  all_ghosts first b s = omega arith
  all_ghosts second b s = omega arith

  -- other lists, ghosts that are no longer than c, and each page at most once
  pub set_sound : (i : Side) (b : List ℕ) (s : Lists X) → Sound s → length b ≤ s.c → ((y : ℕ) → seen y (set_ghosts i b s) ≤ 1) → Sound (set_ghosts i b s)
  set_sound first b s w k d = record { distinct = d; room = w.room; ghosts1 = k; ghosts2 = w.ghosts2; aim = w.aim }
  set_sound second b s w k d = record { distinct = d; room = w.room; ghosts1 = w.ghosts1; ghosts2 = k; aim = w.aim }

  -- ---- residents found and not found
  pub is_resident : (s : Lists X) (x : ℕ) (e : Entry X) → resident x s ≡ some e → 1 ≤ times e.page (pages s.T1) + times e.page (pages s.T2)
  is_resident s x e h =
      subst (λ k. 1 ≤ times k (pages s.T1) + times k (pages s.T2)) (found_page x (s.T1 ++ s.T2) e h)
      (omega (arith, found_times x (s.T1 ++ s.T2) e h, times_pages_append x s.T1 s.T2))

  pub no_resident_lem : (s : Lists X) (x : ℕ) → resident x s ≡ none → times x (pages s.T1) + times x (pages s.T2) ≡ 0
  no_resident_lem s x h = omega (arith, found_none x (s.T1 ++ s.T2) h, times_pages_append x s.T1 s.T2)

  pub empty_sound : (c : ℕ) → Sound {X = X} (emptied c)
  empty_sound c = record { distinct = λ x. omega arith; room = omega arith; ghosts1 = omega arith; ghosts2 = omega arith; aim = omega arith }

  -- ---- x stands nowhere in a sound state
  pub record Ready (x : ℕ) (s : Lists X) : Type 0 where
    pub sound : Sound s
    pub absent : seen x s ≡ 0

  -- a resident leaves
  pub left : (x : ℕ) (s : Lists X) → 1 ≤ times x (pages s.T1) + times x (pages s.T2) → Sound s → Ready x (leaves x s) × (residents s ≡ residents (leaves x s) + 1)
  left x s h w =
      let a = length_without x s.T1 in
      let b = length_without x s.T2 in
      let d = w.distinct x in
      let r = w.room in
      let gone : seen x (leaves x s) ≡ 0 = omega (arith, without_self x s.T1, without_self x s.T2) in (
        record {
          sound = record {
            distinct = either (λ y. seen y (leaves x s) ≤ 1) x (omega arith) (λ y n. omega (arith, without_other y x s.T1 n, without_other y x s.T2 n, w.distinct y));
            room = omega arith;
            ghosts1 = w.ghosts1;
            ghosts2 = w.ghosts2;
            aim = w.aim;
          };
          absent = gone;
        },
        omega arith,
      )

  -- a page that stands nowhere enters a list, where there is room
  pub entered : (x : ℕ) (i : Side) (m : List (Entry X)) (s : Lists X) → Plus x (list i s) m → residents s < s.c → Ready x s → Sound (set_list i m s)
  entered x i m s p k r =
      let w = r.sound in
      let n = residents_set i m s in
      record {
        distinct = either (λ y. seen y (set_list i m s) ≤ 1) x
            (omega (arith, seen_set x i m s, p.more x, one_self x, r.absent))
            (λ y n. omega (arith, seen_set y i m s, p.more y, one_other y x n, w.distinct y));
        room = omega (arith, p.longer);
        ghosts1 = w.ghosts1;
        ghosts2 = w.ghosts2;
        aim = w.aim;
      }

  -- a resident is put out and recorded: no page stands more often, and there is one resident less
  pub record Freed (s t : Lists X) : Type 0 where
    pub fewer : (y : ℕ) → seen y t ≤ seen y s
    pub less : residents s ≡ residents t + 1
    pub smaller : in_all t ≤ in_all s
    pub sound : Sound s → Sound t

  pub shed : (i : Side) (p : ℕ) (rest : List (Entry X)) (s : Lists X) → Plus p rest (list i s) → Freed s (set_list i rest s)
  shed i p rest s h =
      let n = residents_set i rest s in
      record {
        fewer = λ y. omega (arith, seen_set y i rest s, h.more y);
        less = omega (arith, h.longer);
        smaller = omega (arith, h.longer);
        sound = λ w. record {
          distinct = λ y. omega (arith, seen_set y i rest s, h.more y, w.distinct y);
          room = omega (arith, h.longer, w.room);
          ghosts1 = w.ghosts1;
          ghosts2 = w.ghosts2;
          aim = w.aim;
        };
      }

  pub put_out_fact : (i : Side) (p : ℕ) (rest : List (Entry X)) (s : Lists X) → Plus p rest (list i s) → Freed s (record_in (record_place i) p (set_list i rest s))
  put_out_fact i p rest s h =
      let t = set_list i rest s in
      let f = shed i p rest s h in
      let b = recorded s.c p (ghosts i s) in
      let k = length_recorded s.c p (ghosts i s) in
      let few : (y : ℕ) → seen y (record_in (record_place i) p t) ≤ seen y s
      = λ y. omega (arith, seen_ghosts y i b t, seen_set y i rest s, h.more y, times_take y s.c (p ∷ ghosts i s)) in
      record {
        fewer = few;
        less = f.less;
        smaller = omega (arith, all_ghosts i b t, f.less);
        sound = λ w. set_sound i b t (f.sound w) k.0 (λ y. omega (arith, few y, w.distinct y));
      }

  ghosts_le : (i : Side) (s : Lists X) → Sound s → length (ghosts i s) ≤ s.c
  ghosts_le first s w = w.ghosts1
  ghosts_le second s w = w.ghosts2

  held : (x : ℕ) (i : Side) (s : Lists X) → choose i (holds x s.B1) (holds x s.B2) ≡ true → 1 ≤ times x (ghosts i s)
  held x first s h = omega (arith, ltb-true 0 (times x s.B1) h)
  held x second s h = omega (arith, ltb-true 0 (times x s.B2) h)

  -- the target stays within 0 to c
  aimed_le : (i : Side) (s : Lists X) → Sound s → aimed i s ≤ s.c
  aimed_le first s w = omega arith
  aimed_le second s w = omega (arith, w.aim)

  -- a ghost hit: the page leaves its ghost list, and stands nowhere
  pub ready : (x : ℕ) (s : Lists X) (i : Side) → place_of x s ≡ ghost i → resident x s ≡ none → Sound s → Ready x (ghost_hit i x s) × (in_all s ≡ in_all (ghost_hit i x s) + 1)
  ready x s i at miss w =
      let there = held x i s (place_test (holds x s.B1) (holds x s.B2) i at) in
      let b = leave x (ghosts i s) in
      let n = length_leave x (ghosts i s) in
      let g = all_ghosts i b s in
      let d = w.distinct x in
      let gone : seen x (set_ghosts i b s) ≡ 0 = omega (arith, seen_ghosts x i b s, times_leave_self x (ghosts i s)) in
      let t = set_sound i b s w (omega (arith, ghosts_le i s w))
      (either (λ y. seen y (set_ghosts i b s) ≤ 1) x (omega arith) (λ y e. omega (arith, seen_ghosts y i b s, times_leave_other y x (ghosts i s) e, w.distinct y))) in
      let once : times x (ghosts i s) ≤ 1 = omega (arith, seen_ghosts x i b s, times_leave_self x (ghosts i s)) in (
        record {
          sound = record { distinct = t.distinct; room = t.room; ghosts1 = t.ghosts1; ghosts2 = t.ghosts2; aim = aimed_le i s w };
          absent = gone;
        },
        omega arith,
      )

  pub ready_none : (x : ℕ) (s : Lists X) → place_of x s ≡ nowhere → resident x s ≡ none → Sound s → Ready x s
  ready_none x s at miss w =
      let tests = place_none (holds x s.B1) (holds x s.B2) at in
      let a : times x s.B1 ≤ 0 = ltb-false 0 _ tests.0 in
      let b : times x s.B2 ≤ 0 = ltb-false 0 _ tests.1 in
      record { sound = w; absent = omega (arith, no_resident_lem s x miss) }

  -- residents changed where they stand, with their pages: no rule is touched
  pub changed_sound : (x : ℕ) (g : Entry X → Entry X) (s : Lists X) → ((e : Entry X) → (g e).page ≡ e.page) → Sound s → Sound (changed_in x g s)
  changed_sound x g s p w =
      record {
        distinct = λ y. omega (arith, w.distinct y, ap (times y) (changed_keys (λ e. e.page) x g s.T1 p), ap (times y) (changed_keys (λ e. e.page) x g s.T2 p));
        room = omega (arith, w.room, changed_length x g s.T1, changed_length x g s.T2);
        ghosts1 = w.ghosts1;
        ghosts2 = w.ghosts2;
        aim = w.aim;
      }

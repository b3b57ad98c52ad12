-- The tests of a state (specs/Check) hold exactly of the well-formed states. The check of an area, for any words, is another:
-- crate state_check. Assumes nothing.
use mathlib.Core.Path.{◌≡◌, refl, sym, subst, ap, ◌∙◌}
use mathlib.Core.List.{List, [], ◌∷◌, ◌++◌, map}
use mathlib.Core.Logic.{◌↔◌}
use mathlib.Core.Bool.{Bool, true, false, not, ◌&&◌}
use Prim.Native.Nat.{ℕ, zero, suc, ◌+◌, ◌*◌, ◌^◌, ◌<◌, ◌≤◌}
use native.Mathlib.Omega.{arith}
use lib.Dec.{ltb, leb, eqb}
use lib.ListN.{length}
use borrow.Author.Tests.{eqb-true, eqb-false, eq-eqb, ltb-true, ltb-false, lt-ltb, le-ltb, leb-true, le-leb, not-true}
use Rattle.rules.specs.Lists.{one, times, holds, Each}
use Rattle.rules.specs.State.{Entry, pages, Lists, residents, in_all, seen, Sound, max_capacity, IsPage, IsFrame, Fits, Ranged}
use Rattle.rules.specs.Arc.{Arc}
use Rattle.rules.specs.Arc
use Rattle.rules.specs.Car.{Car, slots, taken}
use Rattle.rules.specs.Car
use Rattle.rules.specs.Check.{distinct, below, once_each, all_pages, all_frames, sound_test, ranged_test, arc_test, car_test}
use Rattle.rules.proofs.EachLaws.{each_append, each_left, each_right}
use Rattle.rules.proofs.ListLaws.{by_test, either, one_self, one_other, times_append}

and_yes : (a b : Bool) → (a && b) ≡ true → (a ≡ true) × (b ≡ true)
and_yes true b h = (refl, h)
and_yes false b h = let z : ◌≡◌ {A = ℕ} 0 1 = cc in absurd (omega arith)

yes_and : (a b : Bool) → a ≡ true → b ≡ true → (a && b) ≡ true
yes_and true b p q = q
yes_and false b p q = p

-- ---- distinct
distinct_once : (l : List ℕ) → distinct l ≡ true → (x : ℕ) → times x l ≤ 1
unfolding distinct
distinct_once [] h = λ x. omega arith
distinct_once (y ∷ l) h =
    let t = and_yes (not (holds y l)) (distinct l) h in
    let n : times y l ≤ 0 = ltb-false 0 (times y l) (not-true (holds y l) t.0) in
    let ih = distinct_once l t.1 in
    either (λ x. one (eqb x y) + times x l ≤ 1) y (omega (arith, one_self y)) (λ x e. omega (arith, one_other x y e, ih x))

once_distinct : (l : List ℕ) → ((x : ℕ) → times x l ≤ 1) → distinct l ≡ true
unfolding distinct
once_distinct [] h = refl
once_distinct (y ∷ l) h =
    let z : times y l ≤ 0 = omega (arith, h y, one_self y) in
    yes_and (not (holds y l)) (distinct l) (ap not (le-ltb 0 (times y l) z)) (once_distinct l (λ x. omega (arith, h x)))

-- ---- each number below c once, and no other
below_none : (c : ℕ) (l : List ℕ) → below c l ≡ true → (k : ℕ) → c ≤ k → times k l ≡ 0
unfolding below
below_none c [] h k g = refl
below_none c (x ∷ l) h k g =
    let t = and_yes (ltb x c) (below c l) h in
    let ih = below_none c l t.1 k g in
    let lt = ltb-true x c t.0 in
    by_test (λ b. eqb k x ≡ b → one b + times k l ≡ 0) (eqb k x) (λ _ e. let q = eqb-true k x e in absurd (omega arith)) (λ _ e. omega arith) refl

each_below : (c : ℕ) (l : List ℕ) → once_each c l ≡ true → (k : ℕ) → k < c → times k l ≡ 1
unfolding once_each
each_below zero l h k g = absurd (omega arith)
each_below (suc c) l h k g =
    let t = and_yes (eqb (times c l) 1) (once_each c l) h in
    let ih = each_below c l t.1 k in
    by_test (λ b. eqb k c ≡ b → times k l ≡ 1) (eqb k c)
    (λ _ e. subst (λ j. times j l ≡ 1) (sym (eqb-true k c e)) (eqb-true (times c l) 1 t.0))
    (λ _ e. let d : (k ≡ c → ⊥) = eqb-false k c e in ih (omega arith)) refl

slots_yes : (c : ℕ) (l : List ℕ) → below c l ≡ true → once_each c l ≡ true → (k : ℕ) → times k l ≡ one (ltb k c)
slots_yes c l a b k =
    by_test (λ t. ltb k c ≡ t → times k l ≡ one t) (ltb k c) (λ _ e. each_below c l b k (ltb-true k c e)) (λ _ e. below_none c l a k (ltb-false k c e)) refl

yes_below : (c : ℕ) (l : List ℕ) → ((k : ℕ) → c ≤ k → times k l ≡ 0) → below c l ≡ true
unfolding below
yes_below c [] h = refl
yes_below c (x ∷ l) h =
    yes_and (ltb x c) (below c l)
    (by_test (λ t. ltb x c ≡ t → t ≡ true) (ltb x c) (λ _ e. refl) (λ _ e. absurd (omega (arith, h x (ltb-false x c e), one_self x))) refl)
    (yes_below c l (λ k g. omega (arith, h k g)))

yes_each : (c : ℕ) (l : List ℕ) → ((k : ℕ) → k < c → times k l ≡ 1) → once_each c l ≡ true
unfolding once_each
yes_each zero l h = refl
yes_each (suc c) l h = yes_and (eqb (times c l) 1) (once_each c l) (eq-eqb (times c l) 1 (h c (omega arith))) (yes_each c l (λ k g. h k (omega arith)))

-- ---- each number is below n
below_each : (n : ℕ) (l : List ℕ) → below n l ≡ true → Each (λ x. x < n) l
unfolding below
below_each n [] h = tt
below_each n (x ∷ l) h = let t = and_yes (ltb x n) (below n l) h in (ltb-true x n t.0, below_each n l t.1)

each_below_all : (n : ℕ) (l : List ℕ) → Each (λ x. x < n) l → below n l ≡ true
unfolding below
each_below_all n [] p = refl
each_below_all n (x ∷ l) p = yes_and (ltb x n) (below n l) (lt-ltb x n p.0) (each_below_all n l p.1)

-- ---- the rules of both policies
module _ {X : Type 0} where
  four : (x : ℕ) (s : Lists X) → times x (all_pages s) ≡ seen x s
  four x s =
      let a = pages s.T1 in
      let b = pages s.T2 in
      omega (arith, times_append x (a ++ b ++ s.B1) s.B2, times_append x (a ++ b) s.B1, times_append x a b)

  sound_yes : (s : Lists X) → sound_test s ≡ true → Sound s
  unfolding sound_test
  sound_yes s h =
      let t = and_yes (distinct (all_pages s)) _ h in
      let u = and_yes (leb (residents s) s.c) _ t.1 in
      let v = and_yes (leb (length s.B1) s.c) _ u.1 in
      let w = and_yes (leb (length s.B2) s.c) (leb s.target s.c) v.1 in
      record {
        distinct = λ x. omega (arith, four x s, distinct_once _ t.0 x);
        room = leb-true _ _ u.0;
        ghosts1 = leb-true _ _ v.0;
        ghosts2 = leb-true _ _ w.0;
        aim = leb-true _ _ w.1;
      }

  yes_sound : (s : Lists X) → Sound s → sound_test s ≡ true
  unfolding sound_test
  yes_sound s w =
      yes_and (distinct (all_pages s)) _ (once_distinct (all_pages s) (λ x. omega (arith, four x s, w.distinct x)))
      (yes_and _ _ (le-leb (residents s) s.c w.room) (yes_and _ _ (le-leb (length s.B1) s.c w.ghosts1)
      (yes_and _ _ (le-leb (length s.B2) s.c w.ghosts2) (le-leb s.target s.c w.aim))))

  -- pages and frames of entries that fit, and back
  fits_pages : (l : List (Entry X)) → Each Fits l → Each IsPage (pages l)
  fits_pages [] p = tt
  fits_pages (e ∷ l) p = (p.0.0, fits_pages l p.1)

  fits_frames : (l : List (Entry X)) → Each Fits l → Each IsFrame (map (λ e. e.frame) l)
  fits_frames [] p = tt
  fits_frames (e ∷ l) p = (p.0.1, fits_frames l p.1)

  fits_both : (l : List (Entry X)) → Each IsPage (pages l) → Each IsFrame (map (λ e. e.frame) l) → Each Fits l
  fits_both [] p q = tt
  fits_both (e ∷ l) p q = ((p.0, q.0), fits_both l p.1 q.1)

  frames_append : (l m : List (Entry X)) → map (λ e. e.frame) (l ++ m) ≡ map (λ e. e.frame) l ++ map (λ e. e.frame) m
  frames_append [] m = refl
  frames_append (e ∷ l) m = ap (λ t. e.frame ∷ t) (frames_append l m)

  ranged_yes : (s : Lists X) → ranged_test s ≡ true → Ranged s
  unfolding ranged_test
  ranged_yes s h =
      let t = and_yes (leb s.c max_capacity) _ h in
      let u = and_yes (below (2 ^ 64) (all_pages s)) (below (2 ^ 32) (all_frames s)) t.1 in
      let p = below_each (2 ^ 64) (all_pages s) u.0 in
      let a = pages s.T1 in
      let b = pages s.T2 in
      let left = each_left IsPage (a ++ b ++ s.B1) s.B2 p in
      let both = each_left IsPage (a ++ b) s.B1 left in
      let f = subst (Each IsFrame) (frames_append s.T1 s.T2) (below_each (2 ^ 32) (all_frames s) u.1) in
      record {
        capacity = leb-true s.c max_capacity t.0;
        recent = fits_both s.T1 (each_left IsPage a b both) (each_left IsFrame (map (λ e. e.frame) s.T1) (map (λ e. e.frame) s.T2) f);
        frequent = fits_both s.T2 (each_right IsPage a b both) (each_right IsFrame (map (λ e. e.frame) s.T1) (map (λ e. e.frame) s.T2) f);
        ghosts1 = each_right IsPage (a ++ b) s.B1 left;
        ghosts2 = each_right IsPage (a ++ b ++ s.B1) s.B2 p;
      }

  yes_ranged : (s : Lists X) → Ranged s → ranged_test s ≡ true
  unfolding ranged_test
  yes_ranged s r =
      let a = pages s.T1 in
      let b = pages s.T2 in
      let both = each_append IsPage a b (fits_pages s.T1 r.recent) (fits_pages s.T2 r.frequent) in
      let all = each_append IsPage (a ++ b ++ s.B1) s.B2 (each_append IsPage (a ++ b) s.B1 both r.ghosts1) r.ghosts2 in
      yes_and (leb s.c max_capacity) _ (le-leb s.c max_capacity r.capacity)
      (yes_and _ _ (each_below_all (2 ^ 64) (all_pages s) all)
      (each_below_all (2 ^ 32) (all_frames s) (fits_frames (s.T1 ++ s.T2) (each_append Fits s.T1 s.T2 r.recent r.frequent))))

-- ---- ARC's test, and CAR's
pub arc_test_lem : (s : Arc) → (arc_test s ≡ true) ↔ Arc.WellFormed s
unfolding arc_test
arc_test_lem s = (
  λ h. let t = and_yes (sound_test s) _ h in
      let r = and_yes (ranged_test s) _ t.1 in
      let u = and_yes (leb (length s.T1 + length s.B1) (s.c + 1)) (leb (in_all s) (2 * s.c + 1)) r.1 in
      record { obeys = record { sound = sound_yes s t.0; rows = leb-true _ _ u.0; all = leb-true _ _ u.1 }; ranged = ranged_yes s r.0 },
  λ w. yes_and (sound_test s) _ (yes_sound s w.obeys.sound) (yes_and (ranged_test s) _ (yes_ranged s w.ranged)
      (yes_and _ _ (le-leb (length s.T1 + length s.B1) (s.c + 1) w.obeys.rows) (le-leb (in_all s) (2 * s.c + 1) w.obeys.all))),
)

pub car_test_lem : (s : Car) → (car_test s ≡ true) ↔ Car.WellFormed s
unfolding car_test
car_test_lem s =
    let c = s.lists.c in
    let a = slots s.lists.T1 in
    let b = slots s.lists.T2 in
    let l = a ++ b ++ s.free in
    let all : (k : ℕ) → times k l ≡ taken k s.lists + times k s.free = λ k. omega (arith, times_append k (a ++ b) s.free, times_append k a b) in (
      λ h. let t = and_yes (sound_test s.lists) _ h in
          let r = and_yes (ranged_test s.lists) _ t.1 in
          let u = and_yes (below c l) (once_each c l) r.1 in
          record { obeys = record { sound = sound_yes s.lists t.0; slotted = λ k. sym (all k) ∙ slots_yes c l u.0 u.1 k }; ranged = ranged_yes s.lists r.0 },
      λ w. yes_and (sound_test s.lists) _ (yes_sound s.lists w.obeys.sound) (yes_and (ranged_test s.lists) _ (yes_ranged s.lists w.ranged)
          (yes_and _ _ (yes_below c l (λ k g. all k ∙ (w.obeys.slotted k ∙ ap one (le-ltb k c g))))
          (yes_each c l (λ k g. all k ∙ (w.obeys.slotted k ∙ ap one (lt-ltb k c g)))))),
    )

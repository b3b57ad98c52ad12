-- What answers the needs of the example. In order: a page fault on one area; the words of one guest; a request; the loop; the check of one guest, and of all; a round. Assumes nothing.
use mathlib.Core.Path.{◌≡◌, refl, sym, subst, ap, ◌∙◌}
use mathlib.Core.Bool.{Bool, true, false, not, cond}
use mathlib.Core.List.{List}
use Prim.Native.Nat.{ℕ, suc, ◌+◌, ◌*◌, ◌-◌, ◌^◌, ◌<◌, ◌≤◌}
use native.Mathlib.Omega.{arith}
use lib.Dec.{eqb, ltb}
use lib.ListN.{length, get_or, drop}
use borrow.Author.Rules.{rules}
use Rattle.std.specs.Prelude.{Option, Some, None, Result, Ok, Err, is_ok}
use borrow.Author.Tests.{ltb-true, ltb-false, eqb-true, eqb-false, not-true, not-false, lt-ltb, le-ltb, ne_eqb}
use Rattle.rules.specs.Calls.{Get, Insert, Answer, Done}
use Rattle.rules.specs.Public.{words_needed}
use Rattle.rules.specs.Arc.{Arc, does}
use Rattle.area.specs.Area.{capacity_of}
use Rattle.area.specs.Part.{splice}
use Rattle.area.proofs.Part.{length_part, length_splice, part_splice, part_above, part_below, drop_above}
use Rattle.answers.specs.Answers.{got_is, inserted_is}
use Rattle.answers.specs.declared.Inserted.{Inserted}
use Rattle.answers.specs.declared.Inserted.TheVariants as inserted
use Rattle.contracts.specs.Policy.{arc_policy, state_of}
use Rattle.contracts.specs.Inner.{Good, Did}
use Rattle.contracts.specs.Outer.{Making}
use Rattle.contracts.proofs.Exact.{arc_exact}
use Rattle.contracts.proofs.Reading.{reads_none}
use Rattle.opening.specs.Opening.{Opens}
use Rattle.opening.proofs.Public.{opened_good}
use Rattle.refusals.specs.declared.Refusal.{Refusal}
use Rattle.guests.specs.Guests.{Ready, held, spare, hits, faulted, served_is, Faulted, own, AllReady, FirstBad, Checks, Tells, Only, Started, Alone, Stepped, state_after, hits_after, Ran, Even, Fits}
use Rattle.guests.specs.declared.Served.{Served}
use Rattle.guests.specs.declared.Served.TheVariants as served

-- ---- a page fault on one area: the capacity c in its header is that of its cache
pub good_at : (c : ℕ) (w : List ℕ) → Ready w → c ≡ capacity_of w → Good arc_policy c w
good_at c w r e = subst (λ (n : ℕ). Good arc_policy n w) (sym e) r

pub ready_at : (c : ℕ) (w : List ℕ) → Good arc_policy c w → Ready w
ready_at c w g = subst (λ (n : ℕ). Good arc_policy n w) (sym g.stored.capacity) g

held_at : (c : ℕ) (w : List ℕ) → capacity_of w ≡ c → held w ≡ state_of arc_policy c w
held_at c w e = ap (λ (n : ℕ). state_of arc_policy n w) e

-- a call on a cache of the capacity c leaves the spare words
spare_kept : (c : ℕ) (w v : List ℕ) → capacity_of w ≡ c → capacity_of v ≡ c → drop (words_needed c) v ≡ drop (words_needed c) w → spare v ≡ spare w
spare_kept c w v e d r = rw (d, e) r

module _ (x f c : ℕ) (w v : List ℕ) (g : Option ℕ) (e : c ≡ capacity_of w) (d : Did arc_policy (Get x) c w v (got_is g)) where
  -- what `get` told and left
  answered : (a : Option ℕ) → g ≡ a → (does (Get x) (held w)).answer ≡ got_is a
  answered a q = ap (λ (s : Arc). (does (Get x) s).answer) (held_at c w (sym e)) ∙ sym d.answer ∙ ap got_is q

  left : held v ≡ (does (Get x) (held w)).state
  left = held_at c v d.good.stored.capacity ∙ d.state ∙ ap (λ (s : Arc). (does (Get x) s).state) (sym (held_at c w (sym e)))

  pub fault_hit : (h : ℕ) → g ≡ Some h → Faulted x f w v (served_is (served.Resident h))
  fault_hit h q =
      let a = answered (Some h) q in
      let n : faulted x f (held w) ≡ does (Get x) (held w) = rw (ap (λ b. eqb (hits b) 0) a) refl in
      record {
        ready = ready_at c v d.good;
        state = left ∙ ap (λ (t : Done Arc). t.state) (sym n);
        answer = sym a ∙ ap (λ (t : Done Arc). t.answer) (sym n);
        spares = spare_kept c w v (sym e) d.good.stored.capacity d.rest;
        size = d.size;
      }

  pub fault_miss : g ≡ None → (u : List ℕ) (r : Inserted) → Did arc_policy (Insert x f) c v u (inserted_is r) → Faulted x f w u (served_is (served.Filled r))
  fault_miss q u r i =
      let a = answered None q in
      let n : faulted x f (held w) ≡ does (Insert x f) (does (Get x) (held w)).state = rw (ap (λ b. eqb (hits b) 0) a) refl in
      let m : does (Insert x f) (state_of arc_policy c v) ≡ faulted x f (held w) = ap (does (Insert x f)) (sym (held_at c v d.good.stored.capacity) ∙ left) ∙ sym n in
      record {
        ready = ready_at c u i.good;
        state = held_at c u i.good.stored.capacity ∙ i.state ∙ ap (λ (t : Done Arc). t.state) m;
        answer = i.answer ∙ ap (λ (t : Done Arc). t.answer) m;
        spares = spare_kept c w u (sym e) i.good.stored.capacity (i.rest ∙ d.rest);
        size = i.size ∙ d.size;
      }

pub inserted_no_hit : (r : Inserted) → 0 ≡ hits (inserted_is r)
inserted_no_hit inserted.New = refl
inserted_no_hit (inserted.Out p f l n) = refl
inserted_no_hit (inserted.Old f) = refl
inserted_no_hit inserted.None = refl

-- ---- the words of one guest
module _ (g : ℕ) (w u : List ℕ) (few : g < 6) (size : 9600 ≤ length w) (same : length u ≡ length (own g w)) where
  abbrev after : List ℕ
  after = splice (g * 1600) (g * 1600 + 1600) u w

  width : length u ≡ g * 1600 + 1600 - g * 1600
  width = same ∙ length_part (g * 1600) (g * 1600 + 1600) w (omega arith) (omega arith)

  own_is : own g after ≡ u
  own_is = part_splice (g * 1600) (g * 1600 + 1600) u w (omega arith) (omega arith) width

  other_is : (i : ℕ) → (i ≡ g → ⊥) → (b : Bool) → ltb i g ≡ b → own i after ≡ own i w
  other_is i n true s =
      let k = ltb-true i g s in
      part_below (g * 1600) (g * 1600 + 1600) u w (omega arith) (omega arith) width (i * 1600) (i * 1600 + 1600) (omega arith) (omega arith)
  other_is i n false s =
      let k = ltb-false i g s in
      let o : g < i = omega (arith, n) in
      part_above (g * 1600) (g * 1600 + 1600) u w (omega arith) (omega arith) width (i * 1600) (i * 1600 + 1600) (omega arith)

  only : Only g w after
  only =
      record {
        others = λ i h n. other_is i n (ltb i g) refl;
        size = length_splice (g * 1600) (g * 1600 + 1600) u w (omega arith) (omega arith) width;
        rest = drop_above (g * 1600) (g * 1600 + 1600) u w (omega arith) (omega arith) width 9600 (omega arith);
      }

pub alone : (g x f : ℕ) (w u : List ℕ) (a : Answer) → g < 6 → 9600 ≤ length w → Faulted x f (own g w) u a → Alone g x f w (splice (g * 1600) (g * 1600 + 1600) u w) a
alone g x f w u a few size d = record { served = rw (own_is g w u few size d.size) d; only = only g w u few size d.size }

pub started : (g c : ℕ) (w u : List ℕ) (a : Answer) → g < 6 → 9600 ≤ length w → Making arc_policy c (own g w) u a → Started g c w (splice (g * 1600) (g * 1600 + 1600) u w) a
started g c w u a few size d = record { made = rw (own_is g w u few size d.size) d; only = only g w u few size d.size }

-- ---- a request
served_few : (s : Served) → hits (served_is s) ≤ 1
served_few (served.Resident f) = omega arith
served_few (served.Filled r) = omega (arith, inserted_no_hit r)

pub hits_resident : (s : Served) (f : ℕ) → s ≡ served.Resident f → 1 ≡ hits (served_is s)
hits_resident s f q = rw q refl

pub hits_filled : (s : Served) (r : Inserted) → s ≡ served.Filled r → 0 ≡ hits (served_is s)
hits_filled s r q = rw q (inserted_no_hit r)

pub stepped : (g x f n : ℕ) (w v : List ℕ) (s : Served) → AllReady w → g < 6 → Alone g x f w v (served_is s) → n ≡ hits (served_is s) → Stepped g x f w v n
stepped g x f n w v s all few d e =
    record {
      ready = record { size = rw d.only.size all.size; each = λ i h. ready_by i h (eqb g i) refl };
      states = λ i h. state_by i h (eqb g i) refl;
      hits = rw (lt-ltb g 6 few) (e ∙ ap hits d.served.answer);
      few = rw e (served_few s);
      spares = λ i h. spare_by i h (eqb g i) refl;
      size = d.only.size;
      rest = d.only.rest;
    }
  where
    ready_by : (i : ℕ) → i < 6 → (b : Bool) → eqb g i ≡ b → Ready (own i v)
    ready_by i h true q = rw (sym (eqb-true g i q)) d.served.ready
    ready_by i h false q = rw (d.only.others i h (λ z. eqb-false g i q (sym z))) (all.each i h)

    state_by : (i : ℕ) → i < 6 → (b : Bool) → eqb g i ≡ b → held (own i v) ≡ cond b (faulted x f (held (own i w))).state (held (own i w))
    state_by i h true q = rw (sym (eqb-true g i q)) d.served.state
    state_by i h false q = ap held (d.only.others i h (λ z. eqb-false g i q (sym z)))

    spare_by : (i : ℕ) → i < 6 → (b : Bool) → eqb g i ≡ b → spare (own i v) ≡ spare (own i w)
    spare_by i h true q = rw (sym (eqb-true g i q)) d.served.spares
    spare_by i h false q = ap spare (d.only.others i h (λ z. eqb-false g i q (sym z)))

pub skipped : (g x f : ℕ) (w : List ℕ) → AllReady w → 6 ≤ g → Stepped g x f w w 0
skipped g x f w all many =
    record {
      ready = all;
      states = λ i h. rw (ne_eqb g i (λ e. omega arith)) refl;
      hits = rw (le-ltb g 6 many) refl;
      few = omega arith;
      spares = λ i h. refl;
      size = refl;
      rest = refl;
    }

-- ---- the loop: the words w₀ became w in i requests, of which n were hits
pub record RunTo (gs ps fs w₀ w : List ℕ) (n i : ℕ) : Type 0 where
  pub short : length gs < 2 ^ 63
  pub even : Even gs ps fs
  pub inside : i ≤ length gs
  pub few : n ≤ i
  pub ready : AllReady w
  pub states : (j : ℕ) → j < 6 → held (own j w) ≡ state_after gs ps fs w₀ i j
  pub hits : n ≡ hits_after gs ps fs w₀ i
  pub spares : (j : ℕ) → j < 6 → spare (own j w) ≡ spare (own j w₀)
  pub size : length w ≡ length w₀
  pub rest : drop 9600 w ≡ drop 9600 w₀

pub begins : (gs ps fs w : List ℕ) → length gs < 2 ^ 63 → AllReady w → Even gs ps fs → RunTo gs ps fs w w 0 0
unfolding state_after hits_after
begins gs ps fs w short all even =
    record { short = short; even = even; inside = omega arith; few = omega arith; ready = all; states = λ j h. refl; hits = refl; spares = λ j h. refl; size = refl; rest = refl }

module _ (gs ps fs w₀ w : List ℕ) (n i : ℕ) (r : RunTo gs ps fs w₀ w n i) where
  pub again : (v : List ℕ) (m : ℕ) → i < length gs → Stepped (get_or gs i 0) (get_or ps i 0) (get_or fs i 0) w v m → RunTo gs ps fs w₀ v (n + m) (i + 1)
  unfolding state_after hits_after
  again v m inside d =
      let e : i + 1 ≡ suc i = omega arith in
      rw e
      (record {
        short = r.short;
        even = r.even;
        inside = omega arith;
        few = omega (arith, r.few, d.few);
        ready = d.ready;
        states = λ j h. d.states j h ∙ ap (λ (s : Arc). cond (eqb (get_or gs i 0) j) (faulted (get_or ps i 0) (get_or fs i 0) s).state s) (r.states j h);
        hits = ap (λ (k : ℕ). k + m) r.hits ∙ ap (λ (k : ℕ). hits_after gs ps fs w₀ i + k) (d.hits ∙ by (ltb (get_or gs i 0) 6) refl);
        spares = λ j h. d.spares j h ∙ r.spares j h;
        size = d.size ∙ r.size;
        rest = d.rest ∙ r.rest;
      })
    where
      by : (b : Bool) → ltb (get_or gs i 0) 6 ≡ b
          → cond b (hits (faulted (get_or ps i 0) (get_or fs i 0) (held (own (get_or gs i 0) w))).answer) 0 ≡ cond b (hits (faulted (get_or ps i 0) (get_or fs i 0) (state_after gs ps fs w₀ i (get_or gs i 0))).answer) 0
      by false q = refl
      by true q = ap (λ (s : Arc). hits (faulted (get_or ps i 0) (get_or fs i 0) s).answer) (r.states (get_or gs i 0) (ltb-true (get_or gs i 0) 6 q))

  pub ran : length gs ≤ i → Ran gs ps fs w₀ w n
  ran over =
      let e : i ≡ length gs = omega (arith, r.inside) in
      record {
        ready = r.ready;
        states = λ j h. r.states j h ∙ ap (λ (k : ℕ). state_after gs ps fs w₀ k j) e;
        hits = r.hits ∙ ap (hits_after gs ps fs w₀) e;
        spares = r.spares;
        size = r.size;
        rest = r.rest;
      }

-- ---- the check of one guest
pub tells : (g : ℕ) (w : List ℕ) (o : Result ℕ Refusal) → Opens 1 (own g w) o → Tells g w (is_ok o)
tells g w (Ok c) h =
    record {
      ready = λ _. ready_at c (own g w) (opened_good arc_policy (Ok c) (own g w) h arc_exact c refl);
      bad = λ z. let y : ◌≡◌ {A = Bool} true false = z in absurd (cc);
    }
tells g w (Err r) h =
    record {
      ready = λ z. let y : ◌≡◌ {A = Bool} false true = z in absurd (cc);
      bad = λ _. reads_none arc_policy (own g w) h.1;
    }

-- ---- the check of all: the guests below g are ready
pub record CheckedTo (w : List ℕ) (g : ℕ) : Type 0 where
  pub size : 9600 ≤ length w
  pub inside : g ≤ 6
  pub before : (i : ℕ) → i < g → Ready (own i w)

pub none_checked : (w : List ℕ) → 9600 ≤ length w → CheckedTo w 0
none_checked w size = record { size = size; inside = omega arith; before = λ i h. absurd (omega arith) }

module _ (w : List ℕ) (g : ℕ) (c : CheckedTo w g) where
  pub one_more : (b : Bool) → Tells g w b → not b ≡ false → g < 6 → CheckedTo w (g + 1)
  one_more b t q few = record { size = c.size; inside = omega arith; before = λ i h. by i h (ltb i g) refl }
    where
      by : (i : ℕ) → i < g + 1 → (s : Bool) → ltb i g ≡ s → Ready (own i w)
      by i h true s = c.before i (ltb-true i g s)
      by i h false s =
          let k = ltb-false i g s in
          let e : i ≡ g = omega arith in
          rw e (t.ready (not-false b q))

  pub first_bad : (b : Bool) → Tells g w b → not b ≡ true → g < 6 → FirstBad g w
  first_bad b t q few = record { guest = few; bad = t.bad (not-true b q); before = c.before }

  pub all_checked : 6 ≤ g → AllReady w
  all_checked over =
      let e : g ≡ 6 = omega (arith, c.inside) in
      record { size = c.size; each = λ i h. c.before i (omega arith) }

-- ---- a round
module _ (w : List ℕ) (r : Result (Unit {0}) ℕ) (h : Checks w r) where
  pub checks_all : (u : Unit {0}) → r ≡ Ok u → AllReady w
  checks_all u q = subst (λ (y : Result (Unit {0}) ℕ). Checks w y) q h

  pub checks_refused : (g : ℕ) → r ≡ Err g → FirstBad g w
  checks_refused g q = subst (λ (y : Result (Unit {0}) ℕ). Checks w y) q h

pub checked_ok : (w : List ℕ) (r : Result (Unit {0}) ℕ) → Checks w r → is_ok r ≡ true → AllReady w
checked_ok w (Ok u) h e = h
checked_ok w (Err g) h e = let z : ◌≡◌ {A = Bool} false true = e in absurd (cc)

module _ (gs ps fs w : List ℕ) where
  pub too_short : length w < 9600 → (Fits gs ps fs w → ⊥) × (w ≡ w)
  too_short h = (λ f. omega (arith, f.areas), refl)

  pub uneven_pages : (length ps ≡ length gs → ⊥) → (Fits gs ps fs w → ⊥) × (w ≡ w)
  uneven_pages h = (λ f. h f.even.pages, refl)

  pub uneven_frames : (length fs ≡ length gs → ⊥) → (Fits gs ps fs w → ⊥) × (w ≡ w)
  uneven_frames h = (λ f. h f.even.frames, refl)

pub ruleset laws = (good_at, fault_hit, fault_miss, hits_resident, hits_filled, stepped, skipped, begins, again, ran, tells, none_checked, one_more, first_bad, all_checked, checks_all, checks_refused, too_short, uneven_pages, uneven_frames, rules)

-- The laws that answer the needs of `shown`, `places`, `alone` and `check`. In order: the numbers; a bucket in which the cell x stands both first and last; the loop of `check`. Assumes nothing.
use mathlib.Core.Path.{◌≡◌, refl, sym, ap, ◌∙◌}
use mathlib.Core.Bool.{Bool, true, false, cond, false≢true}
use mathlib.Core.Logic.{⊎_elim}
use mathlib.Core.List.{List}
use Prim.Native.Nat.{ℕ, zero, suc, ◌+◌, ◌-◌, ◌^◌, ◌<◌, ◌≤◌}
use native.Mathlib.Omega.{arith}
use native.Mathlib.Numerals.{add-one}
use native.Mathlib.Nat.{mod-eq_of_lt}
use lib.Dec.{eqb, ltb}
use mir.Val.{Fits}
use mir.Syntax.{w64}
use borrow.Author.Rules.{rules}
use borrow.Author.Tests.{eqb-true, ltb-true, eq-eqb, ne_eqb, lt-ltb, le-ltb}
use Rattle.cells.specs.Cells.{next_of, prev_of}
use Rattle.rings.proofs.Members.{same_or_other, low_or_high}
use Rattle.lookup.specs.declared.Divisor.{Divisor}
use Rattle.lookup.specs.Buckets.{bucket_of}
use Rattle.lookup.specs.Dividing.{DivisorOf}
use Rattle.lookup.specs.Part.{page_of, links_of, Room}
use Rattle.std.specs.Prelude.{Option, Some, None}
use Rattle.lookup_check.specs.Check.{shown_page, places_at, alone_test, walk_of, walk_on, walks_of, used_up, lookup_test, CanWalk, CanPass}
use Rattle.lookup_check.proofs.Ends.{last_closes, last_strays}
use Rattle.lookup_check.proofs.Walking.{bucket_root, bucket_fits, walk_fits, walk_cell, walk_word, walk_belong, first_full, first_astray, first_closed, first_unlinked, first_strange, first_rest}

-- THE NUMBERS
pub shown_place : (m x p : ℕ) → x < m → p ≡ shown_page m x p
unfolding shown_page
shown_place m x p l = simp (lt-ltb x m l)

pub shown_sentinel : (m x p : ℕ) → m ≤ x → x - m ≡ shown_page m x p
unfolding shown_page
shown_sentinel m x p l = simp (le-ltb x m l)

pub one_place : (m x : ℕ) → x < m → 1 ≡ places_at m x
unfolding places_at
one_place m x l = simp (lt-ltb x m l)

pub no_place : (m x : ℕ) → m ≤ x → 0 ≡ places_at m x
unfolding places_at
no_place m x l = simp (le-ltb x m l)

-- the number of a cell fits in a word
pub walk_cells_fit : (w : List ℕ) (m : ℕ) (d : Divisor) (b : ℕ) → CanWalk w m d b → Fits w64 (m + d.k)
walk_cells_fit w m d b can = let l : m + d.k < 2 ^ 64 = can.room.fits in omega arith

-- THE TEST of x, where it stands both first and last
module _ (w : List ℕ) (m k b x : ℕ) where
  pub alone_outside : m + k ≤ x → false ≡ alone_test w m k b x
  unfolding alone_test
  alone_outside h = simp (le-ltb x (m + k) h)

  module _ (h : x < m + k) (y : ℕ) (q : y ≡ next_of (links_of m w) x) where
    pub alone_not_after : (y ≡ m + b → ⊥) → false ≡ alone_test w m k b x
    unfolding alone_test
    alone_not_after n = simp (lt-ltb x (m + k) h, ne_eqb (next_of (links_of m w) x) (m + b) (rw q at n))

    module _ (e : y ≡ m + b) (z : ℕ) (v : z ≡ prev_of (links_of m w) x) where
      pub alone_not_before : (z ≡ m + b → ⊥) → false ≡ alone_test w m k b x
      unfolding alone_test
      alone_not_before n = simp (lt-ltb x (m + k) h, eq-eqb (next_of (links_of m w) x) (m + b) (rw q at e), ne_eqb (prev_of (links_of m w) x) (m + b) (rw v at n))

      pub alone_tells : (p d : ℕ) (t : Bool) → z ≡ m + b → p ≡ page_of w x → d ≡ shown_page m x p → t ≡ eqb (bucket_of k d) b → t ≡ alone_test w m k b x
      unfolding alone_test
      alone_tells p d t f i j o = o ∙ rw (j, i) (sym (simp (lt-ltb x (m + k) h, eq-eqb (next_of (links_of m w) x) (m + b) (rw q at e), eq-eqb (prev_of (links_of m w) x) (m + b) (rw v at f))))

-- what it tells
record Alone (w : List ℕ) (m k b x : ℕ) : Type 0 where
  pub cell : x < m + k
  pub after : next_of (links_of m w) x ≡ m + b
  pub before : prev_of (links_of m w) x ≡ m + b
  pub home : bucket_of k (shown_page m x (page_of w x)) ≡ b

alone_sound : (w : List ℕ) (m k b x : ℕ) → alone_test w m k b x ≡ true → Alone w m k b x
unfolding alone_test
alone_sound w m k b x = go (ltb x (m + k)) (eqb (next_of (links_of m w) x) (m + b)) (eqb (prev_of (links_of m w) x) (m + b)) refl refl refl
  where
    go : (t u v : Bool) → ltb x (m + k) ≡ t → eqb (next_of (links_of m w) x) (m + b) ≡ u → eqb (prev_of (links_of m w) x) (m + b) ≡ v → cond t (cond u (cond v (eqb (bucket_of k (shown_page m x (page_of w x))) b) false) false) false ≡ true → Alone w m k b x
    go true true true i j l e = record { cell = ltb-true _ _ i; after = eqb-true _ _ j; before = eqb-true _ _ l; home = eqb-true _ _ e }
    go true true false i j l e = absurd (false≢true e)
    go true false v i j l e = absurd (false≢true e)
    go false u v i j l e = absurd (false≢true e)

alone_complete : (w : List ℕ) (m k b x : ℕ) → Alone w m k b x → alone_test w m k b x ≡ true
unfolding alone_test
alone_complete w m k b x a =
    simp (lt-ltb x (m + k) a.cell, eq-eqb (next_of (links_of m w) x) (m + b) a.after, eq-eqb (prev_of (links_of m w) x) (m + b) a.before, eq-eqb (bucket_of k (shown_page m x (page_of w x))) b a.home)

-- a sentinel shows a page of its own bucket
sentinel_home : (m k x p : ℕ) → m ≤ x → x < m + k → bucket_of k (shown_page m x p) ≡ x - m
unfolding bucket_of shown_page
sentinel_home m k x p l h = simp (le-ltb x m l) (mod-eq_of_lt (let i : x - m < k = omega arith in i))

place_home : (w : List ℕ) (m k x : ℕ) → x < m → bucket_of k (shown_page m x (page_of w x)) ≡ bucket_of k (page_of w x)
unfolding shown_page
place_home w m k x l = simp (lt-ltb x m l)

-- THE WALK of a bucket in which x stands both first and last
module _ (w : List ℕ) (m k b most x : ℕ) (small : b < k) (q : x ≡ next_of (links_of m w) (m + b)) (v : x ≡ prev_of (links_of m w) (m + b)) where
  alone_place : x < m → (most ≡ 0 → ⊥) → Alone w m k b x → Some (most - 1) ≡ walk_of w m k b most
  alone_place l n a =
      first_rest w m k b most x q _ l n refl _ a.before refl true (sym (eq-eqb (bucket_of k (page_of w x)) b (sym (place_home w m k x l) ∙ a.home))) _ refl (sym (last_closes w m k b (most - 1) x l (sym v) a.after))

  alone_sentinel : m ≤ x → Alone w m k b x → Some most ≡ walk_of w m k b most
  alone_sentinel l a =
      let e : x - m ≡ b = sym (sentinel_home m k x (page_of w x) l a.cell) ∙ a.home in
      let s : x ≡ m + b = omega arith in
      first_closed w m k b most x q l s (sym v ∙ s)

  -- whatever x is: it takes so many of the budget
  alone_left : places_at m x ≤ most → Alone w m k b x → Some (most - places_at m x) ≡ walk_of w m k b most
  alone_left h a =
      ⊎_elim
      (λ l. rw (sym (one_place m x l)) (alone_place l (let i : 1 ≤ most = rw (sym (one_place m x l)) at h in λ z. let o : ⊥ = omega arith in o) a))
      (λ l. rw (sym (no_place m x l)) (ap Some (let z : most - 0 ≡ most = omega arith in z) ∙ alone_sentinel l a))
      (low_or_high x m)

  -- which may be too small
  alone_full : most < places_at m x → None ≡ walk_of w m k b most
  alone_full h =
      ⊎_elim
      (λ l. first_full w m k b most x q l (let i : most < 1 = rw (sym (one_place m x l)) at h in omega arith))
      (λ l. absurd (let i : most < 0 = rw (sym (no_place m x l)) at h in let o : ⊥ = omega arith in o))
      (low_or_high x m)

  -- a sentinel that is not alone is that of another bucket
  crowd_sentinel : m ≤ x → (Alone w m k b x → ⊥) → None ≡ walk_of w m k b most
  crowd_sentinel l n =
      first_astray w m k b most x q l (λ s. n (record { cell = omega arith; after = ap (next_of (links_of m w)) s ∙ sym q ∙ s; before = ap (prev_of (links_of m w)) s ∙ sym v ∙ s; home = sentinel_home m k x (page_of w x) l (omega arith) ∙ (let e : x - m ≡ b = omega arith in e) }))

  -- a place that is not alone stands in no bucket of one: not after the sentinel, not of this bucket, or not before the sentinel
  crowd_place : x < m → (most ≡ 0 → ⊥) → (Alone w m k b x → ⊥) → None ≡ walk_of w m k b most
  crowd_place l n o = ⊎_elim linked (λ e. first_unlinked w m k b most x q _ l n refl e) (same_or_other (prev_of (links_of m w) x) (m + b))
    where
      strays : prev_of (links_of m w) x ≡ m + b → bucket_of k (page_of w x) ≡ b → None ≡ walk_of w m k b most
      strays e h =
          first_rest w m k b most x q _ l n refl _ e refl true (sym (eq-eqb (bucket_of k (page_of w x)) b h)) None refl (sym (last_strays w m k b (most - 1) x l (sym v) (λ c. o (record { cell = omega arith; after = c; before = e; home = place_home w m k x l ∙ h }))))

      linked : prev_of (links_of m w) x ≡ m + b → None ≡ walk_of w m k b most
      linked e =
          ⊎_elim (λ h. strays e h) (λ h. first_strange w m k b most x q _ l n refl _ e refl false (sym (ne_eqb (bucket_of k (page_of w x)) b h)) refl) (same_or_other (bucket_of k (page_of w x)) b)

  crowd : (Alone w m k b x → ⊥) → None ≡ walk_of w m k b most
  crowd n = ⊎_elim (λ l. ⊎_elim (λ e. first_full w m k b most x q l e) (λ e. crowd_place l e n) (same_or_other most 0)) (λ l. crowd_sentinel l n) (low_or_high x m)

-- THE LOOP of `check`: b buckets are walked
pub record Checked (w : List ℕ) (m k live left b : ℕ) : Type 0 where
  pub within : b ≤ k
  pub same : walks_of w m k live b ≡ Some left

pub check_start : (w : List ℕ) (m k live : ℕ) → Checked w m k live live 0
unfolding walks_of
check_start w m k live = record { within = omega arith; same = refl }

pub check_some : (w : List ℕ) (m k : ℕ) → Room w m k → 0 < k
check_some w m k room = room.some

pub check_walks : (w : List ℕ) (m k : ℕ) (d : Divisor) (b : ℕ) → Room w m k → DivisorOf k d → b < k → CanWalk w m d b
check_walks w m k d b room q h = record { room = rw q.is room; divides = q.divides; bucket = rw q.is h }

pub check_passes : (w : List ℕ) (m : ℕ) (d : Divisor) (b x z : ℕ) → CanWalk w m d b → x ≡ next_of (links_of m w) (m + b) → z ≡ prev_of (links_of m w) (m + b) → (x ≡ z → ⊥) → CanPass w m d b x z
check_passes w m d b x z can q v n = record { walk = can; first = q; last = v; other = n }

-- bad walks stay bad
stays_bad : (w : List ℕ) (m k live n to : ℕ) → n ≤ to → walks_of w m k live n ≡ None → walks_of w m k live to ≡ None
unfolding walks_of
stays_bad w m k live n zero h e = ap (walks_of w m k live) (let z : 0 ≡ n = omega arith in z) ∙ e
stays_bad w m k live n (suc to) h e =
    ⊎_elim (λ q. ap (walks_of w m k live) (sym q) ∙ e) (λ d. ap (walk_on w m k to) (stays_bad w m k live n to (omega arith) e)) (same_or_other n (suc to))

module _ (w : List ℕ) (m k live left b : ℕ) (g : Checked w m k live left b) where
  one_more : (r : Option ℕ) → r ≡ walk_of w m k b left → walks_of w m k live (suc b) ≡ r
  unfolding walks_of
  one_more r q = ap (walk_on w m k b) g.same ∙ sym q

  pub check_bad : (r : Option ℕ) → b < k → r ≡ walk_of w m k b left → r ≡ None → false ≡ lookup_test w m k live
  unfolding lookup_test
  check_bad r h q e = sym (ap used_up (stays_bad w m k live (suc b) k h (one_more r q ∙ e)))

  pub check_turn : (r : Option ℕ) (n : ℕ) → b < k → r ≡ walk_of w m k b left → r ≡ Some n → Checked w m k live n (b + 1)
  check_turn r n h q e = rw (add-one b) (record { within = h; same = one_more r q ∙ e })

  pub check_end : k ≤ b → eqb left 0 ≡ lookup_test w m k live
  unfolding lookup_test
  check_end h = let e : b ≡ k = let l : b ≤ k = g.within in omega arith in ap used_up (sym (rw e at g.same))

  -- by `walk`, where d has the number of buckets
  module _ (d : Divisor) (r : Option ℕ) (h : b < k) (i : DivisorOf k d) (q : r ≡ walk_of w m d.k b left) where
    pub check_walk_bad : r ≡ None → false ≡ lookup_test w m k live
    check_walk_bad e = check_bad r h (rw i.is at q) e

    pub check_walk_turn : (n : ℕ) → r ≡ Some n → Checked w m k live n (b + 1)
    check_walk_turn n e = check_turn r n h (rw i.is at q) e

  -- by `alone`: x stands both first and last
  module _ (d : Divisor) (x z n : ℕ) (h : b < k) (i : DivisorOf k d) (q : x ≡ next_of (links_of m w) (m + b)) (v : z ≡ prev_of (links_of m w) (m + b)) (e : x ≡ z) (u : n ≡ places_at m x) where
    pub check_short : left < n → false ≡ lookup_test w m k live
    check_short l = check_bad None h (alone_full w m k b left x h q (e ∙ v) (rw u at l)) refl

    pub check_crowd : (t : Bool) → t ≡ alone_test w m d.k b x → t ≡ false → false ≡ lookup_test w m k live
    check_crowd t o j = check_bad None h (crowd w m k b left x h q (e ∙ v) (λ a. false≢true (sym j ∙ (rw i.is at o) ∙ alone_complete w m k b x a))) refl

    pub check_alone : (t : Bool) → n ≤ left → t ≡ alone_test w m d.k b x → t ≡ true → Checked w m k live (left - n) (b + 1)
    check_alone t l o j = check_turn _ (left - n) h (rw u (alone_left w m k b left x h q (e ∙ v) (rw u at l) (alone_sound w m k b x (sym (rw i.is at o) ∙ j)))) refl

pub ruleset laws = (shown_place, shown_sentinel, one_place, no_place, walk_cells_fit, walk_cell, walk_word, walk_fits, walk_belong, alone_outside, alone_not_after, alone_not_before, alone_tells, rules)

pub ruleset check_laws = (check_start, bucket_root, bucket_fits, check_some, check_walks, check_passes, check_walk_bad, check_walk_turn, check_end, check_short, check_crowd, check_alone, rules)

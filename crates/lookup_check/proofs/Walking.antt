-- The laws that answer the needs of `walk_on` and `walk`. The walk of bucket b has come to cur, after which x stands. Assumes nothing.
use mathlib.Core.Path.{◌≡◌, refl, sym, ◌∙◌}
use mathlib.Core.Bool.{Bool, true, false, cond}
use mathlib.Core.Logic.{⊎_elim}
use mathlib.Core.List.{List}
use Prim.Native.Nat.{ℕ, suc, ◌+◌, ◌-◌, ◌*◌, ◌^◌, ◌<◌, ◌≤◌}
use native.Mathlib.Omega.{arith}
use lib.ListN.{length, length-drop}
use lib.Dec.{eqb}
use mir.Val.{Fits}
use mir.Syntax.{w64}
use borrow.Author.Rules.{rules}
use borrow.Author.Tests.{eq-eqb, ne_eqb, lt-ltb, le-ltb, le-leb, lt-leb}
use Rattle.cells.specs.Cells.{next_of, prev_of, In}
use Rattle.cells.proofs.Laws.{in_cells}
use Rattle.rings.proofs.Members.{same_or_other}
use Rattle.lookup.specs.declared.Divisor.{Divisor}
use Rattle.lookup.specs.Buckets.{bucket_of}
use Rattle.lookup.specs.Dividing.{Divides}
use Rattle.lookup.specs.Part.{page_of, links_of, Room}
use Rattle.lookup.specs.Changes.{CanReach}
use Rattle.std.specs.Prelude.{Option, Some, None}
use Rattle.lookup_check.specs.Check.{least_after, suits_test, closing, walk_from, walk_of, CanWalk, CanPass, CanGoOn}
use Rattle.lookup_check.proofs.Steps.{walk_over, walk_step, walk_last}
use Rattle.lookup_check.proofs.Ends.{last_closes, last_strays}

-- the test of a place x: its bucket, and its page above that of cur, where that is a place
suited : (w : List ℕ) (m k b cur x : ℕ) → eqb (bucket_of k (page_of w x)) b ≡ true → least_after w m cur ≤ page_of w x → suits_test w m k b cur x ≡ true
unfolding suits_test
suited w m k b cur x e h = rw e (le-leb (least_after w m cur) (page_of w x) h)

strange : (w : List ℕ) (m k b cur x : ℕ) → eqb (bucket_of k (page_of w x)) b ≡ false → suits_test w m k b cur x ≡ false
unfolding suits_test
strange w m k b cur x e = rw e refl

falls : (w : List ℕ) (m k b cur x : ℕ) → cur < m → page_of w x ≤ page_of w cur → suits_test w m k b cur x ≡ false
unfolding suits_test least_after
falls w m k b cur x l h = rw (lt-ltb cur m l, lt-leb (suc (page_of w cur)) (page_of w x) (omega arith)) (go (eqb (bucket_of k (page_of w x)) b))
  where
    go : (t : Bool) → cond t false false ≡ false
    go true = refl
    go false = refl

first_least : (w : List ℕ) (m cur x : ℕ) → m ≤ cur → least_after w m cur ≤ page_of w x
unfolding least_after
first_least w m cur x l = rw (le-ltb cur m l) (omega arith)

next_least : (w : List ℕ) (m cur x : ℕ) → cur < m → page_of w cur < page_of w x → least_after w m cur ≤ page_of w x
unfolding least_after
next_least w m cur x l h = rw (lt-ltb cur m l) h

-- what the walk asks: the sentinel of a bucket; any cell, and its word among the pages
pub bucket_root : (w : List ℕ) (m k b : ℕ) → Room w m k → b < k → CanReach w m (m + b)
bucket_root w m k b room h = record { pages = room.pages; cell = in_cells (links_of m w) (m + k) (m + b) room.links (omega arith) }

pub bucket_fits : (w : List ℕ) (m k b : ℕ) → Room w m k → b < k → Fits w64 (m + b)
bucket_fits w m k b room h = let l : m + k < 2 ^ 64 = room.fits in omega arith

pub walk_root : (w : List ℕ) (m : ℕ) (d : Divisor) (b : ℕ) → CanWalk w m d b → CanReach w m (m + b)
walk_root w m d b can = bucket_root w m d.k b can.room can.bucket

pub walk_fits : (w : List ℕ) (m : ℕ) (d : Divisor) (b : ℕ) → CanWalk w m d b → Fits w64 (m + b)
walk_fits w m d b can = bucket_fits w m d.k b can.room can.bucket

pub walk_cell : (w : List ℕ) (m : ℕ) (d : Divisor) (b x : ℕ) → CanWalk w m d b → x < m + d.k → CanReach w m x
walk_cell w m d b x can l = record { pages = can.room.pages; cell = in_cells (links_of m w) (m + d.k) x can.room.links l }

pub walk_word : (w : List ℕ) (m : ℕ) (d : Divisor) (b x : ℕ) → CanWalk w m d b → x < m + d.k → x < length w
unfolding links_of In
walk_word w m d b x can l = let h : 2 * x + 1 < length w - m = simp length-drop at (in_cells (links_of m w) (m + d.k) x can.room.links l) in omega arith

pub walk_in : (w : List ℕ) (m : ℕ) (d : Divisor) (b x : ℕ) → CanWalk w m d b → x < m → CanReach w m x
walk_in w m d b x can l = walk_cell w m d b x can (omega arith)

pub walk_page : (w : List ℕ) (m : ℕ) (d : Divisor) (b x : ℕ) → CanWalk w m d b → x < m → x < length w
walk_page w m d b x can l = walk_word w m d b x can (omega arith)

pub walk_belong : (w : List ℕ) (m : ℕ) (d : Divisor) (b : ℕ) → CanWalk w m d b → Divides d × (b < d.k)
walk_belong w m d b can = (can.divides, can.bucket)

-- THE LOOP of `walk_on`, and the first step of `walk`: `whole` is what the whole walk gives
pub record Walked (w : List ℕ) (m k b : ℕ) (whole : Option ℕ) (left cur x : ℕ) : Type 0 where
  pub after : x ≡ next_of (links_of m w) cur
  pub same : walk_from w m k b left cur ≡ whole

module _ (w : List ℕ) (m k b : ℕ) (whole : Option ℕ) (left cur x : ℕ) (g : Walked w m k b whole left cur x) where
  pub walk_full : x < m → left ≡ 0 → None ≡ whole
  walk_full l q = sym (walk_over w m k b left cur q (rw g.after at l)) ∙ g.same

  turn : x < m → (left ≡ 0 → ⊥) → walk_from w m k b left cur ≡ cond (eqb (prev_of (links_of m w) x) cur) (cond (suits_test w m k b cur x) (walk_from w m k b (left - 1) x) None) None
  turn l n = rw g.after (walk_step w m k b left (left - 1) cur (omega arith) (rw g.after at l))

  module _ (y : ℕ) (l : x < m) (n : left ≡ 0 → ⊥) (q : y ≡ prev_of (links_of m w) x) where
    pub walk_unlinked : (y ≡ cur → ⊥) → None ≡ whole
    walk_unlinked e = sym (turn l n ∙ simp (ne_eqb (prev_of (links_of m w) x) cur (rw q at e))) ∙ g.same

    pub walk_linked : y ≡ cur → cond (suits_test w m k b cur x) (walk_from w m k b (left - 1) x) None ≡ whole
    walk_linked e = sym (turn l n ∙ simp (eq-eqb (prev_of (links_of m w) x) cur (rw q at e))) ∙ g.same

  last : m ≤ x → closing (links_of m w) (m + b) left cur ≡ whole
  last l = sym (walk_last w m k b left cur (rw g.after at l)) ∙ g.same

  pub walk_astray : m ≤ x → (x ≡ m + b → ⊥) → None ≡ whole
  unfolding closing
  walk_astray l e = sym (simp (ne_eqb (next_of (links_of m w) cur) (m + b) (rw g.after at e))) ∙ last l

  pub walk_unclosed : (y : ℕ) → m ≤ x → x ≡ m + b → y ≡ prev_of (links_of m w) (m + b) → (y ≡ cur → ⊥) → None ≡ whole
  unfolding closing
  walk_unclosed y l e q d = sym (simp (eq-eqb (next_of (links_of m w) cur) (m + b) (rw g.after at e), ne_eqb (prev_of (links_of m w) (m + b)) cur (rw q at d))) ∙ last l

  pub walk_closed : (y : ℕ) → m ≤ x → x ≡ m + b → y ≡ prev_of (links_of m w) (m + b) → y ≡ cur → Some left ≡ whole
  unfolding closing
  walk_closed y l e q d = sym (simp (eq-eqb (next_of (links_of m w) cur) (m + b) (rw g.after at e), eq-eqb (prev_of (links_of m w) (m + b)) cur (rw q at d))) ∙ last l

-- the loop of `walk_on`: cur is a place, not the last, and p its page
pub record WalkedOn (w : List ℕ) (m k b z : ℕ) (whole : Option ℕ) (left cur p x : ℕ) : Type 0 where
  pub walked : Walked w m k b whole left cur x
  pub place : cur < m
  pub page : p ≡ page_of w cur
  pub last : z ≡ prev_of (links_of m w) (m + b)
  pub other : cur ≡ z → ⊥

pub on_walk : (w : List ℕ) (m : ℕ) (d : Divisor) (b z a : ℕ) → CanGoOn w m d b z a → CanWalk w m d b
on_walk w m d b z a can = can.walk

pub on_place : (w : List ℕ) (m : ℕ) (d : Divisor) (b z a : ℕ) → CanGoOn w m d b z a → a < m
on_place w m d b z a can = can.place

pub on_start : (w : List ℕ) (m : ℕ) (d : Divisor) (b z most a p x : ℕ) → CanGoOn w m d b z a → p ≡ page_of w a → x ≡ next_of (links_of m w) a → WalkedOn w m d.k b z (walk_from w m d.k b most a) most a p x
on_start w m d b z most a p x can e q = record { walked = record { after = q; same = refl }; place = can.place; page = e; last = can.last; other = can.other }

module _ (w : List ℕ) (m k b z : ℕ) (whole : Option ℕ) (left cur p x : ℕ) (g : WalkedOn w m k b z whole left cur p x) where
  pub on_walked : Walked w m k b whole left cur x
  on_walked = g.walked

  pub on_ends : m ≤ x → None ≡ whole
  on_ends l =
      ⊎_elim (λ e. walk_unclosed w m k b whole left cur x g.walked _ l e refl (λ i. g.other (sym i ∙ sym g.last))) (λ e. walk_astray w m k b whole left cur x g.walked l e) (same_or_other x (m + b))

  module _ (y q : ℕ) (l : x < m) (n : left ≡ 0 → ⊥) (v : y ≡ prev_of (links_of m w) x) (e : y ≡ cur) (d : q ≡ page_of w x) where
    pub on_falls : q ≤ p → None ≡ whole
    on_falls h = sym (rw (falls w m k b cur x g.place (rw (d, g.page) at h)) refl) ∙ walk_linked w m k b whole left cur x g.walked y l n v e

    module _ (t : Bool) (h : p < q) (i : t ≡ eqb (bucket_of k q) b) where
      pub on_strange : t ≡ false → None ≡ whole
      on_strange o = sym (rw (strange w m k b cur x (rw d at (sym i ∙ o))) refl) ∙ walk_linked w m k b whole left cur x g.walked y l n v e

      module _ (o : t ≡ true) (j : ℕ) (u : j ≡ next_of (links_of m w) x) where
        onward : walk_from w m k b (left - 1) x ≡ whole
        onward = sym (rw (suited w m k b cur x (rw d at (sym i ∙ o)) (next_least w m cur x g.place (rw (g.page, d) at h))) refl) ∙ walk_linked w m k b whole left cur x g.walked y l n v e

        pub on_closed : x ≡ z → j ≡ m + b → Some (left - 1) ≡ whole
        on_closed f c = sym (last_closes w m k b (left - 1) x l (sym (f ∙ g.last)) (sym u ∙ c)) ∙ onward

        pub on_strays : x ≡ z → (j ≡ m + b → ⊥) → None ≡ whole
        on_strays f c = sym (last_strays w m k b (left - 1) x l (sym (f ∙ g.last)) (λ r. c (u ∙ r))) ∙ onward

        pub on_turn : (x ≡ z → ⊥) → WalkedOn w m k b z whole (left - 1) x q j
        on_turn f = record { walked = record { after = u; same = onward }; place = l; page = d; last = g.last; other = f }

-- the first step of `walk`: x stands first
pub first_walked : (w : List ℕ) (m k b most x : ℕ) → x ≡ next_of (links_of m w) (m + b) → Walked w m k b (walk_of w m k b most) most (m + b) x
unfolding walk_of
first_walked w m k b most x q = record { after = q; same = refl }

module _ (w : List ℕ) (m k b most x : ℕ) (q : x ≡ next_of (links_of m w) (m + b)) where
  pub first_full : x < m → most ≡ 0 → None ≡ walk_of w m k b most
  first_full l e = walk_full w m k b _ most (m + b) x (first_walked w m k b most x q) l e

  pub first_astray : m ≤ x → (x ≡ m + b → ⊥) → None ≡ walk_of w m k b most
  first_astray l e = walk_astray w m k b _ most (m + b) x (first_walked w m k b most x q) l e

  first_unclosed : m ≤ x → x ≡ m + b → (prev_of (links_of m w) (m + b) ≡ m + b → ⊥) → None ≡ walk_of w m k b most
  first_unclosed l e d = walk_unclosed w m k b _ most (m + b) x (first_walked w m k b most x q) _ l e refl d

  pub first_closed : m ≤ x → x ≡ m + b → prev_of (links_of m w) (m + b) ≡ m + b → Some most ≡ walk_of w m k b most
  first_closed l e d = walk_closed w m k b _ most (m + b) x (first_walked w m k b most x q) _ l e refl d

  module _ (y : ℕ) (l : x < m) (n : most ≡ 0 → ⊥) (v : y ≡ prev_of (links_of m w) x) where
    pub first_unlinked : (y ≡ m + b → ⊥) → None ≡ walk_of w m k b most
    first_unlinked e = walk_unlinked w m k b _ most (m + b) x (first_walked w m k b most x q) y l n v e

    module _ (p : ℕ) (e : y ≡ m + b) (d : p ≡ page_of w x) (t : Bool) (i : t ≡ eqb (bucket_of k p) b) where
      pub first_strange : t ≡ false → None ≡ walk_of w m k b most
      first_strange z = sym (rw (strange w m k b (m + b) x (rw d at (sym i ∙ z))) refl) ∙ walk_linked w m k b _ most (m + b) x (first_walked w m k b most x q) y l n v e

      pub first_rest : (r : Option ℕ) → t ≡ true → r ≡ walk_from w m k b (most - 1) x → r ≡ walk_of w m k b most
      first_rest r z j =
          j ∙ sym (rw (suited w m k b (m + b) x (rw d at (sym i ∙ z)) (first_least w m (m + b) x (omega arith))) refl) ∙ walk_linked w m k b _ most (m + b) x (first_walked w m k b most x q) y l n v e

-- `walk`: x stands first, and another, z, last
pub pass_walk : (w : List ℕ) (m : ℕ) (d : Divisor) (b x z : ℕ) → CanPass w m d b x z → CanWalk w m d b
pass_walk w m d b x z can = can.walk

module _ (w : List ℕ) (m : ℕ) (d : Divisor) (b most x z : ℕ) (can : CanPass w m d b x z) where
  pub pass_high : m ≤ x → None ≡ walk_of w m d.k b most
  pass_high l = ⊎_elim (λ e. first_unclosed w m d.k b most x can.first l e (λ i. can.other (e ∙ sym i ∙ sym can.last))) (λ e. first_astray w m d.k b most x can.first l e) (same_or_other x (m + b))

  pub pass_full : x < m → most ≡ 0 → None ≡ walk_of w m d.k b most
  pass_full l e = first_full w m d.k b most x can.first l e

  pub pass_on : x < m → CanGoOn w m d b z x
  pass_on l = record { walk = can.walk; place = l; last = can.last; other = can.other }

  module _ (y : ℕ) (l : x < m) (n : most ≡ 0 → ⊥) (v : y ≡ prev_of (links_of m w) x) where
    pub pass_unlinked : (y ≡ m + b → ⊥) → None ≡ walk_of w m d.k b most
    pass_unlinked e = first_unlinked w m d.k b most x can.first y l n v e

    module _ (p : ℕ) (e : y ≡ m + b) (g : p ≡ page_of w x) (t : Bool) (i : t ≡ eqb (bucket_of d.k p) b) where
      pub pass_strange : t ≡ false → None ≡ walk_of w m d.k b most
      pass_strange o = first_strange w m d.k b most x can.first y l n v p e g t i o

      pub pass_rest : (r : Option ℕ) → t ≡ true → r ≡ walk_from w m d.k b (most - 1) x → r ≡ walk_of w m d.k b most
      pass_rest r o j = first_rest w m d.k b most x can.first y l n v p e g t i r o j

pub ruleset on_laws = (walk_root, walk_in, walk_page, walk_belong, walk_fits, on_walk, on_place, on_start, on_walked, on_ends, walk_full, walk_unlinked, on_falls, on_strange, on_closed, on_strays, on_turn, rules)

pub ruleset pass_laws = (walk_root, walk_in, walk_page, walk_belong, walk_fits, pass_walk, pass_high, pass_full, pass_on, pass_unlinked, pass_strange, pass_rest, rules)

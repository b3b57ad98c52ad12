-- The laws that answer the needs of the checks, in the shape in which the code leaves them. In order: what the calls on a part ask; the lists; the lookup;
-- the dead places; the sums; the parts; all. Assumes nothing.
use mathlib.Core.Path.{◌≡◌, refl, sym, ap, ◌∙◌}
use mathlib.Core.Bool.{Bool, true, false}
use mathlib.Core.List.{List}
use Prim.Native.Nat.{ℕ, ◌+◌, ◌-◌, ◌*◌, ◌<◌, ◌≤◌}
use native.Mathlib.Omega.{arith}
use lib.ListN.{length, get_or}
use lib.Dec.{leb}
use borrow.Author.Rules.{rules}
use borrow.Author.Tests.{eq-eqb, ne_eqb, lt-ltb, le-ltb}
use Rattle.rules.specs.declared.Side.{Side}
use Rattle.rules.specs.declared.Side.TheVariants.{First as first, Second as second}
use Rattle.rings.specs.Rings.{members_of}
use Rattle.tails.specs.Tails.{tail_of}
use Rattle.residents.specs.Residents as residents
use Rattle.residents.specs.Tests.{residents_test}
use Rattle.ghosts.specs.Ghosts as ghosts
use Rattle.ghosts.specs.Ghosts.{ghosts_test}
use Rattle.lookup.specs.Buckets.{buckets_of, places_of}
use Rattle.lookup.specs.Part as lookup
use Rattle.lookup_check.specs.Check.{lookup_test}
use Rattle.area_state.specs.Parts.{Parts, number_of}
use Rattle.area.specs.Part.{part}
use Rattle.area.specs.Area.{residents_in, ghosts_in, lookup_in, end_at, parts_of, Starts, Fit}
use Rattle.area.proofs.Laws.{ghosts_part}
use Rattle.state_check.specs.Check.{Fits, Listed, Few, CanTellAll, CanSpare, deads_test, row_count, live_count, lists_test, held_test, dead_test, sums_test, parts_test, state_test}
use Rattle.area.proofs.Laws.{residents_room, ghosts_room}
use Rattle.area.proofs.Rooms.{lookup_room, have_room}
use Rattle.state_check.proofs.Lists.{AreLists, lists_sound, first_few, second_few, ghost_few}

-- ---- what the calls on a part ask
pub residents_asks : (c : ℕ) (w : List ℕ) → Fits c w → residents.Room (residents_in c w) c
residents_asks c w f = residents_room c w f.small f.size

pub ghosts_asks : (c : ℕ) (i : Side) (a : ℕ) (w : List ℕ) → c ≤ 1024 → end_at c ≤ length w → Starts c i a → ghosts.Room (part a (a + 2 * c + 5) w) c
ghosts_asks c i a w small size s = rw (ghosts_part c i a w s) (ghosts_room c w small size i)

pub ghosts_at_lem : (c : ℕ) (i : Side) (a : ℕ) (w : List ℕ) (r : Bool) → Starts c i a → r ≡ ghosts_test (part a (a + 2 * c + 5) w) c → r ≡ ghosts_test (ghosts_in i c w) c
ghosts_at_lem c i a w r s e = e ∙ ap (λ (l : List ℕ). ghosts_test l c) (ghosts_part c i a w s)

pub lookup_asks : (c k : ℕ) (w : List ℕ) → Fits c w → k ≡ buckets_of c → lookup.Room (lookup_in c w) (3 * c) k
lookup_asks c k w f q = rw q (lookup_room c w f.small f.size)

pub buckets_few : (c k : ℕ) (w : List ℕ) → Fits c w → k ≡ buckets_of c → k ≤ 4096
unfolding buckets_of
buckets_few c k w f q = let h : c ≤ 1024 = f.small in rw q (omega arith)

pub lookup_at_lem : (c k n : ℕ) (l : List ℕ) (r : Bool) → k ≡ buckets_of c → r ≡ lookup_test l (3 * c) k n → r ≡ lookup_test l (places_of c) (buckets_of c) n
lookup_at_lem c k n l r q e = rw q at e

pub fit_of : (c : ℕ) (w : List ℕ) (A : Type 0) → Fits c w → A → Fit c w A
fit_of c w A f a = record { small = f.small; size = f.size; can = a }

-- the walks
pub free_asks : (c : ℕ) (w : List ℕ) → c ≤ 1024 → end_at c ≤ length w → residents.IsResidents (residents_in c w) c → (n : ℕ) → n ≡ residents.count_of (residents_in c w) 2 → CanTellAll (residents_in c w) (3 + 3 * c) (lookup_in c w) c (c + 2) 0 n
unfolding residents.lists_of
free_asks c w small size r n q = record { tell = record { small = small; within = r.room.head; ring = r.rings 2 (omega arith); lookup = lookup_room c w small size; first = omega arith }; count = sym (q ∙ r.counts 2 (omega arith)) }

pub free_is : (c : ℕ) (w k : List ℕ) (r : Bool) → r ≡ deads_test k (places_of c) 0 (members_of (tail_of (3 + 3 * c) w) c (c + 2)) → r ≡ deads_test k (places_of c) 0 (residents.lists_of w c 2)
unfolding residents.lists_of
free_is c w k r q = q

pub spare_asks : (c : ℕ) (i : Side) (a from : ℕ) (w : List ℕ) → c ≤ 1024 → end_at c ≤ length w → Starts c i a → from ≤ 2 * c → ghosts.IsGhosts (ghosts_in i c w) c → (n : ℕ) → n ≡ ghosts.count_of (ghosts_in i c w) → CanTellAll (part a (a + 2 * c + 5) w) 1 (lookup_in c w) c (c + 1) from (c - n)
unfolding ghosts.spare_of
spare_asks c i a from w small size s f g n q =
    let e : ghosts.count_of (ghosts_in i c w) ≡ length (ghosts.live_of (ghosts_in i c w) c) = g.count in
    let h : length (ghosts.live_of (ghosts_in i c w) c) + length (ghosts.spare_of (ghosts_in i c w) c) ≡ c = g.all in
    let z : length (ghosts.spare_of (ghosts_in i c w) c) ≡ c - n = omega arith in
    rw (ghosts_part c i a w s) (record { tell = record { small = small; within = g.room.head; ring = g.spares; lookup = lookup_room c w small size; first = f }; count = z })

pub spare_less : (c : ℕ) (i : Side) (n : ℕ) (w : List ℕ) (from : ℕ) → CanSpare c w i from → n ≡ ghosts.count_of (ghosts_in i c w) → n ≤ c
spare_less c i n w from h q =
    let e : ghosts.count_of (ghosts_in i c w) ≡ length (ghosts.live_of (ghosts_in i c w) c) = h.ghosts.count in
    let z : length (ghosts.live_of (ghosts_in i c w) c) + length (ghosts.spare_of (ghosts_in i c w) c) ≡ c = h.ghosts.all in
    omega arith

pub spare_is : (c : ℕ) (i : Side) (a from : ℕ) (w k : List ℕ) (r : Bool) → Starts c i a → r ≡ deads_test k (places_of c) from (members_of (tail_of 1 (part a (a + 2 * c + 5) w)) c (c + 1)) → r ≡ deads_test k (places_of c) from (ghosts.spare_of (ghosts_in i c w) c)
unfolding ghosts.spare_of
spare_is c i a from w k r s q = rw (ghosts_part c i a w s) at q

-- ---- the lists
module _ (c : ℕ) (w : List ℕ) (t : Bool) (q : t ≡ residents_test (residents_in c w) c) where
  pub lists_first : t ≡ false → false ≡ lists_test c (parts_of c w)
  unfolding lists_test parts_of
  lists_first e = rw (sym q ∙ e) refl

  module _ (u : Bool) (e : t ≡ true) (p : u ≡ ghosts_test (ghosts_in first c w) c) where
    pub lists_second : u ≡ false → false ≡ lists_test c (parts_of c w)
    unfolding lists_test parts_of
    lists_second f = rw (sym q ∙ e, sym p ∙ f) refl

    pub lists_third : (v : Bool) → u ≡ true → v ≡ ghosts_test (ghosts_in second c w) c → v ≡ lists_test c (parts_of c w)
    unfolding lists_test parts_of
    lists_third v f y = rw (sym q ∙ e, sym p ∙ f) y

pub listed_of : (c : ℕ) (w : List ℕ) (t : Bool) → Fits c w → t ≡ lists_test c (parts_of c w) → t ≡ true → Listed c w
listed_of c w t f q e = record { fits = f; lists = sym q ∙ e }

are : (c : ℕ) (w : List ℕ) → Listed c w → AreLists c (parts_of c w)
are c w l = lists_sound c (parts_of c w) (have_room c w l.fits.small l.fits.size) l.lists

pub listed_fits : (c : ℕ) (w : List ℕ) → Listed c w → Fits c w
listed_fits c w l = l.fits

-- ---- the counts
module _ (c : ℕ) (w : List ℕ) (l : Listed c w) where
  small_first : residents.count_of (residents_in c w) 0 ≤ 1024
  unfolding parts_of
  small_first = let h : residents.count_of (residents_in c w) 0 ≤ c = first_few c (parts_of c w) (are c w l) in let s : c ≤ 1024 = l.fits.small in omega arith

  small_second : residents.count_of (residents_in c w) 1 ≤ 1024
  unfolding parts_of
  small_second = let h : residents.count_of (residents_in c w) 1 ≤ c = second_few c (parts_of c w) (are c w l) in let s : c ≤ 1024 = l.fits.small in omega arith

  small_ghosts : (i : Side) → ghosts.count_of (ghosts_in i c w) ≤ 1024
  unfolding parts_of
  small_ghosts first = let h : ghosts.count_of (ghosts_in first c w) ≤ c = ghost_few c (parts_of c w) (are c w l) first in let s : c ≤ 1024 = l.fits.small in omega arith
  small_ghosts second = let h : ghosts.count_of (ghosts_in second c w) ≤ c = ghost_few c (parts_of c w) (are c w l) second in let s : c ≤ 1024 = l.fits.small in omega arith

  small_slots : (i : Side) → residents.count_of (residents_in c w) (number_of i) ≤ 1024
  small_slots first = small_first
  small_slots second = small_second

  pub slots_few : (i : Side) (n r : ℕ) → n ≡ number_of i → r ≡ residents.count_of (residents_in c w) n → Few (residents.count_of (residents_in c w) (number_of i)) r
  slots_few i n r z q = let y = rw z at q in record { is = y; small = rw y (small_slots i) }

  pub cells_few : (i : Side) (r : ℕ) → r ≡ ghosts.count_of (ghosts_in i c w) → Few (ghosts.count_of (ghosts_in i c w)) r
  cells_few i r q = record { is = q; small = rw q (small_ghosts i) }

  pub live_few : live_count (parts_of c w) ≤ 4096
  unfolding parts_of live_count
  live_few =
      let a : residents.count_of (residents_in c w) 0 ≤ 1024 = small_first in
      let b : residents.count_of (residents_in c w) 1 ≤ 1024 = small_second in
      let d : ghosts.count_of (ghosts_in first c w) ≤ 1024 = small_ghosts first in
      let e : ghosts.count_of (ghosts_in second c w) ≤ 1024 = small_ghosts second in
      omega arith

  pub free_can : residents.IsResidents (residents_in c w) c
  unfolding parts_of
  free_can = (are c w l).residents

  pub spare_can : (i : Side) → ghosts.IsGhosts (ghosts_in i c w) c
  unfolding parts_of
  spare_can first = (are c w l).ghosts first
  spare_can second = (are c w l).ghosts second

  pub free_fit : Fit c w (residents.IsResidents (residents_in c w) c)
  free_fit = fit_of c w _ l.fits free_can

  pub spare_fit : (i : Side) (from : ℕ) → from ≤ 2 * c → CanSpare c w i from
  spare_fit i from f = record { small = l.fits.small; size = l.fits.size; first = f; ghosts = spare_can i }

pub twice : (c : ℕ) → c ≤ 2 * c
twice c = omega arith

pub row_is : (c : ℕ) (w : List ℕ) (a b : ℕ) → a ≡ residents.count_of (residents_in c w) 0 → b ≡ ghosts.count_of (ghosts_in first c w) → a + b ≡ row_count (parts_of c w)
unfolding row_count parts_of
row_is c w a b p q = rw (p, q) refl

pub live_is : (c : ℕ) (w : List ℕ) (a b d e : ℕ) → a ≡ residents.count_of (residents_in c w) 0 → b ≡ residents.count_of (residents_in c w) 1 → d ≡ ghosts.count_of (ghosts_in first c w) → e ≡ ghosts.count_of (ghosts_in second c w) → a + b + d + e ≡ live_count (parts_of c w)
unfolding live_count parts_of
live_is c w a b d e p q r s = rw (p, q, r, s) refl

-- ---- the lookup
pub held_is_lem : (c : ℕ) (w : List ℕ) (n : ℕ) (t : Bool) → n ≡ live_count (parts_of c w) → t ≡ lookup_test (lookup_in c w) (places_of c) (buckets_of c) n → t ≡ held_test c (parts_of c w)
unfolding held_test parts_of
held_is_lem c w n t q e = rw q at e

-- ---- the dead places
module _ (c : ℕ) (w : List ℕ) (t : Bool) (q : t ≡ deads_test (lookup_in c w) (places_of c) 0 (residents.lists_of (residents_in c w) c 2)) where
  pub dead_first : t ≡ false → false ≡ dead_test c (parts_of c w)
  unfolding dead_test parts_of
  dead_first e = rw (sym q ∙ e) refl

  module _ (u : Bool) (e : t ≡ true) (p : u ≡ deads_test (lookup_in c w) (places_of c) c (ghosts.spare_of (ghosts_in first c w) c)) where
    pub dead_second : u ≡ false → false ≡ dead_test c (parts_of c w)
    unfolding dead_test parts_of
    dead_second f = rw (sym q ∙ e, sym p ∙ f) refl

    pub dead_third : (v : Bool) → u ≡ true → v ≡ deads_test (lookup_in c w) (places_of c) (2 * c) (ghosts.spare_of (ghosts_in second c w) c) → v ≡ dead_test c (parts_of c w)
    unfolding dead_test parts_of
    dead_third v f y = rw (sym q ∙ e, sym p ∙ f) y

-- ---- the sums, of ARC
module _ (c : ℕ) (p : Parts) where
  pub sums_row : (n : ℕ) → n ≡ row_count p → c + 1 < n → false ≡ sums_test 1 c p
  unfolding sums_test
  sums_row n e h = rw (lt-ltb (c + 1) (row_count p) (rw e at h)) refl

  pub sums_all : (n m : ℕ) → n ≡ row_count p → n ≤ c + 1 → m ≡ live_count p → leb m (2 * c + 1) ≡ sums_test 1 c p
  unfolding sums_test
  sums_all n m e h f = rw (le-ltb (c + 1) (row_count p) (rw e at h), f) refl

-- ---- the parts
module _ (kind c : ℕ) (p : Parts) (t : Bool) (q : t ≡ lists_test c p) where
  pub parts_lists : t ≡ false → false ≡ parts_test kind c p
  unfolding parts_test
  parts_lists e = rw (sym q ∙ e) refl

  module _ (u : Bool) (e : t ≡ true) (y : u ≡ dead_test c p) where
    pub parts_dead : u ≡ false → false ≡ parts_test kind c p
    unfolding parts_test
    parts_dead f = rw (sym q ∙ e, sym y ∙ f) refl

    pub parts_other : (b : Bool) → u ≡ true → (kind ≡ 1 → ⊥) → b ≡ held_test c p → b ≡ parts_test kind c p
    unfolding parts_test sums_test
    parts_other b f n x = rw (sym q ∙ e, sym y ∙ f, ne_eqb kind 1 n) x

    module _ (v : Bool) (f : u ≡ true) (k : kind ≡ 1) (z : v ≡ sums_test 1 c p) where
      pub parts_sums : v ≡ false → false ≡ parts_test kind c p
      unfolding parts_test
      parts_sums g = rw (k, sym q ∙ e, sym y ∙ f, sym z ∙ g) refl

      pub parts_held : (b : Bool) → v ≡ true → b ≡ held_test c p → b ≡ parts_test kind c p
      unfolding parts_test
      parts_held b g x = rw (k, sym q ∙ e, sym y ∙ f, sym z ∙ g) x

-- ---- all
module _ (kind : ℕ) (w : List ℕ) where
  pub state_short : length w < 64 → false ≡ state_test kind w
  unfolding state_test
  state_short h = rw (lt-ltb (length w) 64 h) refl

  module _ (a : 64 ≤ length w) where
    pub state_kind : (get_or w 0 0 ≡ kind → ⊥) → false ≡ state_test kind w
    unfolding state_test
    state_kind n = rw (le-ltb (length w) 64 a, ne_eqb (get_or w 0 0) kind n) refl

    module _ (k : get_or w 0 0 ≡ kind) where
      pub state_capacity : 1024 < get_or w 1 0 → false ≡ state_test kind w
      unfolding state_test
      state_capacity h = rw (le-ltb (length w) 64 a, eq-eqb (get_or w 0 0) kind k, lt-ltb 1024 (get_or w 1 0) h) refl

      module _ (b : get_or w 1 0 ≤ 1024) where
        pub state_words : length w < 24 * get_or w 1 0 + 64 → false ≡ state_test kind w
        unfolding state_test
        state_words h = rw (le-ltb (length w) 64 a, eq-eqb (get_or w 0 0) kind k, le-ltb 1024 (get_or w 1 0) b, lt-ltb (length w) (24 * get_or w 1 0 + 64) h) refl

        module _ (d : 24 * get_or w 1 0 + 64 ≤ length w) where
          pub state_fits : Fits (get_or w 1 0) w
          state_fits = record { small = b; size = d }

          pub state_target : get_or w 1 0 < get_or w 2 0 → false ≡ state_test kind w
          unfolding state_test
          state_target h = rw (le-ltb (length w) 64 a, eq-eqb (get_or w 0 0) kind k, le-ltb 1024 (get_or w 1 0) b, le-ltb (length w) (24 * get_or w 1 0 + 64) d, lt-ltb (get_or w 1 0) (get_or w 2 0) h) refl

          pub state_parts : (r : Bool) → get_or w 2 0 ≤ get_or w 1 0 → r ≡ parts_test kind (get_or w 1 0) (parts_of (get_or w 1 0) w) → r ≡ state_test kind w
          unfolding state_test
          state_parts r h q = rw (le-ltb (length w) 64 a, eq-eqb (get_or w 0 0) kind k, le-ltb 1024 (get_or w 1 0) b, le-ltb (length w) (24 * get_or w 1 0 + 64) d, le-ltb (get_or w 1 0) (get_or w 2 0) h) q

pub ruleset laws = (residents_asks, ghosts_asks, ghosts_at_lem, lookup_asks, buckets_few, lookup_at_lem, fit_of, listed_of, listed_fits, rules)

pub ruleset list_laws = (lists_first, lists_second, lists_third, fit_of, rules)

pub ruleset count_laws = (row_is, live_is, slots_few, cells_few, fit_of, listed_fits, rules)

pub ruleset dead_laws = (dead_first, dead_second, dead_third, free_fit, spare_fit, twice, rules)

pub ruleset sum_laws = (sums_row, sums_all, live_few, rules)

pub ruleset part_laws = (parts_lists, parts_held, parts_dead, parts_other, parts_sums, listed_of, rules)

pub ruleset state_laws = (state_short, state_kind, state_capacity, state_words, state_fits, state_target, state_parts, rules)

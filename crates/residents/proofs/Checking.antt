-- The laws that answer the needs of the checks, in the shape in which the code leaves them. Assumes nothing.
use mathlib.Core.Path.{◌≡◌, refl, sym, ◌∙◌}
use mathlib.Core.Bool.{Bool, true, false}
use mathlib.Core.List.{List, [], ◌∷◌}
use Prim.Native.Nat.{ℕ, ◌+◌, ◌*◌, ◌^◌, ◌<◌, ◌≤◌}
use native.Mathlib.Omega.{arith}
use lib.ListN.{get_or}
use lib.Dec.{eqb, ltb}
use borrow.Author.Rules.{rules}
use borrow.Author.Tests.{eq-eqb, ne_eqb, lt-ltb, le-ltb}
use Rattle.cells.proofs.Laws.{in_below}
use Rattle.rings.specs.Rings.{members_of}
use Rattle.rings.specs.Walks.{between, each, ring_test, CanWalk}
use Rattle.rings.proofs.Walks.{ends_are}
use Rattle.tails.specs.Tails.{tail_of, Tail}
use Rattle.residents.specs.Residents.{links_of, count_of, frame_of, list_of, bit_of, lists_of}
use Rattle.residents.specs.Changes.{HasList}
use Rattle.residents.specs.Tests.{counts_test, ring_at, slot_test, slots_test, side_test, residents_test}

-- the counts
module _ (w : List ℕ) (c : ℕ) where
  pub counts_first : c < get_or w 0 0 → false ≡ counts_test w c
  unfolding counts_test count_of
  counts_first h = rw (lt-ltb c (get_or w 0 0) h) refl

  pub counts_second : get_or w 0 0 ≤ c → c < get_or w 1 0 → false ≡ counts_test w c
  unfolding counts_test count_of
  counts_second a h = rw (le-ltb c (get_or w 0 0) a, lt-ltb c (get_or w 1 0) h) refl

  pub counts_third : get_or w 0 0 ≤ c → get_or w 1 0 ≤ c → c < get_or w 2 0 → false ≡ counts_test w c
  unfolding counts_test count_of
  counts_third a b h = rw (le-ltb c (get_or w 0 0) a, le-ltb c (get_or w 1 0) b, lt-ltb c (get_or w 2 0) h) refl

  pub counts_sum : get_or w 0 0 ≤ c → get_or w 1 0 ≤ c → get_or w 2 0 ≤ c → eqb (get_or w 0 0 + get_or w 1 0 + get_or w 2 0) c ≡ counts_test w c
  unfolding counts_test count_of
  counts_sum a b d = rw (le-ltb c (get_or w 0 0) a, le-ltb c (get_or w 1 0) b, le-ltb c (get_or w 2 0) d) refl

pub ruleset count_laws = (counts_first, counts_second, counts_third, counts_sum, rules)

pub ring_is : (w : List ℕ) (c i : ℕ) (t : Bool) → t ≡ ring_test (tail_of (3 + 3 * c) w) c (c + i) (get_or w i 0) → t ≡ ring_at w c i
unfolding ring_at count_of
ring_is w c i t q = q

-- a slot
module _ (w : List ℕ) (c i e l : ℕ) (q : l ≡ list_of w c e) where
  pub slot_astray : (l ≡ i → ⊥) → false ≡ slot_test w c i e
  unfolding slot_test
  slot_astray d = rw (ne_eqb (list_of w c e) i (rw q at d)) refl

  module _ (f : ℕ) (z : l ≡ i) (p : f ≡ frame_of w e) where
    pub slot_wide : 4294967296 ≤ f → false ≡ slot_test w c i e
    unfolding slot_test
    slot_wide h = rw (eq-eqb (list_of w c e) i (rw q at z), le-ltb (frame_of w e) (2 ^ 32) (rw p at h)) refl

    pub slot_bit : (b : ℕ) → f < 4294967296 → b ≡ bit_of w c e → ltb b 2 ≡ slot_test w c i e
    unfolding slot_test
    slot_bit b h y = rw (eq-eqb (list_of w c e) i (rw q at z), lt-ltb (frame_of w e) (2 ^ 32) (rw p at h), y) refl

pub ruleset slot_laws = (slot_astray, slot_wide, slot_bit, rules)

-- the walk of list i, with the test of a slot
slots_each : (w : List ℕ) (c i : ℕ) (xs : List ℕ) → each (slot_test w c i) xs ≡ slots_test w c i xs
slots_each w c i [] = refl
slots_each w c i (x ∷ xs) = rw (slots_each w c i xs) refl

pub side_walk : (w : List ℕ) (c i : ℕ) → HasList w c i → CanWalk (links_of c w) c (c + i)
side_walk w c i h = let k : i < 3 = h.list in record { high = omega arith; root = in_below (links_of c w) (c + 2) (c + i) h.room.links (omega arith) }

pub side_asks : (w : List ℕ) (c i : ℕ) → HasList w c i → Tail w (3 + 3 * c) (CanWalk (tail_of (3 + 3 * c) w) c (c + i))
side_asks w c i h = record { within = h.room.head; can = side_walk w c i h }

pub side_is : (w : List ℕ) (c i : ℕ) → HasList w c i → (t : Bool) → t ≡ between (tail_of (3 + 3 * c) w) c (slot_test w c i) (get_or w i 0) (c + i) (c + i) → t ≡ side_test w c i
unfolding side_test ring_at count_of lists_of
side_is w c i h t q = q ∙ ends_are (links_of c w) c (slot_test w c i) (c + i) (get_or w i 0) (side_walk w c i h) ∙ (rw (slots_each w c i (members_of (links_of c w) c (c + i))) refl)

-- all
module _ (w : List ℕ) (c : ℕ) (t : Bool) (q : t ≡ counts_test w c) where
  pub check_counts : t ≡ false → false ≡ residents_test w c
  unfolding residents_test
  check_counts e = rw (sym q ∙ e) refl

  module _ (u : Bool) (e : t ≡ true) (p : u ≡ side_test w c 0) where
    pub check_first : u ≡ false → false ≡ residents_test w c
    unfolding residents_test
    check_first f = rw (sym q ∙ e, sym p ∙ f) refl

    module _ (v : Bool) (f : u ≡ true) (y : v ≡ side_test w c 1) where
      pub check_second : v ≡ false → false ≡ residents_test w c
      unfolding residents_test
      check_second g = rw (sym q ∙ e, sym p ∙ f, sym y ∙ g) refl

      pub check_all : (b : Bool) → v ≡ true → b ≡ ring_at w c 2 → b ≡ residents_test w c
      unfolding residents_test
      check_all b g z = rw (sym q ∙ e, sym p ∙ f, sym y ∙ g) z

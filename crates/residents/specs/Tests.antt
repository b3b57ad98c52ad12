-- The test of the residents, for any words. Assumes nothing.
use Rattle.std.specs.Prelude.{Bool, true, false, cond, List, [], ◌∷◌, ℕ, ◌+◌, ◌^◌, eqb, ltb}
use Rattle.rings.specs.Walks.{ring_test}
use Rattle.residents.specs.Residents.{links_of, count_of, frame_of, list_of, bit_of, lists_of}

-- no count passes c, and the three together are c
unfoldable pub counts_test : List ℕ → ℕ → Bool
counts_test w c =
    cond (ltb c (count_of w 0)) false
    (cond (ltb c (count_of w 1)) false
    (cond (ltb c (count_of w 2)) false
    (eqb (count_of w 0 + count_of w 1 + count_of w 2) c)))

-- list i is the ring of its sentinel, with as many slots as its count says
unfoldable pub ring_at : List ℕ → ℕ → ℕ → Bool
ring_at w c i = ring_test (links_of c w) c (c + i) (count_of w i)

-- slot e holds a resident of list i; each of these slots does
unfoldable pub slot_test : List ℕ → ℕ → ℕ → ℕ → Bool
slot_test w c i e = cond (eqb (list_of w c e) i) (cond (ltb (frame_of w e) (2 ^ 32)) (ltb (bit_of w c e) 2) false) false

abbrev pub slots_test : List ℕ → ℕ → ℕ → List ℕ → Bool
slots_test w c i [] = true
slots_test w c i (x ∷ xs) = cond (slot_test w c i x) (slots_test w c i xs) false

unfoldable pub side_test : List ℕ → ℕ → ℕ → Bool
side_test w c i = cond (ring_at w c i) (slots_test w c i (lists_of w c i)) false

-- THE TEST
unfoldable pub residents_test : List ℕ → ℕ → Bool
residents_test w c =
    cond (counts_test w c) (cond (side_test w c 0) (cond (side_test w c 1) (ring_at w c 2) false) false) false
